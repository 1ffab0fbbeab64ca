-- What is read as the first token of a text is a token there.
use Rattle.std.proofs.Common.{◌≡◌, refl, sym, ◌∙◌, ap, subst, ℕ, zero, suc, ◌+◌, ◌-◌, ◌*◌, ◌==◌, ◌≤◌, Bool, true, false, not, List, [], ◌∷◌, ◌++◌, append_assoc, length, arith}
use Rattle.std.specs.Prelude.{Option, Some, None, cond, ◌&&◌, ◌||◌, codes}
use Rattle.std.proofs.lemmas.Bool.{eqb-true}
use Rattle.re_tree.specs.declared.tree.CountMode.{CountMode}
use Rattle.re_tree.specs.declared.tree.CountMode.TheVariants.{Greedy, Lazy, Possessive}
use Rattle.re_tree.specs.declared.unit.UnitItem.{UnitItem}
use Rattle.re_tree.specs.declared.unit.UnitItem.TheVariants.{Category}
use Rattle.re_tree.specs.PlainText.{PlainTest, dot, dot_all, literal, set, GroupName, numbered, named}
use Rattle.re_tree.specs.Tokens.{Opening, capturing, non_capturing, atomic_opening, look_opening, conditional_opening, Token, unit_token, anchor_token, reference_token, count_token, open_token, bar, close}
use Rattle.py_base.specs.Reading.{find}
use Rattle.re_tree.specs.Tables.{Sign, escapes, dots, lines, counts, braces, brackets, opens, closes, splits, signs, Letter, is_character_of, digits_follow, categories, anchors, letters, Extension, opens_as, looks_behind, has_name, is_conditional, extensions}
use Rattle.re_tree.specs.Sets.{AreItems, Items, items_at, caret_if}
use Rattle.re_tree.proofs.SetLemmas.{items_written, items_split}
use Rattle.re_tree.specs.Characters.{read_hex, if_flag, is_digit, is_octal, is_ascii_non_alphanumeric, first_is}
use Rattle.re_tree.specs.Grammar.{Flags, is_first_digit, has, WritesBounds, by_sign, WritesMode, BeginsNoCount, WritesCharacter, itself, brace, escaped_itself, escaped_letter, hexadecimal, id_of, WritesNumber, one, two, WritesOpening, WritesAnchor, line_anchor, letter_anchor, WritesSet, alone, in_brackets, WritesTest, IsToken}
use Rattle.re_tree.specs.Reading.{Found, if_dotall, Bounds, read_bounds, with_mode, brace_token, add_first, up_to, named_opening, named_reference, named_conditional, name_token, lookbehind_token, extension_token, extended, opening_token, number_token, letter_token, escape_token, sign_token, first_token, set_token, bracket_token, hex_token}
use Rattle.re_tree.proofs.HexLemmas.{HexWritten, hex_written}
use Rattle.re_tree.proofs.TableLemmas.{key_is}
use Rattle.re_tree.proofs.BoundLemmas.{cond_true, cond_false, exactly_read, between_read, Bounded, read_is, append_nil}
use Rattle.re_tree.proofs.TokenReadLemmas.{bounds_token}

-- the text begins with the token
pub record Written (flags : Flags) (p : ℕ) (text : List ℕ) (t : Token) (rest : List ℕ) : Type 0 where
  pub written : List ℕ
  pub is : text ≡ written ++ rest
  pub token : IsToken flags t p written rest

abbrev found_of : Found → Token × List ℕ
found_of None = (bar, [])
found_of (Some x) = x

given : (flags : Flags) (p : ℕ) (text : List ℕ) (t u : Token) (rest x : List ℕ) → ◌≡◌ {A = Found} (Some (u, x)) (Some (t, rest)) → Written flags p text u x → Written flags p text t rest
given flags p text t u rest x e h =
    subst (λ (y : Token × List ℕ). Written flags p text y.0 y.1) (ap found_of e) h

none_given : {X : Type 0} (t : Token) (rest : List ℕ) → ◌≡◌ {A = Found} None (Some (t, rest)) → X
none_given t rest e = let f : ⊥ = cc e in absurd f

-- a list is its first item and the rest, or empty
choice : {X : Type 0} (b : Bool) (x y : Found) (z : Token × List ℕ) → cond b x y ≡ Some z → (b ≡ true → x ≡ Some z → X) → (b ≡ false → y ≡ Some z → X) → X
choice true x y z e f g = f refl e
choice false x y z e f g = g refl e

-- the mode of a count whose bounds are read
mode_written : (flags : Flags) (p least : ℕ) (most : Option ℕ) (bounds cs : List ℕ) (t : Token) (rest : List ℕ) → WritesBounds least most bounds
    → ◌≡◌ {A = Found} (Some (with_mode p least most cs)) (Some (t, rest)) → Written flags p (bounds ++ cs) t rest
mode_written flags p least most bounds [] t rest w e =
    given flags p (bounds ++ []) t (count_token p least most Greedy) rest [] e
    (record { written = bounds; is = refl; token = (refl, bounds, [], w, (refl, refl, refl), sym (append_nil bounds)) })
mode_written flags p least most bounds (c ∷ cs) t rest w e = at (c == 63) (c == 43) refl refl
  where
    lazy : Token × List ℕ
    lazy = (count_token p least most Lazy, cs)

    at : (a b : Bool) → (c == 63) ≡ a → (c == 43) ≡ b → Written flags p (bounds ++ c ∷ cs) t rest
    at true b f g =
        given flags p (bounds ++ c ∷ cs) t (count_token p least most Lazy) rest cs
        (sym (ap Some (cond_true (c == 63) (count_token p least most Lazy, cs) (cond (c == 43) (count_token p least most Possessive, cs) (count_token p least most Greedy, c ∷ cs)) f)) ∙ e)
        (record { written = bounds ++ 63 ∷ []; is = (λ i. bounds ++ eqb-true c 63 f i ∷ cs) ∙ sym (append_assoc bounds (63 ∷ []) cs); token = (refl, bounds, 63 ∷ [], w, refl, refl) })
    at false true f g =
        given flags p (bounds ++ c ∷ cs) t (count_token p least most Possessive) rest cs
        (sym (ap Some (cond_false (c == 63) (count_token p least most Lazy, cs) (cond (c == 43) (count_token p least most Possessive, cs) (count_token p least most Greedy, c ∷ cs)) f
        ∙ cond_true (c == 43) (count_token p least most Possessive, cs) (count_token p least most Greedy, c ∷ cs) g)) ∙ e)
        (record { written = bounds ++ 43 ∷ []; is = (λ i. bounds ++ eqb-true c 43 g i ∷ cs) ∙ sym (append_assoc bounds (43 ∷ []) cs); token = (refl, bounds, 43 ∷ [], w, refl, refl) })
    at false false f g =
        given flags p (bounds ++ c ∷ cs) t (count_token p least most Greedy) rest (c ∷ cs)
        (sym (ap Some (cond_false (c == 63) (count_token p least most Lazy, cs) (cond (c == 43) (count_token p least most Possessive, cs) (count_token p least most Greedy, c ∷ cs)) f
        ∙ cond_false (c == 43) (count_token p least most Possessive, cs) (count_token p least most Greedy, c ∷ cs) g)) ∙ e)
        (record { written = bounds; is = refl; token = (refl, bounds, [], w, (refl, f, g), sym (append_nil bounds)) })

-- a `{` that begins a count or not
no_count : (cs : List ℕ) → read_bounds cs ≡ None → BeginsNoCount (123 ∷ cs)
no_count cs none least most bounds rest w e = at w
  where
    at : WritesBounds least most bounds → ⊥
    at (by_sign c f i) =
        let k : 123 ≡ c = cc (e ∙ ap (λ l. l ++ rest) i) in
        let g : find signs 123 ≡ Some (counts least most) = subst (λ d. find signs d ≡ Some (counts least most)) (sym k) f in
        cc g
    at (WritesBounds.exactly d ds h i j k) =
        let s : cs ≡ d ∷ (ds ++ 125 ∷ rest) = cc (e ∙ ap (λ l. l ++ rest) k ∙ ap (λ l. 123 ∷ d ∷ l) (append_assoc ds (125 ∷ []) rest)) in
        let u = sym none ∙ ap read_bounds s ∙ exactly_read d ds rest h in cc u
    at (WritesBounds.between ds es h k i j l) =
        let s : cs ≡ ds ++ 44 ∷ (es ++ 125 ∷ rest) = cc (e ∙ ap (λ y. y ++ rest) l ∙ ap (λ y. 123 ∷ y) (append_assoc ds (44 ∷ (es ++ 125 ∷ [])) rest ∙ ap (λ y. ds ++ 44 ∷ y) (append_assoc es (125 ∷ []) rest))) in
        let u = sym none ∙ ap read_bounds s ∙ between_read ds es rest h k in cc u

brace_written : (flags : Flags) (p : ℕ) (cs : List ℕ) (t : Token) (rest : List ℕ) (o : Bounds) → read_bounds cs ≡ o → ◌≡◌ {A = Found} (Some (brace_token p cs o)) (Some (t, rest)) → Written flags p (123 ∷ cs) t rest
brace_written flags p cs t rest None n e =
    given flags p (123 ∷ cs) t (unit_token (literal 123)) rest cs e (record { written = 123 ∷ []; is = refl; token = brace refl refl (no_count cs n) })
brace_written flags p cs t rest (Some b) n e =
    let k : Bounded cs b.0 b.1 b.2 = read_is cs b.2 b.0 b.1 n in
    subst (λ l. Written flags p l t rest) (sym k.text) (mode_written flags p b.0 b.1 k.written b.2 t rest k.writes e)

-- names
pub record Upto (e : ℕ) (cs name x : List ℕ) : Type 0 where
  pub is : cs ≡ (name ++ e ∷ []) ++ x
  pub lacks : has e name ≡ false

abbrev pair_of : Option (List ℕ × List ℕ) → List ℕ × List ℕ
pair_of None = ([], [])
pair_of (Some x) = x

up_more : (e c : ℕ) (cs name x : List ℕ) (o : Option (List ℕ × List ℕ)) → (c == e) ≡ false → ((n y : List ℕ) → o ≡ Some (n, y) → Upto e cs n y) → add_first c o ≡ Some (name, x) → Upto e (c ∷ cs) name x
up_more e c cs name x None f h g = let y : ⊥ = cc g in absurd y
up_more e c cs name x (Some z) f h g =
    let k : Upto e cs z.0 z.1 = h z.0 z.1 refl in
    subst (λ (y : List ℕ × List ℕ). Upto e (c ∷ cs) y.0 y.1) (ap pair_of g)
    (record { is = ap (λ l. c ∷ l) k.is; lacks = ap (λ b. b || has e z.0) f ∙ k.lacks })

up_to_is : (e : ℕ) (cs name x : List ℕ) → up_to e cs ≡ Some (name, x) → Upto e cs name x
up_to_is e [] name x h = let f : ⊥ = cc h in absurd f
up_to_is e (c ∷ cs) name x h = at (up_to_is e cs) (c == e) refl
  where
    at : ((n y : List ℕ) → up_to e cs ≡ Some (n, y) → Upto e cs n y) → (b : Bool) → (c == e) ≡ b → Upto e (c ∷ cs) name x
    at ih true f =
        let g = sym (cond_true (c == e) (Some ([], cs)) (add_first c (up_to e cs)) f) ∙ h in
        subst (λ (y : List ℕ × List ℕ). Upto e (c ∷ cs) y.0 y.1) (ap pair_of g)
        (record { is = ap (λ k. k ∷ cs) (eqb-true c e f); lacks = refl })
    at ih false f = up_more e c cs name x (up_to e cs) f ih (sym (cond_false (c == e) (Some ([], cs)) (add_first c (up_to e cs)) f) ∙ h)

named_written : (flags : Flags) (p : ℕ) (cs : List ℕ) (t : Token) (rest : List ℕ) (o : Option (List ℕ × List ℕ)) → up_to 62 cs ≡ o → named_opening p o ≡ Some (t, rest) → Written flags p (40 ∷ 63 ∷ 80 ∷ 60 ∷ cs) t rest
named_written flags p cs t rest None u e = none_given t rest e
named_written flags p cs t rest (Some x) u e =
    let k : Upto 62 cs x.0 x.1 = up_to_is 62 cs x.0 x.1 u in
    given flags p (40 ∷ 63 ∷ 80 ∷ 60 ∷ cs) t (open_token p (capturing (Some x.0))) rest x.1 e
    (record { written = 40 ∷ 63 ∷ 80 ∷ 60 ∷ (x.0 ++ 62 ∷ []); is = ap (λ l. 40 ∷ 63 ∷ 80 ∷ 60 ∷ l) k.is; token = (refl, (k.lacks, refl)) })

reference_written : (flags : Flags) (p : ℕ) (cs : List ℕ) (t : Token) (rest : List ℕ) (o : Option (List ℕ × List ℕ)) → up_to 41 cs ≡ o → named_reference p o ≡ Some (t, rest) → Written flags p (40 ∷ 63 ∷ 80 ∷ 61 ∷ cs) t rest
reference_written flags p cs t rest None u e = none_given t rest e
reference_written flags p cs t rest (Some x) u e =
    let k : Upto 41 cs x.0 x.1 = up_to_is 41 cs x.0 x.1 u in
    given flags p (40 ∷ 63 ∷ 80 ∷ 61 ∷ cs) t (reference_token p (named x.0)) rest x.1 e
    (record { written = 40 ∷ 63 ∷ 80 ∷ 61 ∷ (x.0 ++ 41 ∷ []); is = ap (λ l. 40 ∷ 63 ∷ 80 ∷ 61 ∷ l) k.is; token = (refl, k.lacks, refl) })

choice_written : (flags : Flags) (p : ℕ) (cs : List ℕ) (t : Token) (rest : List ℕ) (o : Option (List ℕ × List ℕ)) → up_to 41 cs ≡ o → named_conditional p o ≡ Some (t, rest) → Written flags p (40 ∷ 63 ∷ 40 ∷ cs) t rest
choice_written flags p cs t rest None u e = none_given t rest e
choice_written flags p cs t rest (Some x) u e =
    let k : Upto 41 cs x.0 x.1 = up_to_is 41 cs x.0 x.1 u in
    given flags p (40 ∷ 63 ∷ 40 ∷ cs) t (open_token p (conditional_opening (id_of x.0))) rest x.1 e
    (record { written = 40 ∷ 63 ∷ 40 ∷ (x.0 ++ 41 ∷ []); is = ap (λ l. 40 ∷ 63 ∷ 40 ∷ l) k.is; token = (refl, (x.0, k.lacks, refl, refl)) })

-- a text whose first character after what is passed is known
at_first : (flags : Flags) (p : ℕ) (c d : ℕ) (f : List ℕ → List ℕ) (cs : List ℕ) (t : Token) (rest : List ℕ) → c ≡ d → Written flags p (f (d ∷ cs)) t rest → Written flags p (f (c ∷ cs)) t rest
at_first flags p c d f cs t rest e h = subst (λ k. Written flags p (f (k ∷ cs)) t rest) (sym e) h

name_written : (flags : Flags) (p : ℕ) (cs : List ℕ) (t : Token) (rest : List ℕ) → name_token p cs ≡ Some (t, rest) → Written flags p (40 ∷ 63 ∷ 80 ∷ cs) t rest
name_written flags p [] t rest e = none_given t rest e
name_written flags p (c ∷ cs) t rest e =
    choice (c == 60) (named_opening p (up_to 62 cs)) (cond (c == 61) (named_reference p (up_to 41 cs)) None) (t, rest) e
    (λ f g. at_first flags p c 60 (λ l. 40 ∷ 63 ∷ 80 ∷ l) cs t rest (eqb-true c 60 f) (named_written flags p cs t rest (up_to 62 cs) refl g))
    (λ f g. choice (c == 61) (named_reference p (up_to 41 cs)) None (t, rest) g
    (λ h i. at_first flags p c 61 (λ l. 40 ∷ 63 ∷ 80 ∷ l) cs t rest (eqb-true c 61 h) (reference_written flags p cs t rest (up_to 41 cs) refl i))
    (λ h i. none_given t rest i))

back_written : (flags : Flags) (p : ℕ) (cs : List ℕ) (t : Token) (rest : List ℕ) → lookbehind_token p cs ≡ Some (t, rest) → Written flags p (40 ∷ 63 ∷ 60 ∷ cs) t rest
back_written flags p [] t rest e = none_given t rest e
back_written flags p (c ∷ cs) t rest e =
    choice (c == 61) (Some (open_token p (look_opening true true), cs)) (cond (c == 33) (Some (open_token p (look_opening false true), cs)) None) (t, rest) e
    (λ f g. at_first flags p c 61 (λ l. 40 ∷ 63 ∷ 60 ∷ l) cs t rest (eqb-true c 61 f)
    (given flags p (40 ∷ 63 ∷ 60 ∷ 61 ∷ cs) t (open_token p (look_opening true true)) rest cs g (record { written = 40 ∷ 63 ∷ 60 ∷ 61 ∷ []; is = refl; token = (refl, refl) })))
    (λ f g. choice (c == 33) (Some (open_token p (look_opening false true), cs)) None (t, rest) g
    (λ h i. at_first flags p c 33 (λ l. 40 ∷ 63 ∷ 60 ∷ l) cs t rest (eqb-true c 33 h)
    (given flags p (40 ∷ 63 ∷ 60 ∷ 33 ∷ cs) t (open_token p (look_opening false true)) rest cs i (record { written = 40 ∷ 63 ∷ 60 ∷ 33 ∷ []; is = refl; token = (refl, refl) })))
    (λ h i. none_given t rest i))

-- the character of each extension; no other opening is one
abbrev extension_key : Extension → ℕ
extension_key (opens_as non_capturing) = 58
extension_key (opens_as atomic_opening) = 62
extension_key (opens_as (look_opening true false)) = 61
extension_key (opens_as (look_opening false false)) = 33
extension_key (opens_as _) = 0
extension_key looks_behind = 60
extension_key has_name = 80
extension_key is_conditional = 40

opens_written : (flags : Flags) (p c : ℕ) (cs : List ℕ) (o : Opening) → find extensions c ≡ Some (opens_as o) → c ≡ extension_key (opens_as o) → Written flags p (40 ∷ 63 ∷ c ∷ cs) (open_token p o) cs
opens_written flags p c cs non_capturing f e = record { written = 40 ∷ 63 ∷ c ∷ []; is = refl; token = (refl, ap (λ k. 40 ∷ 63 ∷ k ∷ []) e) }
opens_written flags p c cs atomic_opening f e = record { written = 40 ∷ 63 ∷ c ∷ []; is = refl; token = (refl, ap (λ k. 40 ∷ 63 ∷ k ∷ []) e) }
opens_written flags p c cs (look_opening true false) f e = record { written = 40 ∷ 63 ∷ c ∷ []; is = refl; token = (refl, ap (λ k. 40 ∷ 63 ∷ k ∷ []) e) }
opens_written flags p c cs (look_opening false false) f e = record { written = 40 ∷ 63 ∷ c ∷ []; is = refl; token = (refl, ap (λ k. 40 ∷ 63 ∷ k ∷ []) e) }
opens_written flags p c cs (look_opening true true) f e = let g = subst (λ k. find extensions k ≡ Some (opens_as (look_opening true true))) e f in let h : ⊥ = cc g in absurd h
opens_written flags p c cs (look_opening false true) f e = let g = subst (λ k. find extensions k ≡ Some (opens_as (look_opening false true))) e f in let h : ⊥ = cc g in absurd h
opens_written flags p c cs (capturing name) f e = let g = subst (λ k. find extensions k ≡ Some (opens_as (capturing name))) e f in let h : ⊥ = cc g in absurd h
opens_written flags p c cs (conditional_opening id) f e = let g = subst (λ k. find extensions k ≡ Some (opens_as (conditional_opening id))) e f in let h : ⊥ = cc g in absurd h

extension_written : (flags : Flags) (p c : ℕ) (cs : List ℕ) (t : Token) (rest : List ℕ) (x : Option Extension) → find extensions c ≡ x → extension_token x p cs ≡ Some (t, rest) → Written flags p (40 ∷ 63 ∷ c ∷ cs) t rest
extension_written flags p c cs t rest None f e = none_given t rest e
extension_written flags p c cs t rest (Some (opens_as o)) f e =
    given flags p (40 ∷ 63 ∷ c ∷ cs) t (open_token p o) rest cs e (opens_written flags p c cs o f (key_is extension_key extensions c (opens_as o) refl f))
extension_written flags p c cs t rest (Some looks_behind) f e =
    at_first flags p c 60 (λ l. 40 ∷ 63 ∷ l) cs t rest (key_is extension_key extensions c looks_behind refl f) (back_written flags p cs t rest e)
extension_written flags p c cs t rest (Some has_name) f e =
    at_first flags p c 80 (λ l. 40 ∷ 63 ∷ l) cs t rest (key_is extension_key extensions c has_name refl f) (name_written flags p cs t rest e)
extension_written flags p c cs t rest (Some is_conditional) f e =
    at_first flags p c 40 (λ l. 40 ∷ 63 ∷ l) cs t rest (key_is extension_key extensions c is_conditional refl f) (choice_written flags p cs t rest (up_to 41 cs) refl e)

extended_written : (flags : Flags) (p : ℕ) (cs : List ℕ) (t : Token) (rest : List ℕ) → extended p cs ≡ Some (t, rest) → Written flags p (40 ∷ 63 ∷ cs) t rest
extended_written flags p [] t rest e = none_given t rest e
extended_written flags p (c ∷ cs) t rest e = extension_written flags p c cs t rest (find extensions c) refl e

opening_written : (flags : Flags) (p : ℕ) (cs : List ℕ) (t : Token) (rest : List ℕ) → opening_token p cs ≡ Some (t, rest) → Written flags p (40 ∷ cs) t rest
opening_written flags p [] t rest e =
    given flags p (40 ∷ []) t (open_token p (capturing None)) rest [] e (record { written = 40 ∷ []; is = refl; token = (refl, (refl, refl)) })
opening_written flags p (c ∷ cs) t rest e =
    choice (c == 63) (extended p cs) (Some (open_token p (capturing None), c ∷ cs)) (t, rest) e
    (λ f g. at_first flags p c 63 (λ l. 40 ∷ l) cs t rest (eqb-true c 63 f) (extended_written flags p cs t rest g))
    (λ f g. given flags p (40 ∷ c ∷ cs) t (open_token p (capturing None)) rest (c ∷ cs) g (record { written = 40 ∷ []; is = refl; token = (refl, (refl, f)) }))

-- escapes
number_written : (flags : Flags) (p d : ℕ) (cs : List ℕ) (t : Token) (rest : List ℕ) → is_first_digit d ≡ true → number_token p d cs ≡ Some (t, rest) → Written flags p (92 ∷ d ∷ cs) t rest
number_written flags p d [] t rest h e =
    given flags p (92 ∷ d ∷ []) t (reference_token p (numbered (d - 48))) rest [] e (record { written = 92 ∷ d ∷ []; is = refl; token = (refl, one d h refl refl refl) })
number_written flags p d (c ∷ cs) t rest h e =
    choice (is_digit c) (cond (is_octal d && is_octal c && first_is is_octal cs) None (Some (reference_token p (numbered (10 * (d - 48) + (c - 48))), cs)))
    (Some (reference_token p (numbered (d - 48)), c ∷ cs)) (t, rest) e
    (λ f g. choice (is_octal d && is_octal c && first_is is_octal cs) None (Some (reference_token p (numbered (10 * (d - 48) + (c - 48))), cs)) (t, rest) g
    (λ i j. none_given t rest j)
    (λ i j. given flags p (92 ∷ d ∷ c ∷ cs) t (reference_token p (numbered (10 * (d - 48) + (c - 48)))) rest cs j
    (record { written = 92 ∷ d ∷ c ∷ []; is = refl; token = (refl, two d c h f i refl refl) })))
    (λ f g. given flags p (92 ∷ d ∷ c ∷ cs) t (reference_token p (numbered (d - 48))) rest (c ∷ cs) g
    (record { written = 92 ∷ d ∷ []; is = refl; token = (refl, one d h f refl refl) }))

hex_token_written : (flags : Flags) (p l n : ℕ) (cs : List ℕ) (t : Token) (rest : List ℕ) (o : Option (ℕ × List ℕ)) → find letters l ≡ Some (digits_follow n) → read_hex n 0 cs ≡ o → hex_token o ≡ Some (t, rest) → Written flags p (92 ∷ l ∷ cs) t rest
hex_token_written flags p l n cs t rest None f r e = none_given t rest e
hex_token_written flags p l n cs t rest (Some x) f r e =
    let k : HexWritten n 0 cs x.0 x.1 = hex_written n 0 cs x.0 x.1 r in
    given flags p (92 ∷ l ∷ cs) t (unit_token (literal x.0)) rest x.1 e
    (record { written = 92 ∷ l ∷ k.digits; is = ap (λ y. 92 ∷ l ∷ y) k.is; token = hexadecimal l n k.digits f k.count k.writes k.good refl })

letter_written : (flags : Flags) (p l : ℕ) (cs : List ℕ) (t : Token) (rest : List ℕ) (o : Option Letter) → find letters l ≡ o → letter_token o flags p l cs ≡ Some (t, rest) → Written flags p (92 ∷ l ∷ cs) t rest
letter_written flags p l cs t rest None f e =
    choice (is_first_digit l) (number_token p l cs) (cond (is_ascii_non_alphanumeric l) (Some (unit_token (literal l), cs)) None) (t, rest) e
    (λ h g. number_written flags p l cs t rest h g)
    (λ h g. choice (is_ascii_non_alphanumeric l) (Some (unit_token (literal l), cs)) None (t, rest) g
    (λ m i. given flags p (92 ∷ l ∷ cs) t (unit_token (literal l)) rest cs i (record { written = 92 ∷ l ∷ []; is = refl; token = escaped_itself m refl }))
    (λ m i. none_given t rest i))
letter_written flags p l cs t rest (Some (is_character_of c)) f e =
    given flags p (92 ∷ l ∷ cs) t (unit_token (literal c)) rest cs e (record { written = 92 ∷ l ∷ []; is = refl; token = escaped_letter l f refl })
letter_written flags p l cs t rest (Some (digits_follow n)) f e = hex_token_written flags p l n cs t rest (read_hex n 0 cs) f refl e
letter_written flags p l cs t rest (Some (categories a b)) f e =
    given flags p (92 ∷ l ∷ cs) t (unit_token (set false (Category (if_flag (flags.ascii) b a) ∷ []))) rest cs e
    (record { written = 92 ∷ l ∷ []; is = refl; token = alone l a b f refl refl refl })
letter_written flags p l cs t rest (Some (anchors a b)) f e =
    given flags p (92 ∷ l ∷ cs) t (anchor_token (if_flag (flags.ascii) b a)) rest cs e (record { written = 92 ∷ l ∷ []; is = refl; token = letter_anchor l a b f refl refl })

escape_written : (flags : Flags) (p : ℕ) (cs : List ℕ) (t : Token) (rest : List ℕ) → escape_token flags p cs ≡ Some (t, rest) → Written flags p (92 ∷ cs) t rest
escape_written flags p [] t rest e = none_given t rest e
escape_written flags p (l ∷ cs) t rest e = letter_written flags p l cs t rest (find letters l) refl e

dot_written : (flags : Flags) (p : ℕ) (cs : List ℕ) (b : Bool) → flags.dotall ≡ b → Written flags p (46 ∷ cs) (unit_token (if_dotall b)) cs
dot_written flags p cs true e = record { written = 46 ∷ []; is = refl; token = (e, refl) }
dot_written flags p cs false e = record { written = 46 ∷ []; is = refl; token = (e, refl) }

-- sets
set_written : (flags : Flags) (p : ℕ) (negated : Bool) (cs : List ℕ) (t : Token) (rest : List ℕ) (o : Items) → items_at (length cs) (flags.ascii) true cs ≡ o → (negated ≡ false → first_is (λ c. c == 94) cs ≡ false)
    → set_token negated o ≡ Some (t, rest) → Written flags p (91 ∷ (caret_if negated ++ cs)) t rest
set_written flags p negated cs t rest None i g e = none_given t rest e
set_written flags p negated cs t rest (Some x) i g e =
    let h = items_written (length cs) (flags.ascii) true cs x.0 x.1 i in
    let k = items_split x.0 (flags.ascii) true cs x.1 h in
    given flags p (91 ∷ (caret_if negated ++ cs)) t (unit_token (set negated x.0)) rest x.1 e
    (record {
      written = 91 ∷ (caret_if negated ++ k.0);
      is = ap (λ l. 91 ∷ (caret_if negated ++ l)) k.1 ∙ ap (λ l. 91 ∷ l) (sym (append_assoc (caret_if negated) k.0 x.1));
      token = in_brackets k.0 (subst (λ l. AreItems (flags.ascii) true x.0 l x.1) k.1 h) (λ n. first_kept k.0 x.1 k.2 (ap (first_is (λ c. c == 94)) (sym k.1) ∙ g n)) refl;
    })
  where
    first_kept : (a b : List ℕ) → 1 ≤ length a → first_is (λ c. c == 94) (a ++ b) ≡ false → first_is (λ c. c == 94) a ≡ false
    first_kept [] b le f = refl
    first_kept (c ∷ cs) b le f = f

bracket_written : (flags : Flags) (p : ℕ) (cs : List ℕ) (t : Token) (rest : List ℕ) → bracket_token flags cs ≡ Some (t, rest) → Written flags p (91 ∷ cs) t rest
bracket_written flags p [] t rest e = none_given t rest e
bracket_written flags p (c ∷ cs) t rest e =
    choice (c == 94) (set_token true (items_at (length cs) (flags.ascii) true cs)) (set_token false (items_at (length (c ∷ cs)) (flags.ascii) true (c ∷ cs))) (t, rest) e
    (λ f g. at_first flags p c 94 (λ l. 91 ∷ l) cs t rest (eqb-true c 94 f)
    (set_written flags p true cs t rest (items_at (length cs) (flags.ascii) true cs) refl (λ n. let y : ⊥ = cc n in absurd y) g))
    (λ f g. set_written flags p false (c ∷ cs) t rest (items_at (length (c ∷ cs)) (flags.ascii) true (c ∷ cs)) refl (λ n. f) g)

-- the character of each sign
abbrev sign_key : Sign → ℕ
sign_key escapes = 92
sign_key dots = 46
sign_key (lines k m) = cond (k == 0) 94 36
sign_key (counts least None) = cond (least == 0) 42 43
sign_key (counts least (Some most)) = 63
sign_key braces = 123
sign_key brackets = 91
sign_key opens = 40
sign_key closes = 41
sign_key splits = 124

sign_written : (flags : Flags) (p c : ℕ) (cs : List ℕ) (t : Token) (rest : List ℕ) (o : Option Sign) → find signs c ≡ o → sign_token o flags p c cs ≡ Some (t, rest) → Written flags p (c ∷ cs) t rest
sign_written flags p c cs t rest None f e = given flags p (c ∷ cs) t (unit_token (literal c)) rest cs e (record { written = c ∷ []; is = refl; token = itself f refl })
sign_written flags p c cs t rest (Some escapes) f e = at_first flags p c 92 (λ l. l) cs t rest (key_is sign_key signs c escapes refl f) (escape_written flags p cs t rest e)
sign_written flags p c cs t rest (Some dots) f e =
    at_first flags p c 46 (λ l. l) cs t rest (key_is sign_key signs c dots refl f)
    (given flags p (46 ∷ cs) t (unit_token (if_dotall (flags.dotall))) rest cs e (dot_written flags p cs (flags.dotall) refl))
sign_written flags p c cs t rest (Some (lines a b)) f e =
    given flags p (c ∷ cs) t (anchor_token (if_flag (flags.multiline) b a)) rest cs e (record { written = c ∷ []; is = refl; token = line_anchor c a b f refl refl })
sign_written flags p c cs t rest (Some (counts least most)) f e = mode_written flags p least most (c ∷ []) cs t rest (by_sign c f refl) e
sign_written flags p c cs t rest (Some braces) f e = at_first flags p c 123 (λ l. l) cs t rest (key_is sign_key signs c braces refl f) (brace_written flags p cs t rest (read_bounds cs) refl e)
sign_written flags p c cs t rest (Some brackets) f e = at_first flags p c 91 (λ l. l) cs t rest (key_is sign_key signs c brackets refl f) (bracket_written flags p cs t rest e)
sign_written flags p c cs t rest (Some opens) f e = at_first flags p c 40 (λ l. l) cs t rest (key_is sign_key signs c opens refl f) (opening_written flags p cs t rest e)
sign_written flags p c cs t rest (Some closes) f e =
    given flags p (c ∷ cs) t close rest cs e (record { written = c ∷ []; is = refl; token = ap (λ k. k ∷ []) (key_is sign_key signs c closes refl f) })
sign_written flags p c cs t rest (Some splits) f e =
    given flags p (c ∷ cs) t bar rest cs e (record { written = c ∷ []; is = refl; token = ap (λ k. k ∷ []) (key_is sign_key signs c splits refl f) })

pub token_written : (flags : Flags) (p : ℕ) (text : List ℕ) (t : Token) (rest : List ℕ) → first_token flags p text ≡ Some (t, rest) → Written flags p text t rest
token_written flags p [] t rest e = none_given t rest e
token_written flags p (c ∷ cs) t rest e = sign_written flags p c cs t rest (find signs c) refl e
