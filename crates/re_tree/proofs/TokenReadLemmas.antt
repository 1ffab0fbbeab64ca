-- A token that a text begins with is read, whatever is after it.
use Rattle.std.proofs.Common.{◌≡◌, refl, sym, ◌∙◌, ap, subst, ℕ, zero, suc, ◌+◌, ◌-◌, ◌*◌, ◌==◌, ◌<◌, ◌≤◌, Bool, true, false, not, List, [], ◌∷◌, ◌++◌, append_assoc, length, arith}
use Rattle.std.specs.Prelude.{Option, Some, None, cond, ◌&&◌, ◌||◌, codes, nat_le, nat_lt}
use Rattle.std.specs.List.{list_all, list_any}
use Rattle.std.proofs.lemmas.Bool.{eqb-true}
use Rattle.std.proofs.lemmas.Bool.Decides.{nat_tests}
use Rattle.re_tree.specs.declared.tree.CountMode.{CountMode}
use Rattle.re_tree.specs.declared.tree.CountMode.TheVariants.{Greedy, Lazy, Possessive}
use Rattle.re_tree.specs.declared.unit.UnitItem.{UnitItem}
use Rattle.re_tree.specs.declared.unit.UnitItem.TheVariants.{Category}
use Rattle.re_tree.specs.PlainText.{PlainTest, dot, dot_all, literal, set, GroupName, numbered, named}
use Rattle.re_tree.specs.Tokens.{Opening, capturing, non_capturing, atomic_opening, look_opening, conditional_opening, Token, unit_token, anchor_token, reference_token, count_token, open_token, bar, close}
use Rattle.py_base.specs.Reading.{find}
use Rattle.re_tree.specs.Tables.{Sign, signs, Letter, letters, extensions}
use Rattle.re_tree.specs.Sets.{AreItems, Items, items_at, caret_if}
use Rattle.re_tree.proofs.SetLemmas.{items_read, body_is}
use Rattle.re_tree.specs.Characters.{if_flag, is_digit, is_octal, is_ascii_non_alphanumeric, first_is}
use Rattle.re_tree.specs.Grammar.{Flags, is_first_digit, has, AreDigits, value, greatest_of, WritesBounds, by_sign, exactly, between, WritesMode, BeginsNoCount, WritesCharacter, itself, brace, escaped_itself, escaped_letter, hexadecimal, id_of, WritesNumber, one, two, WritesOpening, WritesAnchor, line_anchor, letter_anchor, WritesSet, alone, in_brackets, WritesTest, IsToken}
use Rattle.re_tree.specs.Reading.{Found, if_dotall, Bounds, read_bounds, with_mode, brace_token, add_first, up_to, named_opening, named_reference, named_conditional, number_token, letter_token, escape_token, sign_token, first_token, opening_token, extended, set_token, bracket_token, hex_token}
use Rattle.re_tree.proofs.HexLemmas.{hex_read}
use Rattle.re_tree.proofs.TableLemmas.{absent}
use Rattle.re_tree.proofs.BoundLemmas.{cond_true, cond_false, and_left, and_right, exactly_read, between_read, Bounded, read_is}

mark_is_no_digit : (c : ℕ) → is_ascii_non_alphanumeric c ≡ true → is_first_digit c ≡ false
mark_is_no_digit c h = grind (arith, nat_tests)

or_left : (a b : Bool) → (a || b) ≡ false → a ≡ false
or_left true b h = h
or_left false b h = refl

or_right : (a b : Bool) → (a || b) ≡ false → b ≡ false
or_right true b h = let f : ⊥ = cc h in absurd f
or_right false b h = h

-- a name before what ends it
pub name_read : (e : ℕ) (name rest : List ℕ) → has e name ≡ false → up_to e ((name ++ e ∷ []) ++ rest) ≡ Some (name, rest)
name_read e [] rest h = cond_true (e == e) (Some ([], rest)) (add_first e (up_to e rest)) (same e)
  where
    same : (n : ℕ) → (n == n) ≡ true
    same n = grind (arith, nat_tests)
name_read e (c ∷ name) rest h =
    cond_false (c == e) (Some ([], (name ++ e ∷ []) ++ rest)) (add_first c (up_to e ((name ++ e ∷ []) ++ rest))) (or_left (c == e) (has e name) h)
    ∙ ap (add_first c) (name_read e name rest (or_right (c == e) (has e name) h))

no_bounds : (rest : List ℕ) → BeginsNoCount (123 ∷ rest) → (o : Bounds) → read_bounds rest ≡ o → read_bounds rest ≡ None
no_bounds rest h None e = e
no_bounds rest h (Some b) e = let k : Bounded rest b.0 b.1 b.2 = read_is rest b.2 b.0 b.1 e in absurd (h b.0 b.1 k.written b.2 k.writes k.text)

character_read : (flags : Flags) (p c : ℕ) (written rest : List ℕ) → WritesCharacter c written rest → first_token flags p (written ++ rest) ≡ Some (unit_token (literal c), rest)
character_read flags p c written rest (itself n e) = ap (λ f. first_token flags p (f ++ rest)) e ∙ ap (λ s. sign_token s flags p c rest) n
character_read flags p c written rest (brace i e h) =
    ap (λ f. first_token flags p (f ++ rest)) e ∙ ap (λ b. Some (brace_token p rest b)) (no_bounds rest h (read_bounds rest) refl) ∙ ap (λ k. Some (unit_token (literal k), rest)) (sym i)
character_read flags p c written rest (escaped_itself m e) =
    ap (λ f. first_token flags p (f ++ rest)) e
    ∙ ap (λ o. letter_token o flags p c rest) (absent is_ascii_non_alphanumeric letters c m refl)
    ∙ cond_false (is_first_digit c) (number_token p c rest) (cond (is_ascii_non_alphanumeric c) (Some (unit_token (literal c), rest)) None) (mark_is_no_digit c m)
    ∙ cond_true (is_ascii_non_alphanumeric c) (Some (unit_token (literal c), rest)) None m
character_read flags p c written rest (escaped_letter l f e) =
    ap (λ x. first_token flags p (x ++ rest)) e ∙ ap (λ o. letter_token o flags p l rest) f
character_read flags p c written rest (hexadecimal l n ds f m v g e) =
    ap (λ x. first_token flags p (x ++ rest)) e ∙ ap (λ o. letter_token o flags p l (ds ++ rest)) f ∙ ap hex_token (hex_read ds n 0 c rest m v g)

brackets_read : (flags : Flags) (p : ℕ) (negated : Bool) (items : List UnitItem) (body rest : List ℕ) → AreItems (flags.ascii) true items (body ++ rest) rest → (negated ≡ false → first_is (λ c. c == 94) body ≡ false)
    → first_token flags p ((91 ∷ (caret_if negated ++ body)) ++ rest) ≡ Some (unit_token (set negated items), rest)
brackets_read flags p true items body rest h g = ap (set_token true) (items_read items (flags.ascii) true (body ++ rest) rest (length (body ++ rest)) h (omega arith))
brackets_read flags p false items body rest h g =
    let k = body_is items (flags.ascii) true body rest h in
    let n : (k.0 == 94) ≡ false = ap (first_is (λ c. c == 94)) (sym k.2) ∙ g refl in
    let set_here : Found = set_token false (items_at (length (k.0 ∷ (k.1 ++ rest))) (flags.ascii) true (k.0 ∷ (k.1 ++ rest))) in
    ap (λ b. first_token flags p ((91 ∷ b) ++ rest)) k.2
    ∙ cond_false (k.0 == 94) (set_token true (items_at (length (k.1 ++ rest)) (flags.ascii) true (k.1 ++ rest))) set_here n
    ∙ ap (λ b. set_token false (items_at (length (b ++ rest)) (flags.ascii) true (b ++ rest))) (sym k.2)
    ∙ ap (set_token false) (items_read items (flags.ascii) true (body ++ rest) rest (length (body ++ rest)) h (omega arith))

set_read : (flags : Flags) (p : ℕ) (negated : Bool) (items : List UnitItem) (written rest : List ℕ) → WritesSet flags negated items written rest → first_token flags p (written ++ rest) ≡ Some (unit_token (set negated items), rest)
set_read flags p negated items written rest (alone l a b f n i e) =
    ap (λ x. first_token flags p (x ++ rest)) e ∙ ap (λ o. letter_token o flags p l rest) f
    ∙ (λ z. Some (unit_token (set (sym n z) (sym i z)), rest))
set_read flags p negated items written rest (in_brackets body h g e) = ap (λ x. first_token flags p (x ++ rest)) e ∙ brackets_read flags p negated items body rest h g

place_read : (flags : Flags) (p k : ℕ) (written rest : List ℕ) → WritesAnchor flags k written → first_token flags p (written ++ rest) ≡ Some (anchor_token k, rest)
place_read flags p k written rest (line_anchor c a b f i e) =
    ap (λ x. first_token flags p (x ++ rest)) e ∙ ap (λ s. sign_token s flags p c rest) f ∙ ap (λ n. Some (anchor_token n, rest)) (sym i)
place_read flags p k written rest (letter_anchor l a b f i e) =
    ap (λ x. first_token flags p (x ++ rest)) e ∙ ap (λ o. letter_token o flags p l rest) f ∙ ap (λ n. Some (anchor_token n, rest)) (sym i)

one_digit : (p d : ℕ) (rest : List ℕ) → first_is is_digit rest ≡ false → number_token p d rest ≡ Some (reference_token p (numbered (d - 48)), rest)
one_digit p d [] h = refl
one_digit p d (e ∷ cs) h =
    cond_false (is_digit e) (cond (is_octal d && is_octal e && first_is is_octal cs) None (Some (reference_token p (numbered (10 * (d - 48) + (e - 48))), cs)))
    (Some (reference_token p (numbered (d - 48)), e ∷ cs)) h

first_digit : (flags : Flags) (p d : ℕ) (cs : List ℕ) → is_first_digit d ≡ true → first_token flags p (92 ∷ d ∷ cs) ≡ number_token p d cs
first_digit flags p d cs h =
    ap (λ o. letter_token o flags p d cs) (absent is_first_digit letters d h refl)
    ∙ cond_true (is_first_digit d) (number_token p d cs) (cond (is_ascii_non_alphanumeric d) (Some (unit_token (literal d), cs)) None) h

number_read : (flags : Flags) (p n : ℕ) (written rest : List ℕ) → WritesNumber n written rest → first_token flags p (written ++ rest) ≡ Some (reference_token p (numbered n), rest)
number_read flags p n written rest (one d h k i e) =
    ap (λ x. first_token flags p (x ++ rest)) e ∙ first_digit flags p d rest h ∙ one_digit p d rest k ∙ ap (λ m. Some (reference_token p (numbered m), rest)) (sym i)
number_read flags p n written rest (two d f h k o i e) =
    let t : Found = Some (reference_token p (numbered (10 * (d - 48) + (f - 48))), rest) in
    ap (λ x. first_token flags p (x ++ rest)) e ∙ first_digit flags p d (f ∷ rest) h
    ∙ cond_true (is_digit f) (cond (is_octal d && is_octal f && first_is is_octal rest) None t) (Some (reference_token p (numbered (d - 48)), f ∷ rest)) k
    ∙ cond_false (is_octal d && is_octal f && first_is is_octal rest) None t o
    ∙ ap (λ m. Some (reference_token p (numbered m), rest)) (sym i)

pub bounds_token : (flags : Flags) (p least : ℕ) (most : Option ℕ) (bounds x : List ℕ) → WritesBounds least most bounds → first_token flags p (bounds ++ x) ≡ Some (with_mode p least most x)
bounds_token flags p least most bounds x (by_sign c f e) = ap (λ y. first_token flags p (y ++ x)) e ∙ ap (λ s. sign_token s flags p c x) f
bounds_token flags p least most bounds x (exactly d ds h i j e) =
    ap (λ y. first_token flags p (y ++ x)) e
    ∙ ap (λ y. Some (brace_token p y (read_bounds y))) (ap (λ y. d ∷ y) (append_assoc ds (125 ∷ []) x))
    ∙ ap (λ b. Some (brace_token p (d ∷ (ds ++ 125 ∷ x)) b)) (exactly_read d ds x h)
    ∙ (λ z. Some (with_mode p (sym i z) (sym j z) x))
bounds_token flags p least most bounds x (between ds es h k i j e) =
    ap (λ y. first_token flags p (y ++ x)) e
    ∙ ap (λ y. Some (brace_token p y (read_bounds y))) (append_assoc ds (44 ∷ (es ++ 125 ∷ [])) x ∙ ap (λ y. ds ++ 44 ∷ y) (append_assoc es (125 ∷ []) x))
    ∙ ap (λ b. Some (brace_token p (ds ++ 44 ∷ (es ++ 125 ∷ x)) b)) (between_read ds es x h k)
    ∙ (λ z. Some (with_mode p (sym i z) (sym j z) x))

greedy_read : (p least : ℕ) (most : Option ℕ) (rest : List ℕ) → first_is (λ c. c == 63) rest ≡ false → first_is (λ c. c == 43) rest ≡ false
    → ◌≡◌ {A = Token × List ℕ} (with_mode p least most rest) (count_token p least most Greedy, rest)
greedy_read p least most [] h k = refl
greedy_read p least most (c ∷ cs) h k =
    cond_false (c == 63) (count_token p least most Lazy, cs) (cond (c == 43) (count_token p least most Possessive, cs) (count_token p least most Greedy, c ∷ cs)) h
    ∙ cond_false (c == 43) (count_token p least most Possessive, cs) (count_token p least most Greedy, c ∷ cs) k

mode_read : (p least : ℕ) (most : Option ℕ) (mode : CountMode) (tail rest : List ℕ) → WritesMode mode tail rest
    → ◌≡◌ {A = Token × List ℕ} (with_mode p least most (tail ++ rest)) (count_token p least most mode, rest)
mode_read p least most Greedy tail rest h = ap (λ x. with_mode p least most (x ++ rest)) h.0 ∙ greedy_read p least most rest h.1 h.2
mode_read p least most Lazy tail rest h = ap (λ x. with_mode p least most (x ++ rest)) h
mode_read p least most Possessive tail rest h = ap (λ x. with_mode p least most (x ++ rest)) h

plain_opening : (p : ℕ) (rest : List ℕ) → first_is (λ c. c == 63) rest ≡ false → opening_token p rest ≡ Some (open_token p (capturing None), rest)
plain_opening p [] h = refl
plain_opening p (c ∷ cs) h = cond_false (c == 63) (extended p cs) (Some (open_token p (capturing None), c ∷ cs)) h

opening_read : (flags : Flags) (p : ℕ) (opening : Opening) (written rest : List ℕ) → WritesOpening opening written rest → first_token flags p (written ++ rest) ≡ Some (open_token p opening, rest)
opening_read flags p (capturing None) written rest h = ap (λ x. first_token flags p (x ++ rest)) h.0 ∙ plain_opening p rest h.1
opening_read flags p (capturing (Some name)) written rest h = ap (λ x. first_token flags p (x ++ rest)) h.1 ∙ ap (named_opening p) (name_read 62 name rest h.0)
opening_read flags p non_capturing written rest h = ap (λ x. first_token flags p (x ++ rest)) h
opening_read flags p atomic_opening written rest h = ap (λ x. first_token flags p (x ++ rest)) h
opening_read flags p (look_opening true false) written rest h = ap (λ x. first_token flags p (x ++ rest)) h
opening_read flags p (look_opening false false) written rest h = ap (λ x. first_token flags p (x ++ rest)) h
opening_read flags p (look_opening true true) written rest h = ap (λ x. first_token flags p (x ++ rest)) h
opening_read flags p (look_opening false true) written rest h = ap (λ x. first_token flags p (x ++ rest)) h
opening_read flags p (conditional_opening id) written rest h =
    ap (λ x. first_token flags p (x ++ rest)) h.3 ∙ ap (named_conditional p) (name_read 41 h.0 rest h.1) ∙ ap (λ i. Some (open_token p (conditional_opening i), rest)) (sym h.2)

pub token_read : (flags : Flags) (t : Token) (p : ℕ) (written rest : List ℕ) → IsToken flags t p written rest → first_token flags p (written ++ rest) ≡ Some (t, rest)
token_read flags (unit_token dot) p written rest h = ap (λ x. first_token flags p (x ++ rest)) h.1 ∙ ap (λ b. Some (unit_token (if_dotall b), rest)) h.0
token_read flags (unit_token dot_all) p written rest h = ap (λ x. first_token flags p (x ++ rest)) h.1 ∙ ap (λ b. Some (unit_token (if_dotall b), rest)) h.0
token_read flags (unit_token (literal c)) p written rest h = character_read flags p c written rest h
token_read flags (unit_token (set negated items)) p written rest h = set_read flags p negated items written rest h
token_read flags (anchor_token k) p written rest h = place_read flags p k written rest h
token_read flags (reference_token at (numbered n)) p written rest h = number_read flags p n written rest h.1 ∙ ap (λ b. Some (reference_token b (numbered n), rest)) (sym h.0)
token_read flags (reference_token at (named name)) p written rest h =
    ap (λ x. first_token flags p (x ++ rest)) h.2 ∙ ap (named_reference p) (name_read 41 name rest h.1) ∙ ap (λ b. Some (reference_token b (named name), rest)) (sym h.0)
token_read flags (count_token at least most mode) p written rest h =
    ap (λ x. first_token flags p (x ++ rest)) h.5 ∙ ap (first_token flags p) (append_assoc h.1 h.2 rest)
    ∙ bounds_token flags p least most h.1 (h.2 ++ rest) h.3 ∙ ap Some (mode_read p least most mode h.2 rest h.4)
    ∙ ap (λ b. Some (count_token b least most mode, rest)) (sym h.0)
token_read flags (open_token at opening) p written rest h = opening_read flags p opening written rest h.1 ∙ ap (λ b. Some (open_token b opening, rest)) (sym h.0)
token_read flags bar p written rest h = ap (λ x. first_token flags p (x ++ rest)) h
token_read flags close p written rest h = ap (λ x. first_token flags p (x ++ rest)) h
