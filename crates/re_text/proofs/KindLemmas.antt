-- The anchors and the sets of a text that is read are those that a code has.
use Rattle.std.proofs.Common.{◌≡◌, refl, sym, ◌∙◌, ap, subst, ℕ, ◌+◌, ◌==◌, Bool, true, false, List, [], ◌∷◌, ◌++◌, length}
use Rattle.std.specs.Prelude.{Some, cond, ◌&&◌, IsTrue}
use Rattle.std.specs.List.{list_all}
use Rattle.py_base.specs.Chars.Categories.{is_category}
use Rattle.sre_code.specs.Anchors.{is_anchor}
use Rattle.sre_code.specs.Spelling.{items_fit}
use Rattle.re_tree.specs.declared.unit.UnitItem.{UnitItem}
use Rattle.re_tree.specs.declared.unit.UnitItem.TheVariants.{Literal, Span, Category}
use Rattle.re_tree.specs.PlainText.{dot, dot_all, literal, set, PlainText, PlainTexts, unit, anchor, reference, conditional, conditional_else, sequence, alternation, counted, capture, plain, atomic_text, look_text, done, ◌also◌}
use Rattle.re_tree.specs.Tokens.{Token, unit_token, anchor_token, reference_token, count_token, open_token, bar, close, tokens_of, tokens_in_turn, tokens_between}
use Rattle.py_base.specs.Reading.{find}
use Rattle.re_tree.specs.Tables.{Sign, lines, signs, Letter, categories, anchors, letters}
use Rattle.re_tree.specs.Characters.{if_flag}
use Rattle.re_tree.specs.Sets.{AreItems}
use Rattle.re_tree.specs.Grammar.{Flags, WritesSet, alone, in_brackets, WritesAnchor, line_anchor, letter_anchor, IsToken, AreTokens, ReadsAs}
use Rattle.re_text.specs.Trees.{set_items}
use Rattle.re_text.specs.Fits.{test_fits, kinds_fit, all_kinds_fit}

and_left : (a b : Bool) → (a && b) ≡ true → a ≡ true
and_left true b h = refl
and_left false b h = h

and_right : (a b : Bool) → (a && b) ≡ true → b ≡ true
and_right true b h = h
and_right false b h = let f : ⊥ = cc h in absurd f

-- what all values of a table are, each that is found is
value_is : {X : Type 0} (ok : X → Bool) (table : List (ℕ × X)) (c : ℕ) (v : X) → list_all (λ x. ok x.1) table ≡ true → find table c ≡ Some v → ok v ≡ true
value_is ok [] c v k h = let f : ⊥ = cc h in absurd f
value_is ok (x ∷ table) c v k h = at (x.0 == c) h (value_is ok table c v (and_right (ok x.1) (list_all (λ y. ok y.1) table) k))
  where
    at : (b : Bool) → cond b (Some x.1) (find table c) ≡ Some v → (find table c ≡ Some v → ok v ≡ true) → ok v ≡ true
    at true e ih = let u : x.1 ≡ v = cc e in ap ok (sym u) ∙ and_left (ok x.1) (list_all (λ y. ok y.1) table) k
    at false e ih = ih e

abbrev letter_ok : Letter → Bool
letter_ok (categories a b) = is_category a && is_category b
letter_ok (anchors a b) = is_anchor a && is_anchor b
letter_ok _ = true

abbrev sign_ok : Sign → Bool
sign_ok (lines a b) = is_anchor a && is_anchor b
sign_ok _ = true

flag_ok : (ok : ℕ → Bool) (f : Bool) (a b : ℕ) → (ok a && ok b) ≡ true → ok (if_flag f b a) ≡ true
flag_ok ok true a b h = and_right (ok a) (ok b) h
flag_ok ok false a b h = and_left (ok a) (ok b) h

is_true : (b : Bool) → b ≡ true → IsTrue b
is_true b e = e

class_fits : (ascii : Bool) (l a b k : ℕ) → find letters l ≡ Some (categories a b) → k ≡ if_flag ascii b a → IsTrue (is_category k)
class_fits ascii l a b k f e = is_true (is_category k) (ap is_category e ∙ flag_ok is_category ascii a b (value_is letter_ok letters l (categories a b) refl f))

items_are : (items : List UnitItem) (ascii first : Bool) (text rest : List ℕ) → AreItems ascii first items text rest → items_fit (set_items items)
items_are [] ascii first text rest h = tt
items_are (Literal c ∷ items) ascii first text rest h = (tt, items_are items ascii false h.1 rest h.4)
items_are (Span lo hi ∷ items) ascii first text rest h = (tt, items_are items ascii false h.1 rest h.4)
items_are (Category k ∷ items) ascii first text rest h = (class_fits ascii h.3.0 h.3.1 h.3.2 k h.3.3 h.3.4, items_are items ascii false h.1 rest h.4)

set_fits : (flags : Flags) (negated : Bool) (items : List UnitItem) (front rest : List ℕ) → WritesSet flags negated items front rest → items_fit (set_items items)
set_fits flags negated items front rest (alone l a b f n i e) =
    subst (λ is. items_fit (set_items is)) (sym i) (class_fits (flags.ascii) l a b (if_flag (flags.ascii) b a) f refl, tt)
set_fits flags negated items front rest (in_brackets body h g e) = items_are items (flags.ascii) true (body ++ rest) rest h

anchor_fits : (flags : Flags) (k : ℕ) (front : List ℕ) → WritesAnchor flags k front → IsTrue (is_anchor k)
anchor_fits flags k front (line_anchor c a b f i e) = is_true (is_anchor k) (ap is_anchor i ∙ flag_ok is_anchor (flags.multiline) a b (value_is sign_ok signs c (lines a b) refl f))
anchor_fits flags k front (letter_anchor l a b f i e) = is_true (is_anchor k) (ap is_anchor i ∙ flag_ok is_anchor (flags.ascii) a b (value_is letter_ok letters l (anchors a b) refl f))

abbrev token_fits : Token → Type 0
token_fits (unit_token test) = test_fits test
token_fits (anchor_token k) = IsTrue (is_anchor k)
token_fits _ = Unit {0}

abbrev all_fit : List Token → Type 0
all_fit [] = Unit {0}
all_fit (t ∷ ts) = token_fits t × all_fit ts

token_is : (flags : Flags) (t : Token) (p : ℕ) (front rest : List ℕ) → IsToken flags t p front rest → token_fits t
token_is flags (unit_token dot) p front rest h = tt
token_is flags (unit_token dot_all) p front rest h = tt
token_is flags (unit_token (literal c)) p front rest h = tt
token_is flags (unit_token (set negated items)) p front rest h = set_fits flags negated items front rest h
token_is flags (anchor_token k) p front rest h = anchor_fits flags k front h
token_is flags (reference_token at id) p front rest h = tt
token_is flags (count_token at least most mode) p front rest h = tt
token_is flags (open_token at opening) p front rest h = tt
token_is flags bar p front rest h = tt
token_is flags close p front rest h = tt

tokens_are : (ts : List Token) (flags : Flags) (p : ℕ) (text : List ℕ) → AreTokens flags p ts text → all_fit ts
tokens_are [] flags p text h = tt
tokens_are (t ∷ ts) flags p text h = (token_is flags t p h.0 h.1 h.3, tokens_are ts flags (p + length h.0) h.1 h.4)

front_fits : (ts us : List Token) → all_fit (ts ++ us) → all_fit ts
front_fits [] us h = tt
front_fits (t ∷ ts) us h = (h.0, front_fits ts us h.1)

back_fits : (ts us : List Token) → all_fit (ts ++ us) → all_fit us
back_fits [] us h = h
back_fits (t ∷ ts) us h = back_fits ts us h.1

mutual
  kinds : (r : PlainText) → all_fit (tokens_of r) → kinds_fit r
  kinds (unit test) h = h.0
  kinds (anchor k) h = h.0
  kinds (reference at id) h = tt
  kinds (conditional at id met) h = kinds met (front_fits (tokens_of met) (close ∷ []) h.1)
  kinds (conditional_else at id met other) h =
      let x = back_fits (tokens_of met) (bar ∷ (tokens_of other ++ close ∷ [])) h.1 in
      (kinds met (front_fits (tokens_of met) (bar ∷ (tokens_of other ++ close ∷ [])) h.1), kinds other (front_fits (tokens_of other) (close ∷ []) x.1))
  kinds (sequence parts) h = all_kinds parts h
  kinds (alternation branches) h = between_kinds branches h
  kinds (counted at least most mode body) h = kinds body (front_fits (tokens_of body) (count_token at least most mode ∷ []) h)
  kinds (capture at number name body) h = kinds body (front_fits (tokens_of body) (close ∷ []) h.1)
  kinds (plain at body) h = kinds body (front_fits (tokens_of body) (close ∷ []) h.1)
  kinds (atomic_text at body) h = kinds body (front_fits (tokens_of body) (close ∷ []) h.1)
  kinds (look_text at positive back body) h = kinds body (front_fits (tokens_of body) (close ∷ []) h.1)

  all_kinds : (rs : PlainTexts) → all_fit (tokens_in_turn rs) → all_kinds_fit rs
  all_kinds done h = tt
  all_kinds (r also rs) h = (kinds r (front_fits (tokens_of r) (tokens_in_turn rs) h), all_kinds rs (back_fits (tokens_of r) (tokens_in_turn rs) h))

  between_kinds : (rs : PlainTexts) → all_fit (tokens_between rs) → all_kinds_fit rs
  between_kinds done h = tt
  between_kinds (r also done) h = (kinds r h, tt)
  between_kinds (r also q also rs) h =
      (kinds r (front_fits (tokens_of r) (bar ∷ tokens_between (q also rs)) h), between_kinds (q also rs) (back_fits (tokens_of r) (bar ∷ tokens_between (q also rs)) h).1)

pub read_kinds : (text : List ℕ) (flags : Flags) (r : PlainText) → ReadsAs text flags r → kinds_fit r
read_kinds text flags r h = kinds r (tokens_are (tokens_of r) flags 0 text h.tokens)
