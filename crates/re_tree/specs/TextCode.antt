-- A tree is stored as numbers. The proofs that it comes back are here, for the Models cite them.
use mathlib.Core.Path.{◌≡◌, refl, sym, ◌∙◌, ap}
use Rattle.std.specs.Prelude.{ℕ, zero, suc, Bool, true, false, List, [], ◌∷◌, Option, Some, None}
use base.Stored.{Gv, gnil, gnum, gcons, Coded}
use Rattle.re_tree.specs.declared.unit.UnitItem.{UnitItem}
use Rattle.re_tree.specs.declared.unit.UnitItem.TheVariants.{Literal, Span, Category}
use Rattle.re_tree.specs.declared.tree.CountMode.{CountMode}
use Rattle.re_tree.specs.declared.tree.CountMode.TheVariants.{Greedy, Lazy, Possessive}
use Rattle.re_tree.specs.PlainText.{PlainTest, dot, dot_all, literal, set, GroupName, numbered, named, PlainText, PlainTexts, unit, anchor, reference, conditional, conditional_else, sequence, alternation, counted, capture, plain, atomic_text, look_text, done, ◌also◌}

abbrev num : Gv → ℕ
num gnil = 0
num (gnum n) = n
num (gcons a b) = 0

abbrev first : Gv → Gv
first (gcons a b) = a
first _ = gnil

abbrev second : Gv → Gv
second (gcons a b) = b
second _ = gnil

abbrev bit : Bool → Gv
bit false = gnum 0
bit true = gnum 1

abbrev truth : Gv → Bool
truth (gnum (suc n)) = true
truth _ = false

abbrev code_numbers : List ℕ → Gv
code_numbers [] = gnil
code_numbers (w ∷ ws) = gcons (gnum w) (code_numbers ws)

abbrev numbers : Gv → List ℕ
numbers (gcons a b) = num a ∷ numbers b
numbers _ = []

abbrev code_name : Option (List ℕ) → Gv
code_name None = gnil
code_name (Some ws) = gcons gnil (code_numbers ws)

abbrev name_by : Gv → Option (List ℕ)
name_by (gcons a b) = Some (numbers b)
name_by _ = None

abbrev code_most : Option ℕ → Gv
code_most None = gnil
code_most (Some n) = gnum n

abbrev most_by : Gv → Option ℕ
most_by (gnum n) = Some n
most_by _ = None

abbrev code_item : UnitItem → Gv
code_item (Literal c) = gcons (gnum 0) (gnum c)
code_item (Span lo hi) = gcons (gnum 1) (gcons (gnum lo) (gnum hi))
code_item (Category k) = gcons (gnum 2) (gnum k)

abbrev item_by : ℕ → Gv → UnitItem
item_by zero x = Literal (num x)
item_by (suc zero) x = Span (num (first x)) (num (second x))
item_by (suc (suc n)) x = Category (num x)

abbrev code_items : List UnitItem → Gv
code_items [] = gnil
code_items (i ∷ is) = gcons (code_item i) (code_items is)

abbrev items : Gv → List UnitItem
items (gcons a b) = item_by (num (first a)) (second a) ∷ items b
items _ = []

abbrev code_test : PlainTest → Gv
code_test dot = gcons (gnum 0) gnil
code_test dot_all = gcons (gnum 1) gnil
code_test (literal c) = gcons (gnum 2) (gnum c)
code_test (set negated is) = gcons (gnum 3) (gcons (bit negated) (code_items is))

abbrev test_by : ℕ → Gv → PlainTest
test_by zero x = dot
test_by (suc zero) x = dot_all
test_by (suc (suc zero)) x = literal (num x)
test_by (suc (suc (suc n))) x = set (truth (first x)) (items (second x))

abbrev code_group : GroupName → Gv
code_group (numbered n) = gnum n
code_group (named ws) = gcons gnil (code_numbers ws)

abbrev group_by : Gv → GroupName
group_by (gcons a b) = named (numbers b)
group_by (gnum n) = numbered n
group_by gnil = numbered 0

abbrev code_mode : CountMode → Gv
code_mode Greedy = gnum 0
code_mode Lazy = gnum 1
code_mode Possessive = gnum 2

abbrev mode_by : ℕ → CountMode
mode_by zero = Greedy
mode_by (suc zero) = Lazy
mode_by (suc (suc n)) = Possessive

-- A part is its kind and its numbers, and then its parts.
abbrev mutual
  code_text : PlainText → Gv
  code_text (unit test) = gcons (gcons (gnum 0) (code_test test)) gnil
  code_text (anchor k) = gcons (gcons (gnum 1) (gnum k)) gnil
  code_text (reference at id) = gcons (gcons (gnum 2) (gcons (gnum at) (code_group id))) gnil
  code_text (conditional at id met) = gcons (gcons (gnum 3) (gcons (gnum at) (code_group id))) (gcons (code_text met) gnil)
  code_text (conditional_else at id met other) = gcons (gcons (gnum 4) (gcons (gnum at) (code_group id))) (gcons (code_text met) (gcons (code_text other) gnil))
  code_text (sequence parts) = gcons (gcons (gnum 5) gnil) (code_texts parts)
  code_text (alternation branches) = gcons (gcons (gnum 6) gnil) (code_texts branches)
  code_text (counted at least most mode body) =
      gcons (gcons (gnum 7) (gcons (gcons (gnum at) (gnum least)) (gcons (code_most most) (code_mode mode)))) (gcons (code_text body) gnil)
  code_text (capture at number name body) = gcons (gcons (gnum 8) (gcons (gcons (gnum at) (gnum number)) (code_name name))) (gcons (code_text body) gnil)
  code_text (plain at body) = gcons (gcons (gnum 9) (gnum at)) (gcons (code_text body) gnil)
  code_text (atomic_text at body) = gcons (gcons (gnum 10) (gnum at)) (gcons (code_text body) gnil)
  code_text (look_text at positive back body) = gcons (gcons (gnum 11) (gcons (gnum at) (gcons (bit positive) (bit back)))) (gcons (code_text body) gnil)

  code_texts : PlainTexts → Gv
  code_texts done = gnil
  code_texts (r also rs) = gcons (code_text r) (code_texts rs)

abbrev one : PlainTexts → PlainText
one done = anchor 0
one (r also rs) = r

abbrev two : PlainTexts → PlainText
two done = anchor 0
two (r also rs) = one rs

-- the part of a kind, from its numbers and its parts
abbrev text_by : ℕ → Gv → PlainTexts → PlainText
text_by zero x b = unit (test_by (num (first x)) (second x))
text_by (suc zero) x b = anchor (num x)
text_by (suc (suc zero)) x b = reference (num (first x)) (group_by (second x))
text_by (suc (suc (suc zero))) x b = conditional (num (first x)) (group_by (second x)) (one b)
text_by (suc (suc (suc (suc zero)))) x b = conditional_else (num (first x)) (group_by (second x)) (one b) (two b)
text_by (suc (suc (suc (suc (suc zero))))) x b = sequence b
text_by (suc (suc (suc (suc (suc (suc zero)))))) x b = alternation b
text_by (suc (suc (suc (suc (suc (suc (suc zero))))))) x b =
    counted (num (first (first x))) (num (second (first x))) (most_by (first (second x))) (mode_by (num (second (second x)))) (one b)
text_by (suc (suc (suc (suc (suc (suc (suc (suc zero)))))))) x b = capture (num (first (first x))) (num (second (first x))) (name_by (second x)) (one b)
text_by (suc (suc (suc (suc (suc (suc (suc (suc (suc zero))))))))) x b = plain (num x) (one b)
text_by (suc (suc (suc (suc (suc (suc (suc (suc (suc (suc zero)))))))))) x b = atomic_text (num x) (one b)
text_by (suc (suc (suc (suc (suc (suc (suc (suc (suc (suc (suc n))))))))))) x b = look_text (num (first x)) (truth (first (second x))) (truth (second (second x))) (one b)

-- what a code is as a part, and as parts
abbrev back : Gv → PlainText × PlainTexts
back gnil = (anchor 0, done)
back (gnum n) = (anchor 0, done)
back (gcons a b) = (text_by (num (first a)) (second a) (back b).1, (back a).0 also (back b).1)

pub truth-bit : (b : Bool) → truth (bit b) ≡ b
truth-bit true = refl
truth-bit false = refl

pub numbers-code : (ws : List ℕ) → numbers (code_numbers ws) ≡ ws
numbers-code [] = refl
numbers-code (w ∷ ws) = ap (λ xs. w ∷ xs) (numbers-code ws)

pub name-code : (o : Option (List ℕ)) → name_by (code_name o) ≡ o
name-code None = refl
name-code (Some ws) = ap Some (numbers-code ws)

pub most-code : (o : Option ℕ) → most_by (code_most o) ≡ o
most-code None = refl
most-code (Some n) = refl

pub items-code : (is : List UnitItem) → items (code_items is) ≡ is
items-code [] = refl
items-code (Literal c ∷ is) = ap (λ l. Literal c ∷ l) (items-code is)
items-code (Span lo hi ∷ is) = ap (λ l. Span lo hi ∷ l) (items-code is)
items-code (Category k ∷ is) = ap (λ l. Category k ∷ l) (items-code is)

pub test-code : (t : PlainTest) → test_by (num (first (code_test t))) (second (code_test t)) ≡ t
test-code dot = refl
test-code dot_all = refl
test-code (literal c) = refl
test-code (set negated is) = λ i. set (truth-bit negated i) (items-code is i)

pub group-code : (id : GroupName) → group_by (code_group id) ≡ id
group-code (numbered n) = refl
group-code (named ws) = ap named (numbers-code ws)

pub mode-code : (m : CountMode) → mode_by (num (code_mode m)) ≡ m
mode-code Greedy = refl
mode-code Lazy = refl
mode-code Possessive = refl

abbrev mutual
  pub text-code : (r : PlainText) → (back (code_text r)).0 ≡ r
  text-code (unit test) = ap unit (test-code test)
  text-code (anchor k) = refl
  text-code (reference at id) = ap (reference at) (group-code id)
  text-code (conditional at id met) = λ i. conditional at (group-code id i) (text-code met i)
  text-code (conditional_else at id met other) = λ i. conditional_else at (group-code id i) (text-code met i) (text-code other i)
  text-code (sequence parts) = ap sequence (texts-code parts)
  text-code (alternation branches) = ap alternation (texts-code branches)
  text-code (counted at least most mode body) = λ i. counted at least (most-code most i) (mode-code mode i) (text-code body i)
  text-code (capture at number name body) = λ i. capture at number (name-code name i) (text-code body i)
  text-code (plain at body) = ap (plain at) (text-code body)
  text-code (atomic_text at body) = ap (atomic_text at) (text-code body)
  text-code (look_text at positive back body) = λ i. look_text at (truth-bit positive i) (truth-bit back i) (text-code body i)

  pub texts-code : (rs : PlainTexts) → (back (code_texts rs)).1 ≡ rs
  texts-code done = refl
  texts-code (r also rs) = λ i. text-code r i also texts-code rs i

abbrev pub plain_text_code : Coded PlainText
plain_text_code = record { code = code_text; inj = λ x y p. sym (text-code x) ∙ ap (λ g. (back g).0) p ∙ text-code y }

abbrev pub plain_texts_code : Coded PlainTexts
plain_texts_code = record { code = code_texts; inj = λ x y p. sym (texts-code x) ∙ ap (λ g. (back g).1) p ∙ texts-code y }
