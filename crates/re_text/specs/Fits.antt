-- Which patterns have a code: those without a fault of a count, a name, a group or a
-- width.
use Rattle.std.specs.Prelude.{ℕ, ◌+◌, ◌≤◌, ◌<◌, Bool, true, false, Option, Some, None, max, IsTrue}
use Rattle.sre_code.specs.declared.opcodes.TheConstants.{MAXREPEAT}
use Rattle.sre_code.specs.Anchors.{is_anchor}
use Rattle.sre_code.specs.Spelling.{IsGroup, items_fit}
use Rattle.re_tree.specs.declared.limits.TheConstants.{MAX_WIDTH}
use Rattle.re_tree.specs.PlainText.{PlainTest, dot, dot_all, literal, set, PlainText, PlainTexts, unit, anchor, reference, conditional, conditional_else, sequence, alternation, counted, capture, plain, atomic_text, look_text, done, ◌also◌, Names, number_of}
use Rattle.re_text.specs.Trees.{set_items}
use Rattle.re_tree.specs.Widths.{width}

-- a count is below MAXREPEAT, and its least number is at most its greatest
abbrev pub count_fits : ℕ → Option ℕ → Type 0
count_fits least None = least < MAXREPEAT
count_fits least (Some most) = (least ≤ most) × (most < MAXREPEAT)

abbrev pub test_fits : PlainTest → Type 0
test_fits dot = Unit {0}
test_fits dot_all = Unit {0}
test_fits (literal c) = Unit {0}
test_fits (set negated items) = items_fit (set_items items)

-- the body of a lookbehind has a width
abbrev pub back_fits : Bool → Option ℕ → Type 0
back_fits false width = Unit {0}
back_fits true None = ⊥
back_fits true (Some k) = k ≤ MAX_WIDTH

abbrev mutual
  pub text_fits : Names → ℕ → PlainText → Type 0
  text_fits names groups (unit test) = test_fits test
  text_fits names groups (anchor k) = IsTrue (is_anchor k)
  text_fits names groups (reference at id) = IsGroup groups (number_of names id)
  text_fits names groups (conditional at id met) = IsGroup groups (number_of names id)
      × text_fits names groups met
  text_fits names groups (conditional_else at id met other) = IsGroup groups (number_of names id)
      × text_fits names groups met × text_fits names groups other
  text_fits names groups (sequence parts) = texts_fit names groups parts
  text_fits names groups (alternation branches) = texts_fit names groups branches
  text_fits names groups (counted at least most mode body) = count_fits least most
      × text_fits names groups body
  text_fits names groups (capture at number name body) = IsGroup groups number
      × text_fits names groups body
  text_fits names groups (plain at body) = text_fits names groups body
  text_fits names groups (atomic_text at body) = text_fits names groups body
  text_fits names groups (look_text at positive back body) = back_fits back (width body)
      × text_fits names groups body

  pub texts_fit : Names → ℕ → PlainTexts → Type 0
  texts_fit names groups done = Unit {0}
  texts_fit names groups (r also rs) = text_fits names groups r × texts_fit names groups rs

-- how many bodies are inside one another in the tree of a pattern
abbrev mutual
  pub text_depth : PlainText → ℕ
  text_depth (conditional at id met) = text_depth met + 1
  text_depth (conditional_else at id met other) = max (text_depth met + 1) (text_depth other + 1)
  text_depth (sequence parts) = texts_depth parts
  text_depth (alternation branches) = texts_depth branches + 1
  text_depth (counted at least most mode body) = text_depth body + 1
  text_depth (capture at number name body) = text_depth body + 1
  text_depth (plain at body) = text_depth body
  text_depth (atomic_text at body) = text_depth body + 1
  text_depth (look_text at positive back body) = text_depth body + 1
  text_depth _ = 0

  pub texts_depth : PlainTexts → ℕ
  texts_depth done = 0
  texts_depth (r also rs) = max (text_depth r) (texts_depth rs)

-- how many parentheses are inside one another
abbrev mutual
  pub parens : PlainText → ℕ
  parens (conditional at id met) = parens met + 1
  parens (conditional_else at id met other) = max (parens met) (parens other) + 1
  parens (sequence parts) = all_parens parts
  parens (alternation branches) = all_parens branches
  parens (counted at least most mode body) = parens body
  parens (capture at number name body) = parens body + 1
  parens (plain at body) = parens body + 1
  parens (atomic_text at body) = parens body + 1
  parens (look_text at positive back body) = parens body + 1
  parens _ = 0

  pub all_parens : PlainTexts → ℕ
  all_parens done = 0
  all_parens (r also rs) = max (parens r) (all_parens rs)

-- the anchors and the sets of a pattern are those that the grammar makes
abbrev mutual
  pub kinds_fit : PlainText → Type 0
  kinds_fit (unit test) = test_fits test
  kinds_fit (anchor k) = IsTrue (is_anchor k)
  kinds_fit (reference at id) = Unit {0}
  kinds_fit (conditional at id met) = kinds_fit met
  kinds_fit (conditional_else at id met other) = kinds_fit met × kinds_fit other
  kinds_fit (sequence parts) = all_kinds_fit parts
  kinds_fit (alternation branches) = all_kinds_fit branches
  kinds_fit (counted at least most mode body) = kinds_fit body
  kinds_fit (capture at number name body) = kinds_fit body
  kinds_fit (plain at body) = kinds_fit body
  kinds_fit (atomic_text at body) = kinds_fit body
  kinds_fit (look_text at positive back body) = kinds_fit body

  pub all_kinds_fit : PlainTexts → Type 0
  all_kinds_fit done = Unit {0}
  all_kinds_fit (r also rs) = kinds_fit r × all_kinds_fit rs
