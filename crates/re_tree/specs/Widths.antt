-- How many units a part passes over, where that is one number whatever it matches.
use Rattle.std.specs.Prelude.{ℕ, ◌+◌, ◌*◌, ◌==◌, Bool, true, false, Option, Some, None, if◌then◌else◌}
use Rattle.re_tree.specs.PlainText.{PlainText, PlainTexts, unit, anchor, reference, conditional, conditional_else, sequence, alternation, counted, capture, plain, atomic_text, look_text, done, ◌also◌}

abbrev pub plus : Option ℕ → Option ℕ → Option ℕ
plus (Some a) (Some b) = Some (a + b)
plus _ _ = None

-- the one width of both
abbrev pub common : Option ℕ → Option ℕ → Option ℕ
common (Some a) (Some b) = if a == b then Some a else None
common _ _ = None

-- a count of exactly n
abbrev pub times : ℕ → Option ℕ → Option ℕ → Option ℕ
times least (Some most) (Some a) = if most == least then Some (least * a) else None
times least _ _ = None

abbrev mutual
  pub width : PlainText → Option ℕ
  width (unit test) = Some 1
  width (anchor k) = Some 0
  width (reference at id) = None
  width (conditional at id met) = common (width met) (Some 0)
  width (conditional_else at id met other) = common (width met) (width other)
  width (sequence parts) = sum_of_widths parts
  width (alternation branches) = common_width branches
  width (counted at least most mode body) = times least most (width body)
  width (capture at number name body) = width body
  width (plain at body) = width body
  width (atomic_text at body) = width body
  width (look_text at positive back body) = Some 0

  pub sum_of_widths : PlainTexts → Option ℕ
  sum_of_widths done = Some 0
  sum_of_widths (r also rs) = plus (width r) (sum_of_widths rs)

  pub common_width : PlainTexts → Option ℕ
  common_width done = None
  common_width (r also done) = width r
  common_width (r also q also rs) = common (width r) (common_width (q also rs))
