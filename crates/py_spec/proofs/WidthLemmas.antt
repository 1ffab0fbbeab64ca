-- What is written is what was to be written, with spaces around it alone.
use Rattle.std.proofs.Common.{◌≡◌, ◌∙◌, ℕ, ◌+◌, ◌-◌, ◌<◌, ◌&&◌, Bool, true, false, not, if◌then◌else◌, List, [], ◌∷◌, ◌++◌, length, sym, ap, subst, refl, arith, append-nil, length-append}
use Rattle.std.specs.Prelude.{unsigned_abs}
use Rattle.std.specs.Int.{is_negative}
use Rattle.py_spec.specs.declared.percent.parts.CConversionFlags.{CConversionFlags}
use Rattle.py_spec.specs.declared.percent.parts.CFormatSpec.{CFormatSpec}
use Rattle.py_spec.specs.Laws.{CharactersFillTheWidth, FillsTheWidth, IsNumber, NumbersFillTheWidth, StringsFillTheWidth}
use Rattle.py_spec.specs.Percent.Flags.{left_adjust, zero_pad}
use Rattle.py_spec.specs.Percent.Writing.{has, spaces, zeros, precision_in, short_of, sides, between, filled, most_units, cut, sign_text, prefix_text, digits_of, least_digits, zero_fill, number_after, kind_of}
use Rattle.py_spec.proofs.FillLemmas.{between_length, sides_sum}
use Rattle.py_spec.proofs.WritingLemmas.{zeros_joined, zeros_length}

-- on which side the spaces are
none_before : (flags : CConversionFlags) (n : ℕ) → has left_adjust flags ≡ true → (sides flags n).0 ≡ 0
none_before flags n h = ap (λ (b : Bool). let side : ℕ × ℕ = if b then (0, n) else (n, 0) in side.0) h

none_after : (flags : CConversionFlags) (n : ℕ) → has left_adjust flags ≡ false → (sides flags n).1 ≡ 0
none_after flags n h = ap (λ (b : Bool). let side : ℕ × ℕ = if b then (0, n) else (n, 0) in side.1) h

-- no spaces change nothing
between_none : (side : ℕ × ℕ) (units : List ℕ) → side.0 ≡ 0 → side.1 ≡ 0 → between side units ≡ units
between_none side units a b =
    ap (λ (n : ℕ). spaces n ++ (units ++ spaces side.1)) a ∙ ap (λ (n : ℕ). units ++ spaces n) b ∙ append-nil units

fills : (s : CFormatSpec) (units : List ℕ) → FillsTheWidth s units (filled s units)
fills s units =
    let short = short_of s (length units) in
    let side = sides s.flags short in
    record {
      before = side.0;
      after = side.1;
      parts = refl;
      left = λ h. none_before s.flags short h;
      right = λ h. none_after s.flags short h;
      filled = λ h. omega (arith, h, between_length side units, sides_sum s.flags short);
      kept = λ h. between_none side units (omega (arith, h, sides_sum s.flags short)) (omega (arith, h, sides_sum s.flags short));
    }

pub strings_filled : StringsFillTheWidth
strings_filled s units = fills s (cut (most_units s.format_type s.precision) units)

pub characters_filled : CharactersFillTheWidth
characters_filled s c = fills s (c ∷ [])

-- how many zeros fill the width
all_zeros : (flags : CConversionFlags) (n : ℕ) → has zero_pad flags ≡ true → has left_adjust flags ≡ false → zero_fill flags n ≡ n
all_zeros flags n z l = ap (λ (b : Bool). if b && not (has left_adjust flags) then n else 0) z ∙ ap (λ (b : Bool). if not b then n else 0) l

abbrev FilledBy : CConversionFlags → ℕ → ℕ → Type 0
FilledBy flags n fill = (has zero_pad flags ≡ true) × (has left_adjust flags ≡ false) × (fill ≡ n)

some_zeros : (flags : CConversionFlags) (n : ℕ) → 0 < zero_fill flags n → FilledBy flags n (zero_fill flags n)
some_zeros flags n h = by_tests (has zero_pad flags) (has left_adjust flags) refl refl h where
  by_tests : (a b : Bool) → has zero_pad flags ≡ a → has left_adjust flags ≡ b → 0 < (if a && not b then n else 0) → FilledBy flags n (zero_fill flags n)
  by_tests true false z l h = (z, l, all_zeros flags n z l)
  by_tests true true z l h = absurd (omega (arith, h))
  by_tests false b z l h = absurd (omega (arith, h))

long : (head ds : List ℕ) (n : ℕ) → length (head ++ (zeros n ++ ds)) ≡ length head + n + length ds
long head ds n = omega (arith, length-append head (zeros n ++ ds), zeros_length n ds)

number_filled : (s : CFormatSpec) (head ds : List ℕ) → IsNumber s head ds (number_after s head ds)
number_filled s head ds =
    let least = least_digits (precision_in s.precision) - length ds in
    let short = short_of s (length (head ++ (zeros least ++ ds))) in
    let fill = zero_fill s.flags short in
    record {
      count = fill + least;
      spaced = subst (λ (units : List ℕ). FillsTheWidth s units (number_after s head ds)) (ap (λ (units : List ℕ). head ++ units) (sym (zeros_joined fill least ds))) (fills s (head ++ (zeros fill ++ (zeros least ++ ds))));
      enough = omega arith;
      wide = λ z l. omega (arith, all_zeros s.flags short z l, long head ds least);
      few = λ h.
          let all : FilledBy s.flags short fill = some_zeros s.flags short (omega (arith, h)) in
          (all.0, all.1, omega (arith, h, all.2, long head ds least));
    }

pub numbers_filled : NumbersFillTheWidth
numbers_filled s z =
    let kind = kind_of s.format_type in
    number_filled s (sign_text s.flags (is_negative z) ++ prefix_text s.flags kind) (digits_of kind (unsigned_abs z))
