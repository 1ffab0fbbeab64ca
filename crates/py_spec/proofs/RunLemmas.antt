-- One turn of the loops that read flags and digits.
use Rattle.std.proofs.Common.{◌≡◌, ◌∙◌, ℕ, ◌+◌, ◌*◌, ◌-◌, ◌<◌, ◌≤◌, Bool, true, false, if◌then◌else◌, List, [], ◌∷◌, sym, ap, arith, Some, None}
use Rattle.py_base.specs.Reading.{find}
use Rattle.py_spec.specs.declared.percent.parts.CConversionFlags.{CConversionFlags}
use Rattle.py_spec.specs.Percent.Flags.{flags_by_sign, flags_on, read_flags, with_flags}
use Rattle.py_spec.specs.Percent.Reading.{is_digit, read_digits, most}

pub flag_taken : (whole : CConversionFlags × List ℕ) (flags f : CConversionFlags) (c : ℕ) (cs rest : List ℕ) → find flags_by_sign c ≡ Some f → cs ≡ c ∷ rest → whole ≡ read_flags flags cs → whole ≡ read_flags (with_flags flags f) rest
flag_taken whole flags f c cs rest is e w =
    w ∙ ap (read_flags flags) e ∙ ap (λ o. flags_on o flags (c ∷ rest) (λ f. read_flags f rest)) is

pub flags_end : (whole : CConversionFlags × List ℕ) (flags : CConversionFlags) (c : ℕ) (cs rest : List ℕ) → find flags_by_sign c ≡ None → cs ≡ c ∷ rest → whole ≡ read_flags flags cs → whole ≡ (flags, cs)
flags_end whole flags c cs rest is e w =
    w ∙ ap (read_flags flags) e ∙ ap (λ o. flags_on o flags (c ∷ rest) (λ f. read_flags f rest)) is ∙ ap (λ l. (flags, l)) (sym e)

pub no_flags : (whole : CConversionFlags × List ℕ) (flags : CConversionFlags) (cs : List ℕ) → cs ≡ [] → whole ≡ read_flags flags cs → whole ≡ (flags, cs)
no_flags whole flags cs e w = w ∙ ap (read_flags flags) e ∙ ap (λ l. (flags, l)) (sym e)

pub digit_taken : (whole : ℕ × List ℕ) (n c : ℕ) (cs rest : List ℕ) → is_digit c ≡ true → cs ≡ c ∷ rest → whole ≡ read_digits n cs → whole ≡ read_digits (n * 10 + (c - 48)) rest
digit_taken whole n c cs rest is e w =
    w ∙ ap (read_digits n) e ∙ ap (λ b. if b then read_digits (n * 10 + (c - 48)) rest else (n, c ∷ rest)) is

pub digits_end : (whole : ℕ × List ℕ) (n c : ℕ) (cs rest : List ℕ) → is_digit c ≡ false → cs ≡ c ∷ rest → whole ≡ read_digits n cs → whole ≡ (n, cs)
digits_end whole n c cs rest is e w =
    w ∙ ap (read_digits n) e ∙ ap (λ b. if b then read_digits (n * 10 + (c - 48)) rest else (n, c ∷ rest)) is ∙ ap (λ l. (n, l)) (sym e)

pub no_digits : (whole : ℕ × List ℕ) (n : ℕ) (cs : List ℕ) → cs ≡ [] → whole ≡ read_digits n cs → whole ≡ (n, cs)
no_digits whole n cs e w = w ∙ ap (read_digits n) e ∙ ap (λ l. (n, l)) (sym e)

-- a number only grows by more digits
pub grows : (n : ℕ) (cs : List ℕ) → n ≤ (read_digits n cs).0
grows n [] = omega arith
grows n (c ∷ cs) = by_test (is_digit c) (grows (n * 10 + (c - 48)) cs) where
  by_test : (b : Bool) → n * 10 + (c - 48) ≤ (read_digits (n * 10 + (c - 48)) cs).0 → n ≤ (if b then read_digits (n * 10 + (c - 48)) cs else (n, c ∷ cs)).0
  by_test true h = omega (arith, h)
  by_test false h = omega arith

pub too_much : (whole : ℕ × List ℕ) (n : ℕ) (rest : List ℕ) → whole ≡ read_digits n rest → most < n → most < whole.0
too_much whole n rest w lt = omega (arith, grows n rest, ap (λ p. p.0) w)
