-- The flags of a specifier, and how they are read.
use Rattle.std.specs.Prelude.{ℕ, List, [], ◌∷◌, Option, Some, None}
use Rattle.std.specs.Int.RustNames.{bit_or}
use Rattle.py_base.specs.Reading.{find}
use Rattle.py_spec.specs.declared.percent.parts.CConversionFlags.{CConversionFlags}

-- a flag is a bit
abbrev pub flag : ℕ → CConversionFlags
flag b = record { 0 = b }

abbrev pub with_flags : CConversionFlags → CConversionFlags → CConversionFlags
with_flags a b = flag (bit_or a.0 b.0)

-- the bits of `#`, `0`, `-`, the space and `+`
abbrev pub alternate_form : ℕ
alternate_form = 1

abbrev pub zero_pad : ℕ
zero_pad = 2

abbrev pub left_adjust : ℕ
left_adjust = 4

abbrev pub blank_sign : ℕ
blank_sign = 8

abbrev pub sign_char : ℕ
sign_char = 16

-- the flag of each sign
abbrev pub flags_by_sign : List (ℕ × CConversionFlags)
flags_by_sign =
    (35, flag alternate_form) ∷ (48, flag zero_pad) ∷ (45, flag left_adjust)
    ∷ (32, flag blank_sign) ∷ (43, flag sign_char) ∷ []

abbrev pub flags_on : Option CConversionFlags → CConversionFlags → List ℕ
    → (CConversionFlags → CConversionFlags × List ℕ) → CConversionFlags × List ℕ
flags_on None flags cs next = (flags, cs)
flags_on (Some f) flags cs next = next (with_flags flags f)

-- these flags and those that come next, in any order and number
abbrev pub read_flags : CConversionFlags → List ℕ → CConversionFlags × List ℕ
read_flags flags [] = (flags, [])
read_flags flags (c ∷ cs) = flags_on (find flags_by_sign c) flags (c ∷ cs) (λ f. read_flags f cs)
