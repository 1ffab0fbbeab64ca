-- The values that specifiers without keys take, one after another.
use Rattle.std.specs.Prelude.{ℕ, zero, suc, nat_lt, Bool, if◌then◌else◌, ℤ, pos, negsuc, Option, Some, None, Result, Ok, Err}
use denote.Bor.{Bor}
use Rattle.py_base.specs.declared.error.percent.PercentCause.TheVariants.{NotEnough, StarNotInt}
use Rattle.py_base.specs.declared.error.PyError.{PyError}
use Rattle.py_base.specs.declared.error.PyError.TheVariants.{IntTooLargeFor, PercentArgs}
use Rattle.py_base.specs.declared.error.type_names.PrimitiveName.TheVariants.{I32}
use Rattle.py_spec.specs.declared.percent.parts.CConversionFlags.{CConversionFlags}
use Rattle.py_spec.specs.declared.percent.parts.CFormatPrecision.{CFormatPrecision}
use Rattle.py_spec.specs.declared.percent.parts.CFormatPrecision.TheVariants.{Quantity, Dot}
use Rattle.py_spec.specs.declared.percent.parts.CFormatQuantity.{CFormatQuantity}
use Rattle.py_spec.specs.declared.percent.parts.CFormatQuantity.TheVariants.{Amount, FromValuesTuple}
use Rattle.py_spec.specs.declared.percent.parts.CFormatSpec.{CFormatSpec}
use Rattle.py_spec.specs.Percent.Flags.{flag, with_flags, left_adjust}
use Rattle.py_value.specs.declared.value.Value.{Value}
use Rattle.py_value.specs.Classes.{integer_of}
use Rattle.py_value.specs.Plain.{Plain, Plains, tuple, empty, ◌then◌}
use Rattle.py_value.specs.ValueView.{plain_of}
use Rattle.py_format.specs.declared.percent.taking.Width.{Width}

-- what was taken, and the values that are left
abbrev pub Taken : Type 0 → Type 0
Taken A = Result (A × Plains) PyError

-- one result, and where it is a value, another that goes on with it
infixl 15 ◌if_ok◌
abbrev pub ◌if_ok◌ : {A B : Type 0} → Result A PyError → (A → Result B PyError) → Result B PyError
Ok a if_ok f = f a
Err e if_ok f = Err e

-- the next value
abbrev pub next_value : Plains → Taken Plain
next_value empty = Err (PercentArgs NotEnough)
next_value (v then vs) = Ok (v, vs)

-- the number for a `*` fits 32 bits with a sign
abbrev pub fits_star : ℤ → Bool
fits_star (pos n) = nat_lt n 2147483648
fits_star (negsuc n) = nat_lt n 2147483648

abbrev pub star_number : Option ℤ → Result ℤ PyError
star_number None = Err (PercentArgs StarNotInt)
star_number (Some z) = if fits_star z then Ok z else Err (IntTooLargeFor I32)

-- a `*` takes the next value, and it is tested before another is taken
abbrev pub take_star : Plains → Taken ℤ
take_star vs = next_value vs if_ok λ v. star_number (integer_of v.0) if_ok λ z. Ok (z, v.1)

-- a negative number for a `*` is a width too, with left adjustment
abbrev pub width_of : CConversionFlags → ℤ → Width
width_of flags (pos n) = record { amount = Some (Amount n); flags = flags }
width_of flags (negsuc n) =
    record { amount = Some (Amount (suc n)); flags = with_flags flags (flag left_adjust) }

abbrev pub take_width : CConversionFlags → Option CFormatQuantity → Plains → Taken Width
take_width flags None vs = Ok (record { amount = None; flags = flags }, vs)
take_width flags (Some (Amount n)) vs = Ok (record { amount = Some (Amount n); flags = flags }, vs)
take_width flags (Some FromValuesTuple) vs = take_star vs if_ok λ z. Ok (width_of flags z.0, z.1)

-- a negative number for a `*` is a precision of 0
abbrev pub precision_of : ℤ → ℕ
precision_of (pos n) = n
precision_of (negsuc n) = 0

abbrev pub take_precision : Option CFormatPrecision → Plains → Taken (Option CFormatPrecision)
take_precision None vs = Ok (None, vs)
take_precision (Some Dot) vs = Ok (Some Dot, vs)
take_precision (Some (Quantity (Amount n))) vs = Ok (Some (Quantity (Amount n)), vs)
take_precision (Some (Quantity FromValuesTuple)) vs =
    take_star vs if_ok λ z. Ok (Some (Quantity (Amount (precision_of z.0))), z.1)

-- a specifier with a width and a precision that were taken
abbrev pub settled : CFormatSpec → Width → Option CFormatPrecision → CFormatSpec
settled s width precision = record {
  mapping_key = None;
  flags = width.flags;
  min_field_width = width.amount;
  precision = precision;
  format_type = s.format_type;
  format_char = s.format_char;
}

-- the values that are there to be taken: those of a tuple, or the one value
abbrev pub values_in : Plain → Plains
values_in (tuple vs) = vs
values_in v = v then empty

-- the values from a place on
abbrev pub from : ℕ → Plains → Plains
from zero vs = vs
from (suc i) empty = empty
from (suc i) (v then vs) = from i vs

-- values after one more, where there is one
abbrev pub after_one : Option (Bor Value) → Plains → Plains
after_one None vs = vs
after_one (Some v) vs = plain_of v.now then vs

-- what was taken, beside the values that are left then
abbrev pub with_left : {A : Type 0} → Result A PyError → Plains → Taken A
with_left (Ok a) vs = Ok (a, vs)
with_left (Err e) vs = Err e

-- a borrowed value as the plain one
abbrev pub plain_value : Result (Bor Value) PyError → Result Plain PyError
plain_value (Ok v) = Ok (plain_of v.now)
plain_value (Err e) = Err e
