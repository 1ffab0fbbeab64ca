-- Literals of integers: a sign and a prefix are read from the front, and the rest is digits.
use Rattle.std.specs.Prelude.{ℕ, ◌+◌, ◌-◌, ◌*◌, ◌^◌, ◌==◌, min, nat_lt, nat_le, ℤ, pos, neg_ℤ, Bool, true, false, ◌&&◌, ◌||◌, List, [], ◌∷◌, drop, Option, None, Some, option_map, Result, Err, if◌then◌else◌}
use Rattle.std.specs.Char.{digit_value}
use Rattle.py_base.specs.Chars.Whitespace.{is_ascii_whitespace, trim}
use Rattle.py_base.specs.Reading.{find}
use Rattle.py_base.specs.declared.error.PyError.{PyError}
use Rattle.py_base.specs.declared.error.PyError.TheVariants.{BadBase, InvalidLiteral}
use Rattle.py_int.specs.Number.{carried}

-- a sign, or none: whether it is `-`, and the rest
abbrev pub read_sign : List ℕ → Bool × List ℕ
read_sign [] = (false, [])
read_sign (c ∷ cs) =
    if c == 45 then (true, cs)
    else if c == 43 then (false, cs)
    else (false, c ∷ cs)

-- the bases that the letters of prefixes name
abbrev pub prefix_bases : List (ℕ × ℕ)
prefix_bases = (98, 2) ∷ (66, 2) ∷ (111, 8) ∷ (79, 8) ∷ (120, 16) ∷ (88, 16) ∷ []

-- base 0 allows each prefix, another base its own
abbrev pub allowed : ℕ → Option ℕ → Option ℕ
allowed base None = None
allowed base (Some named) = if (base == 0) || (base == named) then Some named else None

-- the base that a prefix at the front names, where the call's base allows it
abbrev pub prefix_at : ℕ → List ℕ → Option ℕ
prefix_at base (z ∷ c ∷ cs) = if z == 48 then allowed base (find prefix_bases c) else None
prefix_at base cs = None

-- digits of a base after the number n, with single underscores between
-- (`digit`: a digit was read last, so that an underscore or the end may follow)
abbrev pub digits_after : ℕ → Bool → ℕ → List ℕ → Option ℕ
digits_after base digit n [] = if digit then Some n else None
digits_after base digit n (c ∷ cs) =
    if nat_lt (digit_value c) base then digits_after base true (n * base + digit_value c) cs
    else if digit && (c == 95) then digits_after base false n cs
    else None

-- digits, and nothing else
abbrev pub digits : ℕ → List ℕ → Option ℕ
digits base cs = digits_after base false 0 cs

-- without an underscore at the start
abbrev pub skip_underscore : List ℕ → List ℕ
skip_underscore [] = []
skip_underscore (c ∷ cs) = if c == 95 then cs else c ∷ cs

abbrev pub begins_with_zero : List ℕ → Bool
begins_with_zero [] = false
begins_with_zero (c ∷ cs) = c == 48

-- a leading 0 only of 0 itself
abbrev pub no_leading_zero : List ℕ → Option ℕ → Option ℕ
no_leading_zero cs None = None
no_leading_zero cs (Some n) = if begins_with_zero cs && nat_lt 0 n then None else Some n

-- digits without a prefix, where base 0 is 10
abbrev pub plain_digits : ℕ → List ℕ → Option ℕ
plain_digits base cs = if base == 0 then no_leading_zero cs (digits 10 cs) else digits base cs

-- digits after a prefix or none; after a prefix an underscore may be first
abbrev pub digits_by : ℕ → Option ℕ → List ℕ → Option ℕ
digits_by base None cs = plain_digits base cs
digits_by base (Some named) cs = digits named (skip_underscore (drop 2 cs))

-- a number without a sign
abbrev pub unsigned : ℕ → List ℕ → Option ℕ
unsigned base cs = digits_by base (prefix_at base cs) cs

abbrev pub signed : Bool → ℕ → ℤ
signed true n = neg_ℤ (pos n)
signed false n = pos n

-- the integer of a literal in a base
abbrev pub literal : ℕ → List ℕ → Option ℤ
literal base cs = option_map (signed (read_sign cs).0) (unsigned base (read_sign cs).1)

-- the greatest base, whose digits are 0 to 9 and A to Z
abbrev pub greatest_base : ℕ
greatest_base = 36

-- 0, which leaves the choice to the prefix, or from 2 to the greatest
abbrev pub is_base : ℕ → Bool
is_base base = (base == 0) || (nat_le 2 base && nat_le base greatest_base)

abbrev pub literal_result : ℕ → Option ℤ → Result ℤ PyError
literal_result base None = Err (InvalidLiteral base)
literal_result base (Some z) = carried z

-- what a text reads as: the base is tested first, then the literal, then whether it is too wide
abbrev pub int_of : ℕ → List ℕ → Result ℤ PyError
int_of base cs =
    if is_base base then literal_result base (literal base (trim is_ascii_whitespace cs))
    else Err BadBase

-- at most 2^128 - 1, where a reader stops to count
abbrev pub saturated : Option ℕ → Option ℕ
saturated n = option_map (λ k. min k (2 ^ 128 - 1)) n
