-- A decimal is read back, and nothing else is.
use Rattle.std.proofs.Common.{◌≡◌, ◌≢◌, ℕ, zero, suc, ◌<◌, ◌≤◌, ◌^◌, List, [], ◌∷◌, ◌⊎◌, inl, inr, length, get_or, slice_index, Result, Ok, Err, IfSome, IfNone, sym, ap, ◌∙◌, arith}
use Rattle.std.specs.Fmt.{decimal}
use Rattle.std.specs.Result.{result_ok, OkIff}
use Rattle.std.specs.Str.Parse.{AllDigits, ParsesUnsigned, digits_value}
use Rattle.std.proofs.lemmas.Fmt.{decimal_is_IsNumeral, decimal_digit, decimal_nonempty, first_decimal, parse-decimal, decimal-digits_value, decimal_injective}
use Rattle.std.proofs.lemmas.List.Elements.{All-from_get_or}
use Rattle.std.proofs.lemmas.Str.Parse.{IsNumeralModel, digit_at, numerals_by_value, parse_plain, tells_digits}
use Rattle.sre_commands.specs.Tokens.Number.{BeginsAsDecimal}
use Rattle.sre_commands.proofs.LacksLemmas.{Lacks}

-- no byte below the digits is in a decimal
pub lacks_decimal : (byte n : ℕ) → byte < 48 → n < 2 ^ 64 → Lacks byte (decimal n)
lacks_decimal byte n below small =
    let digits = decimal_is_IsNumeral n small in
    All-from_get_or (λ b. b ≢ byte) (decimal n) 0 (λ i lt. let h = digit_at (decimal n) i digits.0.1 lt in omega arith)

pub decimal_begins : (n : ℕ) → n < 2 ^ 64 → BeginsAsDecimal (decimal n)
decimal_begins zero small = inl (decimal_digit 0 (omega arith))
decimal_begins (suc n) small =
    let digits = decimal_is_IsNumeral (suc n) small in
    let first = first_decimal (suc n) (omega arith) small in
    let digit = digit_at (decimal (suc n)) 0 digits.0.1 (decimal_nonempty (suc n) small) in
    inr (first, digit.1)

own : IsNumeralModel (AllDigits 10) (digits_value 10)
own = numerals_by_value (AllDigits 10) tells_digits

no_plus : (bytes : List ℕ) → BeginsAsDecimal bytes → get_or bytes 0 0 ≢ 43
no_plus bytes (inl zero_alone) = rw zero_alone (omega arith)
no_plus bytes (inr first) = let h = first.0 in omega arith

zero_is_alone : (bytes : List ℕ) → BeginsAsDecimal bytes → get_or bytes 0 0 ≡ 48 → length bytes ≡ 1
zero_is_alone bytes (inl zero_alone) e = ap length zero_alone
zero_is_alone bytes (inr first) e = let h = first.0 in absurd (omega arith)

plain_found : {E : Type 0} (bytes : List ℕ) (r : Result ℕ E) → BeginsAsDecimal bytes → OkIff r (AllDigits 10 bytes × (0 < length bytes) × (digits_value 10 bytes < 2 ^ 64)) (digits_value 10 bytes) → IfSome (result_ok r) (λ n. bytes ≡ decimal n)
plain_found bytes (Ok n) begins h =
    let parts = h.0 in
    let is : n ≡ digits_value 10 bytes = h.1 in
    rw is (sym (decimal-digits_value own bytes parts.0 parts.1 (zero_is_alone bytes begins) parts.2))
plain_found bytes (Err e) begins h = tt

pub parsed_found : {E : Type 0} (bytes : List ℕ) (r : Result ℕ E) → BeginsAsDecimal bytes → ParsesUnsigned 64 10 bytes r → IfSome (result_ok r) (λ n. bytes ≡ decimal n)
parsed_found bytes r begins parses = plain_found bytes r begins (parse_plain own 64 bytes r parses (no_plus bytes begins))

pub parsed_none : {E : Type 0} (bytes : List ℕ) (r : Result ℕ E) → ParsesUnsigned 64 10 bytes r → IfNone (result_ok r) ((n : ℕ) → n < 2 ^ 64 → bytes ≡ decimal n → ⊥)
parsed_none bytes (Ok n) parses = tt
parsed_none bytes (Err e) parses = λ n small is.
    let gives = parse-decimal 64 n bytes (Err e) small small is parses in
    cc

-- the same below 2 ^ 32
pub narrowed_none : {E : Type 0} (bytes : List ℕ) (r : Result ℕ E) (wide : ℕ) → wide < 2 ^ 64 → bytes ≡ decimal wide → OkIff r (wide < 2 ^ 32) wide → IfNone (result_ok r) ((n : ℕ) → n < 2 ^ 32 → bytes ≡ decimal n → ⊥)
narrowed_none bytes (Ok n) wide fits is h = tt
narrowed_none bytes (Err e) wide fits is h = λ n small same.
    let one : wide ≡ n = decimal_injective wide n fits (omega arith) (sym is ∙ same) in
    h (omega arith)
