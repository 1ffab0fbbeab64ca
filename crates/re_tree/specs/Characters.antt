-- Characters that the grammar of patterns names.
use Rattle.std.specs.Prelude.{ℕ, zero, suc, ◌+◌, ◌-◌, ◌*◌, Option, Some, None, if◌then◌else◌, ◌||◌, ◌&&◌, not, nat_le, nat_lt, Bool, true, false, List, [], ◌∷◌}

abbrev pub if_flag : Bool → ℕ → ℕ → ℕ
if_flag true a b = a
if_flag false a b = b

abbrev pub is_digit : ℕ → Bool
is_digit c = nat_le 48 c && nat_le c 57

abbrev pub is_octal : ℕ → Bool
is_octal c = nat_le 48 c && nat_le c 55

-- an ASCII letter
abbrev pub is_letter : ℕ → Bool
is_letter c = (nat_le 65 c && nat_le c 90) || (nat_le 97 c && nat_le c 122)

-- an ASCII character that is no letter and no digit
abbrev pub is_ascii_non_alphanumeric : ℕ → Bool
is_ascii_non_alphanumeric c = nat_lt c 128 && not (is_digit c || is_letter c)

-- the first character is there and meets the test
abbrev pub first_is : (ℕ → Bool) → List ℕ → Bool
first_is test [] = false
first_is test (c ∷ cs) = test c

abbrev pub hex_digit : ℕ → Option ℕ
hex_digit c =
    if is_digit c then Some (c - 48)
    else if nat_le 65 c && nat_le c 70 then Some (c - 55)
    else if nat_le 97 c && nat_le c 102 then Some (c - 87)
    else None

abbrev pub with_digit : {X : Type 0} → Option ℕ → ℕ → (ℕ → Option X) → Option X
with_digit None n f = None
with_digit (Some d) n f = f (16 * n + d)

-- the number that hexadecimal digits write, after those of n
abbrev pub hex_from : ℕ → List ℕ → Option ℕ
hex_from n [] = Some n
hex_from n (c ∷ cs) = with_digit (hex_digit c) n (λ m. hex_from m cs)

abbrev pub is_character : ℕ → Bool
is_character c = nat_lt c 55296 || (nat_lt 57343 c && nat_lt c 1114112)

-- the character that k digits write, and what is left
abbrev pub read_hex : ℕ → ℕ → List ℕ → Option (ℕ × List ℕ)
read_hex zero n cs = if is_character n then Some (n, cs) else None
read_hex (suc k) n [] = None
read_hex (suc k) n (c ∷ cs) = with_digit (hex_digit c) n (λ m. read_hex k m cs)
