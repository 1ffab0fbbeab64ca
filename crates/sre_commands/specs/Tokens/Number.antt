-- Numbers in a request, and how they are read.
use Rattle.std.specs.Prelude.{◌≡◌, ◌⊎◌, ◌<◌, ◌≤◌, slice_index, ℕ, zero, suc, ◌&&◌, ◌^◌, nat_lt, nat_le, nat_eq, if◌then◌else◌, List, [], ◌∷◌, ◌++◌, length, drop, codes, Result, Ok}
use Rattle.std.specs.List.{flat_map}
use Rattle.std.specs.Cmp.Lexicographic.{pointwise}
use Rattle.std.specs.Fmt.{decimal}
use Rattle.std.specs.Str.Parse.{digits_value}
use Rattle.py_base.specs.Reading.{◌and_then◌, is_next}
use Rattle.sre_commands.specs.Error.{Read, no_request}
use Rattle.sre_commands.specs.declared.error.ParseError.{ParseError}
use Rattle.sre_commands.specs.Tokens.Reader.{read_past, read_by_token}

-- decimals with a space before each
abbrev pub numbers : List ℕ → List ℕ
numbers words = flat_map (λ w. codes " " ++ decimal w) words

-- a number's token: `i`, and its decimal
abbrev pub group_token : ℕ → List ℕ
group_token g = codes "i" ++ decimal g

-- the bytes are `0`, which is 48, or begin with a digit from `1` to `9`, which is 57
abbrev pub BeginsAsDecimal : List ℕ → Type 0
BeginsAsDecimal bytes =
    (bytes ≡ codes "0") ⊎ ((48 < slice_index bytes 0) × (slice_index bytes 0 ≤ 57))

-- the number below a limit whose decimal a token is
abbrev pub number_in : ℕ → List ℕ → Result ℕ ParseError
number_in limit token =
    if pointwise nat_eq (decimal (digits_value 10 token)) token
    && nat_lt (digits_value 10 token) limit
    then Ok (digits_value 10 token)
    else no_request

abbrev pub read_number : List ℕ → Read ℕ
read_number bytes = read_by_token (number_in (2 ^ 64)) bytes

abbrev pub read_word : List ℕ → Read ℕ
read_word bytes = read_by_token (number_in (2 ^ 32)) bytes

-- words with a space (32) before each, as many as there are: so many spaces at most
abbrev pub read_words : ℕ → List ℕ → Read (List ℕ)
read_words zero bytes = no_request
read_words (suc n) bytes =
    if is_next 32 bytes
    then (read_word (drop 1 bytes) and_then λ word rest.
    read_words n rest and_then λ words end. Ok (word ∷ words, end))
    else Ok ([], bytes)

-- the number of a group, or 0
abbrev pub read_group : ℕ → List ℕ → Read ℕ
read_group groups bytes =
    read_past (codes "i") bytes and_then λ _ rest.
    read_number rest and_then λ g rest.
    if nat_le g groups then Ok (g, rest) else no_request
