-- How a text or bytes are quoted.
use Rattle.std.specs.Prelude.{ℕ, Bool, not, ◌&&◌, ◌||◌, ◌==◌, ◌/◌, ◌%◌, nat_lt, if◌then◌else◌, List, [], ◌∷◌, ◌++◌, codes, flat_map, encode_utf8_all, Result}
use Rattle.std.specs.List.{list_any}
use Rattle.std.specs.Char.{digit_char}
use Rattle.std.specs.Fmt.{WritesOnOk}
use Rattle.std.specs.declared.fmt.Formatter.{Formatter}
use Rattle.std.specs.declared.fmt.Error.{Error}
use Rattle.py_base.specs.Chars.Classes.{between, is_printable}

-- `"` where the text holds `'` and no `"`, else `'`
abbrev pub quote_of : List ℕ → ℕ
quote_of t = if list_any (λ c. c == 39) t && not (list_any (λ c. c == 34) t) then 34 else 39

-- the last two, four and eight hexadecimal digits, in lower case
abbrev pub hex_2 : ℕ → List ℕ
hex_2 n = digit_char (n / 16) ∷ digit_char (n % 16) ∷ []

abbrev pub hex_4 : ℕ → List ℕ
hex_4 n = hex_2 (n / 256) ++ hex_2 (n % 256)

abbrev pub hex_8 : ℕ → List ℕ
hex_8 n = hex_4 (n / 65536) ++ hex_4 (n % 65536)

-- the shortest escape that holds the number
abbrev pub by_number : ℕ → List ℕ
by_number c =
    if nat_lt c 256 then codes "\\x" ++ hex_2 c
    else if nat_lt c 65536 then codes "\\u" ++ hex_4 c
    else codes "\\U" ++ hex_8 c

-- a backslash and the quote in use get a backslash before them; LF, CR and tab have letters
abbrev pub quoted_char : ℕ → Bool → ℕ → List ℕ
quoted_char quote plain c =
    if c == quote || c == 92 then 92 ∷ c ∷ []
    else if c == 10 then codes "\\n"
    else if c == 13 then codes "\\r"
    else if c == 9 then codes "\\t"
    else if plain then c ∷ []
    else by_number c

-- each character in turn; `plain` says which ones are not escaped
abbrev pub quoted_chars : ℕ → (ℕ → Bool) → List ℕ → List ℕ
quoted_chars quote plain t = flat_map (λ c. quoted_char quote (plain c) c) t

-- the characters between two quotes
abbrev pub within : ℕ → (ℕ → Bool) → List ℕ → List ℕ
within quote plain t = quote ∷ (quoted_chars quote plain t ++ quote ∷ [])

abbrev pub quoted : (ℕ → Bool) → List ℕ → List ℕ
quoted plain t = within (quote_of t) plain t

-- the characters of a text, and those with the quotes around them
abbrev pub text_chars : ℕ → List ℕ → List ℕ
text_chars quote t = quoted_chars quote is_printable t

abbrev pub text_within : ℕ → List ℕ → List ℕ
text_within quote t = within quote is_printable t

-- `repr` of a text
abbrev pub text_repr : List ℕ → List ℕ
text_repr t = quoted is_printable t

-- bytes from the space to `~`
abbrev pub is_plain_byte : ℕ → Bool
is_plain_byte b = between 0x20 0x7E b

-- the characters of bytes, and those with the quotes around them
abbrev pub bytes_chars : ℕ → List ℕ → List ℕ
bytes_chars quote bs = quoted_chars quote is_plain_byte bs

abbrev pub bytes_within : ℕ → List ℕ → List ℕ
bytes_within quote bs = within quote is_plain_byte bs

-- `repr` of bytes
abbrev pub bytes_repr : List ℕ → List ℕ
bytes_repr bs = 98 ∷ quoted is_plain_byte bs

-- the formatter has written a text, as its UTF-8 bytes, where the result is Ok
abbrev pub WritesText :
    {W : Type 0} → (W → List ℕ → W → Type 0) → Formatter W → Result (Unit {0}) Error → List ℕ
    → Formatter W → Type 0
WritesText gives before result text after =
    WritesOnOk gives before result (encode_utf8_all text) after
