-- How a table writes arguments and answers.
use Rattle.std.specs.Prelude.{List, [], ◌∷◌, ℕ, ◌++◌, codes, encode_utf8_all}
use Rattle.std.specs.Fmt.{decimal, signed_decimal}
use Rattle.hex.specs.Hex.{encode_lower}
use Rattle.py_int.specs.declared.bytes.ArgByteOrder.TheVariants.{Big, Little}
use Rattle.call_tables.specs.declared.token.Token.{Token}
use Rattle.call_tables.specs.declared.token.Token.TheVariants.{Text, Bytes, Int, Count, Missing, Order, Next, Hint}

-- a letter for what it is, and then the value: hexadecimal for texts and bytes, decimal for numbers
abbrev pub token_text : Token → List ℕ
token_text (Text t) = codes "t" ++ encode_lower (encode_utf8_all t)
token_text (Bytes bs) = codes "b" ++ encode_lower bs
token_text (Int z) = codes "i" ++ signed_decimal z
token_text (Count n) = codes "l" ++ decimal n
token_text Missing = codes "-"
token_text (Order Big) = codes "big"
token_text (Order Little) = codes "little"
token_text Next = codes "n"
token_text Hint = codes "h"

-- each after a space
abbrev pub spaced : List Token → List ℕ
spaced [] = []
spaced (t ∷ ts) = codes " " ++ token_text t ++ spaced ts
