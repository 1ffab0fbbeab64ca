-- Texts in a request, and how they are read.
use Rattle.std.specs.Prelude.{◌==◌, ◌&&◌, true, ℕ, nat_eq, if◌then◌else◌, List, [], ◌++◌, drop, codes, encode_utf8_all, Result, Ok}
use Rattle.std.specs.Cmp.Lexicographic.{pointwise}
use Rattle.std.specs.Result.{result_unwrap_or}
use Rattle.std.specs.Str.{all_scalars, chars}
use Rattle.hex.specs.Hex.{encode_lower, decode_of}
use Rattle.sre_commands.specs.Error.{Read, no_request}
use Rattle.sre_commands.specs.declared.error.ParseError.{ParseError}
use Rattle.sre_commands.specs.Tokens.Reader.{read_by_token}

-- a text's token: `t`, and its UTF-8 bytes in lower-case hexadecimal
abbrev pub token : List ℕ → List ℕ
token text = codes "t" ++ encode_lower (encode_utf8_all text)

-- the text of bytes that the digits after the first letter spell
abbrev pub spelled : List ℕ → List ℕ
spelled bytes = chars (result_unwrap_or (decode_of (drop 1 bytes)) [])

-- the text whose token these bytes are
abbrev pub text_in : List ℕ → Result (List ℕ) ParseError
text_in bytes =
    if pointwise nat_eq (token (spelled bytes)) bytes && all_scalars (spelled bytes)
    then Ok (spelled bytes)
    else no_request

abbrev pub read_text : List ℕ → Read (List ℕ)
read_text bytes = read_by_token text_in bytes
