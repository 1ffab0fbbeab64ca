-- What the name of a key prints.
use Rattle.std.specs.Prelude.{ℕ, List, encode_utf8_all}
use Rattle.std.specs.Fmt.{signed_decimal}
use Rattle.py_base.specs.Chars.Quoting.{text_repr, bytes_repr}
use Rattle.py_base.specs.declared.error.key.KeyName.{KeyName}
use Rattle.py_base.specs.declared.error.key.KeyName.TheVariants.{Int, Text, Bytes}

-- the key's repr
abbrev pub key_text : KeyName → List ℕ
key_text (Int n) = signed_decimal n
key_text (Text t) = encode_utf8_all (text_repr t)
key_text (Bytes bs) = encode_utf8_all (bytes_repr bs)
