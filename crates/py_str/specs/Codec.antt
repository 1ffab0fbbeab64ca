-- The one codec, UTF-8, and its names.
use Rattle.std.specs.Prelude.{◌≡◌, ◌⊎◌, ℕ, Bool, true, false, ◌||◌, List, map, codes, Option, Some, None, encode_utf8_all, option_copied, IsUtf8}
use Rattle.std.specs.Borrow.{Bor}
use Rattle.std.specs.Char.{to_ascii_lowercase}
use Rattle.py_base.specs.declared.error.PyError.{PyError}
use Rattle.py_base.specs.declared.error.PyError.TheVariants.{NoMemory, UnknownEncoding, InvalidUtf8}
use Rattle.py_text.specs.Affixes.{same}

-- a text's UTF-8, with its ASCII letters in lower case
abbrev pub small : List ℕ → List ℕ
small cs = map to_ascii_lowercase (encode_utf8_all cs)

-- `utf-8` or `utf8`, in any case of the ASCII letters; where no name is given it is UTF-8 too
abbrev pub names_utf8 : Option (List ℕ) → Bool
names_utf8 None = true
names_utf8 (Some cs) = same (small cs) (codes "utf-8") || same (small cs) (codes "utf8")

-- the result of `encode`: the name is one of UTF-8, and these are the bytes
abbrev pub IsEncoded : Option (Bor (List ℕ)) → List ℕ → List ℕ → Type 0
IsEncoded name cs made = (names_utf8 (option_copied name) ≡ true) × (made ≡ encode_utf8_all cs)

-- the error of `encode`: `UnknownEncoding` exactly where the name is none of UTF-8
abbrev pub IsEncodeError : Option (Bor (List ℕ)) → PyError → Type 0
IsEncodeError name e =
    ((names_utf8 (option_copied name) ≡ true) × (e ≡ NoMemory))
    ⊎ ((names_utf8 (option_copied name) ≡ false) × (e ≡ UnknownEncoding))

-- the result of `decode`: the text whose UTF-8 the bytes are
abbrev pub IsDecoded : List ℕ → List ℕ → Type 0
IsDecoded bytes made = encode_utf8_all made ≡ bytes

-- the error of `decode`: `InvalidUtf8` exactly where the bytes are no UTF-8
abbrev pub IsDecodeError : List ℕ → PyError → Type 0
IsDecodeError bytes e = (IsUtf8 bytes × (e ≡ NoMemory)) ⊎ ((¬ (IsUtf8 bytes)) × (e ≡ InvalidUtf8))
