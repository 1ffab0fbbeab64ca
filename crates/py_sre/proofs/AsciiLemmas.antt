-- ASCII texts as bytes.
use Rattle.std.proofs.Common.{◌≡◌, ◌-◌, ◌∙◌, true, ℕ, List, drop, chars, encode_utf8_all}
use Rattle.std.specs.Prelude.{slice_range}
use Rattle.std.specs.Str.{IsUtf8}
use Rattle.std.proofs.lemmas.Str.{IsUtf8-from_ascii, chars-IsAscii}
use Rattle.py_text.specs.Text.{all_ascii}
use Rattle.py_text.proofs.AsciiLemmas.{ascii_take, ascii_drop, ascii_bytes}
use Rattle.py_text.proofs.PointLemmas.{is_ascii}

pub ascii_is_utf8 : (bs : List ℕ) → all_ascii bs ≡ true → IsUtf8 bs
ascii_is_utf8 bs h = IsUtf8-from_ascii bs (is_ascii bs h)

pub ascii_chars : (bs : List ℕ) → all_ascii bs ≡ true → chars bs ≡ bs
ascii_chars bs h = chars-IsAscii bs (is_ascii bs h)

pub ascii_between : (s : List ℕ) (a b : ℕ) → all_ascii s ≡ true → all_ascii (slice_range s a b) ≡ true
ascii_between s a b h = ascii_take (b - a) (drop a s) (ascii_drop a s h)

-- the bytes of an ASCII text are the text
pub bytes_are_text : (s bytes : List ℕ) → all_ascii s ≡ true → bytes ≡ encode_utf8_all s → bytes ≡ s
bytes_are_text s bytes h e = e ∙ ascii_bytes s h
