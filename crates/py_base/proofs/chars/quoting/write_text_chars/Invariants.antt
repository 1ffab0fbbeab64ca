use Rattle.std.proofs.Common.{◌≡◌, ℕ, List, ◌++◌, length, chars, encode_utf8_all}
use Rattle.std.specs.Fmt.{HasWritten, IsPlainFormatter}
use Rattle.std.specs.Str.{IsUtf8}
use Rattle.std.specs.Str.Iter.{chars_rest}
use Rattle.py_base.specs.Chars.Classes.{is_printable}
use Rattle.py_base.specs.Chars.Quoting.{quoted_chars}
use Rattle.py_base.proofs.chars.quoting.write_text_chars.Given as goal

abbrev pub invariant-chars : goal.invariant-chars
invariant-chars g l =
    IsUtf8 (chars_rest l.rest)
    × (IsPlainFormatter l.fn.f
    → (done : List ℕ) × HasWritten g.W.Write.write_str_gives l.fn.f done l.f
    × (done ++ encode_utf8_all (quoted_chars l.fn.quote is_printable (chars (chars_rest l.rest))) ≡ encode_utf8_all (quoted_chars l.fn.quote is_printable (chars l.fn.text))))

abbrev pub decreases-chars : goal.decreases-chars
decreases-chars g l = length (chars_rest l.rest)
