use Rattle.std.proofs.Common.{take, encode_utf8_all}
use Rattle.std.specs.Fmt.{HasWritten, IsPlainFormatter}
use Rattle.py_base.specs.Chars.Quoting.{quoted_chars, is_plain_byte}
use Rattle.py_base.proofs.chars.quoting.write_bytes_chars.Given as goal

abbrev pub invariant-bytes : goal.invariant-bytes
invariant-bytes g l =
    IsPlainFormatter l.initial.f → HasWritten g.W.Write.write_str_gives l.initial.f (encode_utf8_all (quoted_chars l.quote is_plain_byte (take l.byte-index l.bytes))) l.f
