use Rattle.std.proofs.Common.{◌≡◌, ◌++◌, take}
use Rattle.py_base.specs.Chars.Quoting.{quoted_chars, is_plain_byte}
use Rattle.py_str.proofs.quote.push_bytes.Given as goal

abbrev pub invariant-bytes : goal.invariant-bytes
invariant-bytes l = l.out ≡ l.initial.out ++ quoted_chars l.quote is_plain_byte (take l.byte-index l.bytes)
