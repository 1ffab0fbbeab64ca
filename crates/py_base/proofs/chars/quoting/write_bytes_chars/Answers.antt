use Rattle.std.proofs.Common.{arith, rules}
use Rattle.std.proofs.Output.{has_written_append, has_written_of_eq}
use Rattle.py_base.specs.Chars.Quoting.{is_plain_byte}
use Rattle.py_base.proofs.Quotes.{quoted_more}
use Rattle.py_base.proofs.chars.quoting.write_bytes_chars.Goals as goal

pub bytes-preserved : goal.bytes-preserved
bytes-preserved g c = λ plain.
    has_written_of_eq _ _ _ _ _ (quoted_more c.args.quote is_plain_byte c.args.bytes.now c.bytes.byte-index (omega arith))
    (has_written_append _ _ _ _ _ _ (c.bytes.invariant plain) (search rules))
