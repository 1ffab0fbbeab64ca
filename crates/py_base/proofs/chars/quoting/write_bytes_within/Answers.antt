use Rattle.std.proofs.Common.{sym, rules}
use Rattle.std.proofs.Output.{has_written_append, has_written_of_eq}
use Rattle.py_base.specs.Chars.Quoting.{quoted_chars, is_plain_byte}
use Rattle.py_base.proofs.Quotes.{in_quotes}
use Rattle.py_base.proofs.chars.quoting.write_bytes_within.Goals as goal

pub returns : goal.returns
returns g c = λ plain ok.
    let first = c.write_char.ensures.writes plain (search rules) in
    let second = c.write_bytes_chars.ensures first.plain (search rules) in
    let third = c.write_char-2.ensures.writes second.plain ok in
    has_written_of_eq _ _ _ _ _ (sym (in_quotes c.args.quote (quoted_chars c.args.quote is_plain_byte c.args.bytes.now)))
    (has_written_append _ _ _ _ _ _ first (has_written_append _ _ _ _ _ _ second third))
