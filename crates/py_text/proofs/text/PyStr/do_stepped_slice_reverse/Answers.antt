use Rattle.std.proofs.Common.{sym}
use Rattle.py_text.proofs.AsciiLemmas.{ascii_part, ascii_range}
use Rattle.py_text.proofs.text.PyStr.do_stepped_slice_reverse.Goals as goal

pub every_byte_back-requires-clause-ascii : goal.every_byte_back-requires-clause-ascii
every_byte_back-requires-clause-ascii c = ascii_range _ _ c.args.self.now c.args.range.start c.args.range.end c.as_bytes.ensures.value c.get_chars-part.utf8 c.get_chars-part.ensures (sym c.if-is_ascii.ensures)

pub returns-then-is_ascii-clause-ok : goal.returns-then-is_ascii-clause-ok
returns-then-is_ascii-clause-ok c =
    let same = ascii_part _ _ c.args.self.now c.args.range.start c.args.range.end c.as_bytes.ensures.value c.get_chars-part.utf8 c.get_chars-part.ensures (sym c.if-is_ascii.ensures) in
    rw (← same) c.every_byte_back.ensures.ok
