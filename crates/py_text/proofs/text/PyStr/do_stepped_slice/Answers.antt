use Rattle.std.proofs.Common.{sym, slice_range}
use Rattle.py_text.proofs.StrideLemmas.{every_one}
use Rattle.py_text.proofs.AsciiLemmas.{ascii_part, ascii_range}
use Rattle.py_text.proofs.text.PyStr.do_stepped_slice.Goals as goal

pub every_byte-requires-clause-ascii : goal.every_byte-requires-clause-ascii
every_byte-requires-clause-ascii c = ascii_range _ _ c.args.self.now c.args.range.start c.args.range.end c.as_bytes.ensures.value c.get_chars-part.utf8 c.get_chars-part.ensures (sym c.if-is_ascii.ensures)

pub returns-then-step-eq1-clause-ok : goal.returns-then-step-eq1-clause-ok
returns-then-step-eq1-clause-ok c = rw (c.if-step-eq1.true, every_one (slice_range c.args.self.now c.args.range.start c.args.range.end)) c.do_slice.ensures.ok

pub returns-then-is_ascii-clause-ok : goal.returns-then-is_ascii-clause-ok
returns-then-is_ascii-clause-ok c =
    let same = ascii_part _ _ c.args.self.now c.args.range.start c.args.range.end c.as_bytes.ensures.value c.get_chars-part.utf8 c.get_chars-part.ensures (sym c.if-is_ascii.ensures) in
    rw (← same) c.every_byte.ensures.ok
