use Rattle.std.proofs.Common.{◌∙◌, ap, sym, arith, chars}
use Rattle.py_text.proofs.CursorLemmas.{ascii_boundary, ascii_piece}
use Rattle.py_text.proofs.text.PyStr.get_chars.Goals as goal

pub range-requires-clause-start_boundary : goal.range-requires-clause-start_boundary
range-requires-clause-start_boundary c = λ _. ascii_boundary c.as_str-text.result.now c.args.self.now c.args.range.start c.as_str-text.ensures.bytes (sym c.if-is_ascii.ensures) (omega arith)

pub range-requires-clause-end_boundary : goal.range-requires-clause-end_boundary
range-requires-clause-end_boundary c = ascii_boundary c.as_str-text.result.now c.args.self.now c.args.range.end c.as_str-text.ensures.bytes (sym c.if-is_ascii.ensures) (omega arith)

pub returns-then-is_ascii : goal.returns-then-is_ascii
returns-then-is_ascii c = ap chars c.range.ensures.value ∙ ascii_piece c.as_str-text.result.now c.args.self.now c.args.range.start c.args.range.end c.as_str-text.ensures.bytes (sym c.if-is_ascii.ensures)
