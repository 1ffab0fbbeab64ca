use Rattle.std.proofs.Common.{sym, refl, encode_utf8_all}
use Rattle.py_text.proofs.CursorLemmas.{ascii_boundary, ascii_behind}
use Rattle.py_text.proofs.text.PyStr.byte_place.Goals as goal

pub returns-then-is_ascii-clause-place : goal.returns-then-is_ascii-clause-place
returns-then-is_ascii-clause-place c = ascii_boundary (encode_utf8_all c.args.self.now) c.args.self.now c.args.n refl (sym c.if-is_ascii.ensures) c.requires

pub returns-then-is_ascii-clause-after : goal.returns-then-is_ascii-clause-after
returns-then-is_ascii-clause-after c = ascii_behind c.args.self.now c.args.n (sym c.if-is_ascii.ensures)
