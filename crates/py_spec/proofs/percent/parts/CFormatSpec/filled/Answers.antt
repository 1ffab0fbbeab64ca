use Rattle.std.proofs.Common.{◌∙◌, List, ℕ, ap, arith}
use Rattle.py_spec.specs.Percent.Writing.{between}
use Rattle.py_spec.proofs.FillLemmas.{between_utf8}
use Rattle.py_spec.proofs.WritingLemmas.{filled_count, filled_text}
use Rattle.py_spec.proofs.percent.parts.CFormatSpec.filled.Goals as goal

pub text_of-requires-clause-utf8 : goal.text_of-requires-clause-utf8
text_of-requires-clause-utf8 c =
    between_utf8 c.in_ok-bytes.bytes.items c.args.text.now c.sides.result c.utf8.text
    (c.in_ok-bytes.ensures.ok ∙ ap (λ (b : List ℕ). between c.sides.result b) c.as_bytes.ensures.value)

pub text_of-requires-clause-count : goal.text_of-requires-clause-count
text_of-requires-clause-count c =
    filled_count c.in_ok-bytes.bytes.items c.args.text.now c.args.self.now.flags c.args.count c.saturating_sub-short.result c.sides.result c.sides.ensures c.utf8.text
    (c.in_ok-bytes.ensures.ok ∙ ap (λ (b : List ℕ). between c.sides.result b) c.as_bytes.ensures.value)
    c.requires

pub returns-clause-ok : goal.returns-clause-ok
returns-clause-ok c =
    filled_text c.args.self.now c.text_of.result c.in_ok-bytes.bytes.items c.args.text.now c.width.result c.args.count c.saturating_sub-short.result c.sides.result c.width.ensures (omega arith) c.requires c.sides.ensures c.utf8.text
    (c.in_ok-bytes.ensures.ok ∙ ap (λ (b : List ℕ). between c.sides.result b) c.as_bytes.ensures.value)
    c.text_of.ensures
