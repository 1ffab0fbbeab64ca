use Rattle.std.proofs.Common.{arith}
use Rattle.py_spec.proofs.WritingLemmas.{number_written}
use Rattle.py_spec.proofs.percent.parts.CFormatSpec.number_bytes.Goals as goal

pub returns-clause-ok : goal.returns-clause-ok
returns-clause-ok c =
    number_written c.args.self.now c.args.sign.now c.args.prefix.now c.args.digits.now
    c.in_ok-made.made.items c.put_head.new.bytes.items c.put_digits.new.bytes.items c.put_run.new.bytes.items
    c.width-width.result c.least_digits.result c.saturating_sub-least.result c.saturating_sub.result c.saturating_sub-head.result c.saturating_sub-2.result c.saturating_sub-short.result c.zero_fill-fill.result c.sides-before.result
    c.width-width.ensures c.least_digits.ensures (omega arith) (omega arith) (omega arith) (omega arith) (omega arith)
    c.zero_fill-fill.ensures.zeros c.zero_fill-fill.ensures.few c.sides-before.ensures
    c.in_ok-made.ensures.ok c.in_ok-put_head.ensures.ok c.in_ok-put_digits.ensures.ok c.in_ok-put_run.ensures.ok
