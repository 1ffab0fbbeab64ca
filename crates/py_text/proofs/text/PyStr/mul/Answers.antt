use Rattle.std.proofs.Common.{◌∙◌, ap, chars}
use Rattle.std.specs.Int.{w64}
use Rattle.std.proofs.lemmas.Int.{to_z-of_z}
use Rattle.std.proofs.lemmas.Str.{chars-nil}
use Rattle.py_text.proofs.SumLemmas.{times_none, times_empty, times_some}
use Rattle.py_text.proofs.text.PyStr.mul.Goals as goal
use Rattle.py_text.proofs.text.PyStr.mul.Goals.{then-value-le0-via-then-value-le0, then-value-le0-via-else-value-le0+then-is_empty}

pub returns-then-value-le0-clause-ok : goal.returns-then-value-le0-clause-ok
returns-then-value-le0-clause-ok c =
    c.from.ensures ∙ ap chars c.new.ensures.bytes ∙ chars-nil ∙ elim c.then-value-le0.branch [
      | then-value-le0-via-then-value-le0 w ↦ times_none c.args.value c.args.self.now (rw (to_z-of_z w64 c.args.value c.ranges.value) at w.if-value-le0.true)
      | then-value-le0-via-else-value-le0+then-is_empty w ↦ times_empty c.args.value c.args.self.now w.if-is_empty.ensures
    ]

pub returns-clause-free : goal.returns-clause-free
returns-clause-free c = λ none. absurd (times_some c.args.value c.args.self.now (rw (to_z-of_z w64 c.args.value c.ranges.value) at c.if-value-le0.false) c.if-is_empty.ensures none)
