use Rattle.std.proofs.Common.{◌≡◌, length}
use Rattle.py_spec.specs.Percent.Literals.{literal}
use Rattle.py_spec.proofs.LiteralLemmas.{put_before, Stopped}
use Rattle.py_spec.proofs.percent.reader.Reader.literal.Given as goal

abbrev pub invariant-percents : goal.invariant-percents
invariant-percents l = record {
  sofar : literal l.fn.self ≡ put_before l.text (literal l.self);
  stopped : Stopped l.self;
}

abbrev pub decreases-percents : goal.decreases-percents
decreases-percents l = length l.self
