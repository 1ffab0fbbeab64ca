use Rattle.std.proofs.Common.{◌≡◌, ◌≤◌, ◌+◌, length}
use Rattle.py_spec.specs.Percent.Reading.{key_in}
use Rattle.py_spec.proofs.KeyLemmas.{joined}
use Rattle.py_spec.proofs.percent.reader.Reader.key_text.Given as goal

abbrev pub invariant-key : goal.invariant-key
invariant-key l = record {
  sofar : key_in l.place 0 l.fn.self ≡ joined l.key (key_in l.place l.level l.self);
  few : l.level + length l.self ≤ length l.fn.self;
}

abbrev pub decreases-key : goal.decreases-key
decreases-key l = length l.self
