use Rattle.std.proofs.Common.{◌≡◌, ◌≤◌, length}
use Rattle.py_spec.specs.Percent.Reading.{most, read_digits}
use Rattle.py_spec.proofs.percent.reader.Reader.digits.Given as goal

abbrev pub invariant-digits : goal.invariant-digits
invariant-digits l = record {
  sofar : read_digits 0 l.fn.self ≡ read_digits l.amount l.self;
  small : l.amount ≤ most;
}

abbrev pub decreases-digits : goal.decreases-digits
decreases-digits l = length l.self
