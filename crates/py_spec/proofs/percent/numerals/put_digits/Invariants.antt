use Rattle.std.proofs.Common.{◌≡◌, ◌<◌, ◌≤◌, ◌^◌, drop, length}
use Rattle.std.specs.Fmt.{digits}
use Rattle.py_spec.proofs.NumeralLemmas.{digits_before}
use Rattle.py_spec.proofs.percent.numerals.put_digits.Given as goal

abbrev pub invariant-digits : goal.invariant-digits
invariant-digits l = record {
  sofar : digits l.base l.upper l.n ≡ digits_before l.at l.base l.upper l.left (drop l.at l.room);
  small : l.left < 8 ^ l.at;
  some : 0 < l.at;
  within : l.at ≤ 64;
  size : length l.room ≡ 64;
}

abbrev pub decreases-digits : goal.decreases-digits
decreases-digits l = l.left
