use Rattle.std.proofs.Common.{◌≡◌, ◌++◌, length, chars}
use denote.Text.{Utf8}
use denote.Shadow.{shadow}
use Rattle.py_value.specs.Printing.{escaped}
use Rattle.py_value.proofs.printing.escapes.put_escaped.Given as goal

abbrev pub invariant-runs : goal.invariant-runs
invariant-runs l = record {
  utf8 : shadow (Utf8 l.rest);
  whole : l.out ++ escaped (chars l.rest) ≡ l.initial.out ++ escaped (chars l.text);
}

abbrev pub decreases-runs : goal.decreases-runs
decreases-runs l = length l.rest
