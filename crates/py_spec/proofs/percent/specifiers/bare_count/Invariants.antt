use Rattle.std.proofs.Common.{◌≡◌, ◌≤◌, take}
use Rattle.std.specs.List.{count_by}
use Rattle.py_spec.specs.Percent.Specifiers.{is_bare}
use Rattle.py_spec.proofs.percent.specifiers.bare_count.Given as goal

abbrev pub invariant-loop-entry : goal.invariant-loop-entry
invariant-loop-entry l = record {
  sofar : l.count ≡ count_by (λ p. is_bare p.1) (take l.entry-index l.parts);
  few : l.count ≤ l.entry-index;
}
