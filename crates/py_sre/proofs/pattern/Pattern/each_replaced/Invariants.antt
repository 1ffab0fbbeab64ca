use Rattle.std.proofs.Common.{◌≡◌, ◌-◌, ◌≤◌, map}
use Rattle.py_value.specs.Plain.{size_of_values}
use Rattle.py_sre.specs.Pieces.{piece_of}
use Rattle.py_sre.specs.Substituting as spec
use Rattle.py_sre.specs.Template.{values_from}
use Rattle.py_sre.proofs.pattern.Pattern.each_replaced.Given as goal

abbrev pub invariant-subjects : goal.invariant-subjects
invariant-subjects g l = record {
  within : l.place ≤ size_of_values l.subjects;
  so_far : spec.followed l.made (spec.each_replaced l.self.is_bytes l.self.code.tree (map (piece_of g.K.Kind.units) l.pieces) (g.K.Kind.units l.unset) l.count (values_from l.place l.subjects)) ≡ spec.each_replaced l.self.is_bytes l.self.code.tree (map (piece_of g.K.Kind.units) l.pieces) (g.K.Kind.units l.unset) l.count l.subjects;
}

abbrev pub decreases-subjects : goal.decreases-subjects
decreases-subjects g l = size_of_values l.subjects - l.place
