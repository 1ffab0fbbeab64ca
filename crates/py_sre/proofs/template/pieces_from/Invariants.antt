use Rattle.std.proofs.Common.{◌≡◌, ◌-◌, ◌≤◌, false, map}
use Rattle.py_value.specs.Plain.{size_of_values}
use Rattle.py_sre.specs.Pieces.{piece_of}
use Rattle.py_sre.specs.Template as spec
use Rattle.py_sre.proofs.template.pieces_from.Given as goal

abbrev pub invariant-items : goal.invariant-items
invariant-items g l = record {
  within : l.place ≤ size_of_values l.list;
  so_far : spec.joined (map (piece_of g.K.Kind.units) l.pieces.items) (spec.pieces_from g.K.Kind.is_bytes l.groups l.is_group l.place (spec.values_from l.place l.list)) ≡ spec.pieces_from g.K.Kind.is_bytes l.groups false 0 l.list;
}

abbrev pub decreases-items : goal.decreases-items
decreases-items g l = size_of_values l.list - l.place
