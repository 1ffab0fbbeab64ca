use Rattle.py_spec.proofs.LawLemmas.{more_room}
use Rattle.py_spec.proofs.laws.more_room_changes_nothing.Goals as goal

pub returns : goal.returns
returns c = more_room
