use Rattle.py_text.proofs.PieceLemmas.{mirror_of}
use Rattle.py_text.proofs.pieces.rsplit_at.Goals as goal

pub returns-clause-ok : goal.returns-clause-ok
returns-clause-ok c = mirror_of _ _ _ c.in_ok-list.ensures.ok c.reverse.ensures
