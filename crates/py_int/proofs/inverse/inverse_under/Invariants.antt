use Rattle.py_int.proofs.EuclidLemmas.{State}
use Rattle.py_int.proofs.inverse.inverse_under.Given as goal

abbrev pub invariant-loop-rest : goal.invariant-loop-rest
invariant-loop-rest l = State l.modulus l.fn.base l.before l.rest l.old l.new l.odd

abbrev pub decreases-loop-rest : goal.decreases-loop-rest
decreases-loop-rest l = l.rest
