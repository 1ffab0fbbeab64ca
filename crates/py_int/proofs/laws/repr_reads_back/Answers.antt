use Rattle.py_int.proofs.ReprLemmas.{reads_back}
use Rattle.py_int.proofs.laws.repr_reads_back.Goals as goal

pub returns : goal.returns
returns c = reads_back
