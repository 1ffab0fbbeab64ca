use Rattle.py_value.proofs.PutLemmas.{put_is_found, others_stay}
use Rattle.py_value.proofs.laws.what_was_put_is_found.Goals as goal

pub returns-clause-put : goal.returns-clause-put
returns-clause-put c = λ k v es. put_is_found k v es

pub returns-clause-others : goal.returns-clause-others
returns-clause-others c = λ i k v es h. others_stay i k v es h
