use Rattle.py_str.proofs.LawLemmas.{encoded_decoded}
use Rattle.py_str.proofs.laws.encoded_is_decoded.Goals as goal

pub returns : goal.returns
returns c = encoded_decoded
