use Rattle.py_int.proofs.BytesLemmas.{round_trip}
use Rattle.py_int.proofs.laws.bytes_spell_the_number.Goals as goal

pub returns : goal.returns
returns c = round_trip
