use Rattle.py_int.proofs.TwosComplementLemmas.{or_bits}
use Rattle.py_int.proofs.number.PyInt.or.Goals as goal

pub returns : goal.returns
returns c =
    rw (← c.as_i128.ensures, ← c.as_i128-2.ensures, c.from.ensures) (or_bits c.as_i128.result c.as_i128-2.result (record { sfits = c.as_i128.type_inv }) (record { sfits = c.as_i128-2.type_inv }))
