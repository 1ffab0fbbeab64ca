use Rattle.py_int.proofs.TwosComplementLemmas.{and_bits}
use Rattle.py_int.proofs.number.PyInt.and.Goals as goal

pub returns : goal.returns
returns c =
    rw (← c.as_i128.ensures, ← c.as_i128-2.ensures, c.from.ensures) (and_bits c.as_i128.result c.as_i128-2.result (record { sfits = c.as_i128.type_inv }) (record { sfits = c.as_i128-2.type_inv }))
