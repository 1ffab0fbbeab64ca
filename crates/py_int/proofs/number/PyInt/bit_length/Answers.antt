use Rattle.std.proofs.Common.{◌≡◌, unsigned_abs, ap, ◌∙◌}
use Rattle.std.specs.Int.{w128}
use Rattle.std.proofs.lemmas.Int.{to_z-of_z}
use Rattle.py_int.proofs.LengthLemmas.{length_by_zeros}
use Rattle.py_int.proofs.number.PyInt.bit_length.Goals as goal

pub returns : goal.returns
returns c =
    let a : c.unsigned_abs.result ≡ unsigned_abs c.args.self.now =
    c.unsigned_abs.ensures.value ∙ ap unsigned_abs (to_z-of_z w128 c.as_i128.result (record { sfits = c.as_i128.type_inv }) ∙ c.as_i128.ensures) in
    rw (← a) (length_by_zeros c.unsigned_abs.result c.from.result c.unsigned_abs.type_inv c.from.ensures)
