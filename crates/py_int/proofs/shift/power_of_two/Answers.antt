use Rattle.std.proofs.Common.{◌≡◌, ◌*◌, ◌%◌, ◌^◌, to_z, ◌∙◌, ap, arith}
use Rattle.std.specs.Int.{w128}
use Rattle.std.proofs.lemmas.Int.{to_z_pos}
use Rattle.std.proofs.lemmas.Nat.{one_shl, pow_below}
use Rattle.py_int.proofs.shift.power_of_two.Goals as goal

pub returns : goal.returns
returns c =
    let e : 1 * 2 ^ c.args.exponent % 2 ^ 128 ≡ 2 ^ c.args.exponent = one_shl c.args.exponent 128 (omega arith) in
    c.from.ensures ∙ ap (to_z w128) e ∙ to_z_pos w128 (2 ^ c.args.exponent) (pow_below c.args.exponent 127 c.requires)
