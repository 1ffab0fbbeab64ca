use Rattle.std.proofs.Common.{arith}
use Rattle.std.proofs.Math.Nat.{one-le-pow}
use Rattle.py_int.proofs.RoundLemmas.{tens_below}
use Rattle.py_int.proofs.round.power_of_ten.Goals as goal

pub pow-requires : goal.pow-requires
pow-requires c = omega (arith, tens_below c.args.digits c.requires)

pub returns-clause-some : goal.returns-clause-some
returns-clause-some c = rw c.pow.ensures (omega (arith, one-le-pow c.args.digits 10 (omega arith)))

pub returns-clause-small : goal.returns-clause-small
returns-clause-small c = omega (arith, tens_below c.args.digits c.requires)
