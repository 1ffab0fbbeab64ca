use Rattle.std.proofs.Common.{◌<ℤ◌, pos, sym, ◌∙◌, arith}
use Rattle.std.proofs.lemmas.Int.{ints}
use Rattle.py_int.proofs.DivideLemmas.{residue_whole, residue_rest}
use Rattle.py_int.proofs.residue.residue_of.Goals as goal

pub returns-then-rest-eq0-clause-value : goal.returns-then-rest-eq0-clause-value
returns-then-rest-eq0-clause-value c =
    let below : c.args.z <ℤ pos 0 = omega (arith, ints) in
    residue_whole c.args.z c.args.m c.requires.some below (sym c.requires.rest ∙ c.if-rest-eq0.true)

pub returns-else-rest-eq0-clause-value : goal.returns-else-rest-eq0-clause-value
returns-else-rest-eq0-clause-value c =
    let below : c.args.z <ℤ pos 0 = omega (arith, ints) in
    rw c.requires.rest (residue_rest c.args.z c.args.m c.requires.some below (rw (← c.requires.rest) c.if-rest-eq0.false))
