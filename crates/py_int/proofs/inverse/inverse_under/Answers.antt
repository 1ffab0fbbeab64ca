use Rattle.std.proofs.Common.{◌<◌, true, false, arith}
use Rattle.std.proofs.lemmas.Nat.{mod_below}
use Rattle.py_int.proofs.EuclidLemmas.{State, step, nowhere, found_odd, found_even}
use Rattle.py_int.proofs.inverse.inverse_under.Goals as goal

pub loop-rest-preserved : goal.loop-rest-preserved
loop-rest-preserved c =
    let l = c.loop-rest in
    step c.args.modulus c.args.base l.before l.rest l.old l.new l.odd l.invariant c.loop-rest-test.true

pub returns-then-before-ne1 : goal.returns-then-before-ne1
returns-then-before-ne1 c =
    let l = c.loop-rest in
    nowhere c.args.modulus c.args.base l.before l.rest l.old l.new l.odd l.invariant (omega arith) c.if-before-ne1.true c.requires

pub overflow_sub-result : goal.overflow_sub-result
overflow_sub-result c = c.loop-rest.invariant.old_small

pub returns-then-odd : goal.returns-then-odd
returns-then-odd c =
    let l = c.loop-rest in
    let some : 0 < c.args.modulus = omega arith in
    let s : State c.args.modulus c.args.base l.before l.rest l.old l.new true = rw (c.if-odd.true) at l.invariant in
    (mod_below l.old c.args.modulus some, found_odd c.args.modulus c.args.base l.before l.rest l.old l.new s c.if-before-ne1.false)

pub returns-else-odd : goal.returns-else-odd
returns-else-odd c =
    let l = c.loop-rest in
    let some : 0 < c.args.modulus = omega arith in
    let s : State c.args.modulus c.args.base l.before l.rest l.old l.new false = rw (c.if-odd.false) at l.invariant in
    (mod_below _ c.args.modulus some, found_even c.args.modulus c.args.base l.before l.rest l.old l.new s c.if-before-ne1.false)
