use Rattle.std.proofs.Common.{◌+◌, chars, length, arith}
use Rattle.py_text.proofs.OccurrenceLemmas.{counted_none, counted_more, counted_all, place_inside}
use Rattle.py_text.proofs.search.parts_in.Goals as goal

pub loop-back-init : goal.loop-back-init
loop-back-init c = record { utf8 = c.utf8.text; counted = λ k h. counted_none _ _ k }

pub loop-back-preserved : goal.loop-back-preserved
loop-back-preserved c = record { utf8 = c.in-Some.ensures.text.2; counted = λ k h. counted_more _ _ _ _ _ k _ c.requires.some h (c.loop-back.invariant.counted k h) c.in-Some.ensures.around }

pub overflow_add-parts : goal.overflow_add-parts
overflow_add-parts c =
    let k = c.loop-back.invariant.counted (length (chars c.args.text.now) + 1) (omega arith) in
    omega (arith, c.requires.bound, k.few, place_inside _ _ _ _ k.here)

pub returns : goal.returns
returns c = λ k h. counted_all _ _ _ k _ (c.loop-back.invariant.counted k h) c.in_default.ensures.around
