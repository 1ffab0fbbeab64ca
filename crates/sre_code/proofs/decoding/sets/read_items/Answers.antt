use Rattle.std.proofs.Common.{◌≡◌, false}
use Rattle.std.proofs.lemmas.Result.{err_from_is_err_and}
use Rattle.py_base.specs.Reading.{is_next}
use Rattle.py_base.proofs.LoopLemmas.{handed_on}
use Rattle.sre_code.specs.declared.opcodes.TheConstants.{FAILURE}
use Rattle.sre_code.specs.Decoding.Decoder.{no_memory}
use Rattle.sre_code.proofs.LeftLemmas.{items_none, items_more, items_error, item_shorter}
use Rattle.sre_code.proofs.decoding.sets.read_items.Goals as goal

pub loop-alloc-init : goal.loop-alloc-init
loop-alloc-init c = rw c.new-items.ensures (items_none c.args.words.now)

pub loop-alloc-smaller : goal.loop-alloc-smaller
loop-alloc-smaller c = item_shorter c.loop-alloc.rest.now c.in_ok-item.after.now c.in_ok-item.item c.in_ok-item.ensures

pub loop-alloc-preserved : goal.loop-alloc-preserved
loop-alloc-preserved c =
    let go : is_next FAILURE c.loop-alloc.rest.now ≡ false = cc (c.is_next.ensures, c.loop-alloc-test.true) in
    rw c.in_ok-push.ensures.ok
    (items_more c.args.words.now c.loop-alloc.rest.now c.in_ok-item.after.now c.loop-alloc.items c.in_ok-item.item go c.in_ok-item.ensures c.loop-alloc.invariant)

pub returns-in_err-item : goal.returns-in_err-item
returns-in_err-item c =
    let go : is_next FAILURE c.loop-alloc.rest.now ≡ false = cc (c.is_next.ensures, c.loop-alloc-test.true) in
    let p = err_from_is_err_and c.from_residual.result c.from_residual.ensures.1 in
    rw (p.1, p.2) (handed_on (no_memory c.in_err-item.field-0.0) c.in_err-item.field-0.0 (λ h. items_error c.args.words.now c.loop-alloc.rest.now c.loop-alloc.items _ go h c.loop-alloc.invariant) c.in_err-item.ensures)
