use Rattle.std.proofs.Common.{refl}
use Rattle.std.proofs.lemmas.Result.{err_from_is_err_and}
use Rattle.py_value.specs.ValueView.{plain_of}
use Rattle.py_value.proofs.AskingLemmas.{go_on, stop, asks_nothing}
use Rattle.std.proofs.Common.{drop, ◌+◌, arith}
use Rattle.py_format.specs.Percent.Fold.{put_keyed_parts}
use Rattle.py_format.proofs.ItemLemmas.{item_there, none_there}
use Rattle.py_format.proofs.percent.keyed.put_keyed_parts.Goals as goal

pub loop-entry-init : goal.loop-entry-init
loop-entry-init g c = λ r new h. h

pub loop-entry-preserved : goal.loop-entry-preserved
loop-entry-preserved g c = λ r new h. c.loop-entry.invariant r new
    (rw (item_there c.args.parts.now c.loop-entry.entry-index c.entry-item.result c.loop-entry-test.true c.entry-item.is)
    (go_on (λ t. put_keyed_parts g.O.Output.kind (drop (c.loop-entry.entry-index + 1) c.args.parts.now) (plain_of c.args.values.now) t) c.in_ok-put_keyed_part.ensures h))

pub returns-in_err-put_keyed_part : goal.returns-in_err-put_keyed_part
returns-in_err-put_keyed_part g c =
    let p = err_from_is_err_and c.from_residual.result c.from_residual.ensures.1 in
    rw (p.1, p.2) (c.loop-entry.invariant _ _
    (rw (item_there c.args.parts.now c.loop-entry.entry-index c.entry-item.result c.loop-entry-test.true c.entry-item.is)
    (stop (λ t. put_keyed_parts g.O.Output.kind (drop (c.loop-entry.entry-index + 1) c.args.parts.now) (plain_of c.args.values.now) t) c.in_err-put_keyed_part.ensures)))

pub returns : goal.returns
returns g c = c.loop-entry.invariant _ _ (rw (none_there c.args.parts.now c.loop-entry.entry-index (omega arith)) (asks_nothing refl))
