use Rattle.std.proofs.lemmas.Result.{err_from_is_err_and}
use Rattle.py_value.proofs.AskingLemmas.{go_on, stop}
use Rattle.std.proofs.Common.{drop, ◌+◌, arith}
use Rattle.py_format.specs.Percent.Fold.{put_parts}
use Rattle.py_format.proofs.FoldLemmas.{ended_on}
use Rattle.py_format.proofs.ItemLemmas.{item_there, none_there}
use Rattle.py_format.proofs.percent.fold.put_parts.Goals as goal

pub loop-entry-init : goal.loop-entry-init
loop-entry-init g c = λ r new h. h

pub loop-entry-preserved : goal.loop-entry-preserved
loop-entry-preserved g c = λ r new h. c.loop-entry.invariant r new
    (rw (item_there c.args.parts.now c.loop-entry.entry-index c.entry-item.result c.loop-entry-test.true c.entry-item.is)
    (go_on (λ u. put_parts g.O.Output.kind c.args.mapping (drop (c.loop-entry.entry-index + 1) c.args.parts.now) u.1 u.0) c.in_ok-put_part.ensures h))

pub returns-in_err-put_part : goal.returns-in_err-put_part
returns-in_err-put_part g c =
    let p = err_from_is_err_and c.from_residual.result c.from_residual.ensures.1 in
    rw (p.1, p.2) (c.loop-entry.invariant _ _
    (rw (item_there c.args.parts.now c.loop-entry.entry-index c.entry-item.result c.loop-entry-test.true c.entry-item.is)
    (stop (λ u. put_parts g.O.Output.kind c.args.mapping (drop (c.loop-entry.entry-index + 1) c.args.parts.now) u.1 u.0) c.in_err-put_part.ensures)))

pub returns : goal.returns
returns g c = c.loop-entry.invariant _ _ (rw (none_there c.args.parts.now c.loop-entry.entry-index (omega arith)) (ended_on c.ended.result _ _ _ (rw c.template_kind.ensures at c.ended.ensures)))
