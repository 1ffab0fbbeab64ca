use Rattle.std.proofs.Common.{Ok}
use Rattle.py_value.specs.Asking.{gives, ◌and_then◌}
use Rattle.py_value.proofs.AskingLemmas.{go_on, asks_nothing}
use Rattle.py_format.specs.Percent.Taking.{take_precision, next_value, settled}
use Rattle.py_format.specs.Percent.Values.{put_value}
use Rattle.py_format.proofs.FoldLemmas.{both_on}
use Rattle.py_format.proofs.percent.fold.put_next.Goals as goal

pub returns : goal.returns
returns g c =
    let s = c.args.asked.now in
    let kind = g.O.Output.kind in
    let out = g.O.Output.units c.args.out.now in
    go_on (λ w. gives (take_precision s.precision w.1) and_then λ p. gives (next_value p.1) and_then λ v. put_value kind (settled s w.0 p.0) c.args.place v.0 out and_then λ t. gives (Ok (t, v.1))) (asks_nothing c.in_ok-width.ensures)
    (go_on (λ p. gives (next_value p.1) and_then λ v. put_value kind (settled s c.in_ok-width.width p.0) c.args.place v.0 out and_then λ t. gives (Ok (t, v.1))) (asks_nothing c.in_ok-precision.ensures)
    (go_on (λ v. put_value kind (settled s c.in_ok-width.width c.in_ok-precision.precision) c.args.place v.0 out and_then λ t. gives (Ok (t, v.1))) (asks_nothing c.in_ok-value.ensures)
    (both_on c.put_value.result _ _ _ _ _ (rw c.settled-settled.ensures at c.put_value.ensures))))
