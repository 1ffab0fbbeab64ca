use Rattle.std.proofs.Common.{◌≡◌, ◌∙◌, sym}
use Rattle.std.proofs.lemmas.Result.{err_from_is_err_and}
use Rattle.py_value.specs.ValueView.{plain_of}
use Rattle.py_value.proofs.AskingLemmas.{go_on, stop}
use Rattle.py_format.specs.Percent.Fold.{key_value}
use Rattle.py_format.specs.Percent.Values.{put_value}
use Rattle.py_format.proofs.FoldLemmas.{keyed_on}
use Rattle.py_format.proofs.percent.keyed.put_keyed.Goals as goal

pub returns-in_err-value : goal.returns-in_err-value
returns-in_err-value g c =
    let p = err_from_is_err_and c.from_residual-in_err-value.result c.from_residual-in_err-value.ensures.1 in
    let k : plain_of c.in_ok-key.key ≡ key_value c.args.asked.now.mapping_key = cc c.in_ok-key.ensures in
    rw (p.1, p.2) (keyed_on _ c.args.asked.now c.args.place _ _ _ _ _ (sym c.has_star.ensures ∙ c.if-has_star.false) (stop (λ v. put_value g.O.Output.kind c.args.asked.now c.args.place v (g.O.Output.units c.args.out.now)) (rw k at c.in_err-value.ensures.answers)))

pub returns : goal.returns
returns g c =
    let k : plain_of c.in_ok-key.key ≡ key_value c.args.asked.now.mapping_key = cc c.in_ok-key.ensures in
    keyed_on _ c.args.asked.now c.args.place _ _ _ _ _ (sym c.has_star.ensures ∙ c.if-has_star.false) (go_on (λ v. put_value g.O.Output.kind c.args.asked.now c.args.place v (g.O.Output.units c.args.out.now)) (rw k at c.in_ok-value.ensures.answers) c.put_value.ensures)
