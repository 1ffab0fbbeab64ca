use Rattle.std.proofs.Common.{◌∷◌, [], ◌++◌, ◌∙◌, ◌<◌, ap, sym, length, arith}
use Rattle.std.specs.Vec.{vec_items}
use Rattle.call_tables.specs.declared.token.Token.TheVariants.{Text}
use Rattle.call_tables.proofs.ListLemmas.{item_there, text_told}
use Rattle.call_tables.proofs.results.tokens_of.Goals as goal
use Rattle.call_tables.proofs.results.tokens_of.Goals.{in-Some+in_ok-text+in_ok-push, in_default}

pub loop-i-preserved : goal.loop-i-preserved
loop-i-preserved c =
    let lt : c.loop-i.i < length c.args.list.now = omega (arith, c.len-i-end.ensures) in
    elim c.match-get.branch [
      | in-Some+in_ok-text+in_ok-push w ↦ text_told (length c.args.list.now) c.args.list.now c.loop-i.i w.in-Some.item.now (vec_items c.loop-i.tokens) (vec_items c.match-get.tokens) lt (sym w.in-Some.ensures) c.loop-i.invariant
          (ap vec_items w.tokens-is ∙ w.in_ok-push.ensures.items ∙ ap (λ q. vec_items c.loop-i.tokens ++ Text q ∷ []) w.in_ok-text.ensures)
      | in_default w ↦ absurd (item_there c.args.list.now c.loop-i.i lt (sym w.in_default.ensures))
    ]
