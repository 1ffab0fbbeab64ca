use Rattle.std.proofs.Common.{◌≡◌, ◌<◌, ap, subst, ◌∙◌, List, ◌++◌, ℕ, Option, length, get_or, encode_utf8_all}
use Rattle.sre_commands.specs.Commands.Sub.Filling.{text_between}
use Rattle.sre_commands.specs.declared.commands.sub.template.Pair.{Pair}
use Rattle.sre_commands.proofs.PartLemmas.{one_more}
use Rattle.sre_commands.proofs.FillLemmas.{pair_more}
use Rattle.sre_commands.proofs.commands.sub.filling.fill.Goals as goal

pub loop-pair-init : goal.loop-pair-init
loop-pair-init g c =
    let head = c.as_bytes.ensures.value ∙ c.as_str.ensures.bytes in
    one_more _ _ _ _ (c.in_ok-extend_from_slice.ensures.items ∙ ap (λ (l : List ℕ). c.args.bytes.now.items ++ l) head)

pub loop-pair-preserved : goal.loop-pair-preserved
loop-pair-preserved g c =
    let i = c.loop-pair.pair-index in
    let pair = c.pair-item.result in
    let pairs = c.deref-pair-items.ensures.value in
    let lt = subst (λ (l : List Pair). i < length l) pairs c.loop-pair-test.true in
    let is = subst (λ (l : List Pair). pair ≡ get_or l i pair) pairs c.pair-item.is in
    let s = g.S.StrDrive.units c.args.view.now in
    let mid = c.append_between.new.bytes.items in
    let group = c.in_ok-append_between.ensures ∙ ap (λ (o : Option (ℕ × ℕ)). c.loop-pair.bytes.items ++ encode_utf8_all (text_between s o)) c.group_span.ensures in
    let literal = c.in_ok-extend_from_slice-2.ensures.items ∙ ap (λ (l : List ℕ). mid ++ l) (c.as_bytes-in-loop-pair.ensures.value ∙ c.as_str-in-loop-pair.ensures.bytes) in
    pair_more s c.args.state.now c.args.template.now.pairs.items i pair _ mid _ _ lt is group literal c.loop-pair.invariant
