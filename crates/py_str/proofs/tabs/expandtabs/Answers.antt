use Rattle.std.proofs.Common.{◌∙◌, ap, refl}
use Rattle.std.specs.Int.{w64}
use Rattle.std.proofs.lemmas.Int.{to_z-of_z}
use Rattle.py_str.specs.Pad.{width_of}
use Rattle.py_str.specs.Tabs.{expanded}
use Rattle.py_str.proofs.PushingLemmas.{made_is}
use Rattle.py_str.proofs.tabs.expandtabs.Goals as goal

pub returns-clause-ok : goal.returns-clause-ok
returns-clause-ok c =
    let w = c.width_of.ensures ∙ ap width_of (to_z-of_z w64 c.args.tabsize c.ranges.tabsize) in
    made_is c.in_ok-out.out _ _ _ _ c.in_ok-out.ensures.ok c.in_ok-push_expanded.ensures.ok (λ i. expanded (w i) (c.as_str.ensures.value i)) refl
