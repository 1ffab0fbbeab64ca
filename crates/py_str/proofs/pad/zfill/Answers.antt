use Rattle.std.proofs.Common.{◌∙◌, ◌-◌, ap, refl}
use Rattle.std.specs.Int.{w64}
use Rattle.std.proofs.lemmas.Int.{to_z-of_z}
use Rattle.py_str.specs.Pad.{width_of, after_sign}
use Rattle.py_str.proofs.PushingLemmas.{made_is}
use Rattle.py_str.proofs.pad.zfill.Goals as goal

pub returns-clause-ok : goal.returns-clause-ok
returns-clause-ok c =
    let w = c.width_of.ensures ∙ ap width_of (to_z-of_z w64 c.args.width c.ranges.width) in
    made_is c.in_ok-out.out _ _ _ _ c.in_ok-out.ensures.ok c.in_ok-push_zero_filled.ensures.ok
    (λ i. after_sign ((c.saturating_sub-zeros.ensures ∙ (λ j. w j - c.len.ensures j)) i) c.args.text.now) refl
