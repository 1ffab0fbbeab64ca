use Rattle.std.proofs.Common.{◌∙◌, sym, ap, subst, length, [], ◌∷◌}
use Rattle.std.proofs.lemmas.List.Elements.{All-push}
use Rattle.sre_match.specs.Attempts.{Marks}
use Rattle.sre_match.specs.Captures.{captures, captured_by, capture_fits}
use Rattle.sre_match.specs.Machine.{pile, Rising}
use Rattle.sre_match.proofs.CaptureLemmas.{captures_push}
use Rattle.sre_match.proofs.ChoiceLemmas.{pile_grow, rising_grow}
use Rattle.sre_match.proofs.matcher.choices.add_capture.Goals as goal

pub returns-in-Ok-clause-marks : goal.returns-in-Ok-clause-marks
returns-in-Ok-clause-marks c = ap captures c.in-Ok.ensures.items ∙ captures_push c.args.trail.now.marks.items c.args.captured

pub returns-in-Ok-clause-tried : goal.returns-in-Ok-clause-tried
returns-in-Ok-clause-tried c s xs =
    let t = c.args.trail.now in
    ap (λ (m : Marks). pile s t.frames.items m t.choices.items xs) (ap captures c.in-Ok.ensures.items ∙ captures_push t.marks.items c.args.captured)
    ∙ pile_grow s t.frames.items 0 t.choices.items (captures t.marks.items) (captured_by c.args.captured ∷ []) xs c.requires.rising

pub returns-in-Ok-clause-sound : goal.returns-in-Ok-clause-sound
returns-in-Ok-clause-sound c =
    let t = c.args.trail.now in
    record {
      rising = subst (λ (m : Marks). Rising 0 t.choices.items (length m)) (sym (ap captures c.in-Ok.ensures.items ∙ captures_push t.marks.items c.args.captured)) (rising_grow 0 t.choices.items (captures t.marks.items) (captured_by c.args.captured ∷ []) c.requires.rising);
      stacked = c.requires.stacked;
      inside = c.requires.inside;
      down = c.requires.down;
    }

pub returns-in-Ok-clause-fit : goal.returns-in-Ok-clause-fit
returns-in-Ok-clause-fit c ok h f = record { choices = f.choices; frames = f.frames; marks = rw c.in-Ok.ensures.items (All-push (capture_fits ok) c.args.trail.now.marks.items c.args.captured f.marks h) }
