use Rattle.sre_match.specs.Captures.{captures}
use Rattle.std.proofs.Common.{◌∙◌, ap, length, arith}
use Rattle.sre_match.specs.declared.matcher.trail.Choice.{Choice}
use Rattle.sre_match.specs.Machine.{part_next, onward, wrap, to_try}
use Rattle.sre_match.proofs.ChoiceLemmas.{pile_keep, rising_keep, stacked_keep, levels_back, levels_most, level_most}
use Rattle.std.proofs.lemmas.List.Elements.{All-push}
use Rattle.sre_match.specs.Cursor.{Cursor}
use Rattle.sre_match.specs.Fits.{choice_fits}
use Rattle.sre_match.proofs.matcher.choices.keep.Goals as goal

pub overflow_add-levels : goal.overflow_add-levels
overflow_add-levels c =
    omega (arith, c.requires.sound.inside, levels_most c.args.trail.now.choices.items, level_most c.args.kind, c.level.ensures, c.choice_count-count.ensures.count, c.choice_count-count.ensures.bound, ap length c.deref-3.ensures.value)

pub returns-clause-tried : goal.returns-clause-tried
returns-clause-tried c s xs =
    let t = c.args.trail.now in
    let d : Choice = record { part = c.args.part; cursor = c.in_ok-kept.kept; rest = c.in_ok-rest.rest; frames = c.in_ok-frames.frames; marks = c.in_ok-marks.marks; kind = c.args.kind } in
    pile_keep s t.frames.items (captures t.marks.items) t.choices.items c.push_choice.new.choices.items d xs c.in_ok-push_choice.ensures (c.in_ok-marks.ensures ∙ c.mark_count.ensures ∙ ap (λ xs. length (captures xs)) c.deref.ensures.value)
    ∙ ap (λ r. to_try s t (wrap c.args.kind (onward t.frames.items (part_next c.args.part s) r s) c.in_ok-kept.kept.place (captures t.marks.items) xs)) c.in_ok-rest.ensures
    ∙ ap (λ (q : Cursor). to_try s t (wrap c.args.kind (onward t.frames.items (part_next c.args.part s) c.args.rest s) q.place (captures t.marks.items) xs)) c.in_ok-kept.ensures

pub returns-clause-sound : goal.returns-clause-sound
returns-clause-sound c =
    let t = c.args.trail.now in
    let d : Choice = record { part = c.args.part; cursor = c.in_ok-kept.kept; rest = c.in_ok-rest.rest; frames = c.in_ok-frames.frames; marks = c.in_ok-marks.marks; kind = c.args.kind } in
    record {
      rising = rising_keep 0 t.choices.items c.push_choice.new.choices.items d (length (captures t.marks.items)) c.requires.sound.rising c.in_ok-push_choice.ensures (c.in_ok-marks.ensures ∙ c.mark_count.ensures ∙ ap (λ xs. length (captures xs)) c.deref.ensures.value);
      stacked = stacked_keep 0 t.choices.items c.push_choice.new.choices.items d (length t.frames.items) c.requires.sound.stacked c.in_ok-push_choice.ensures (c.in_ok-frames.ensures ∙ c.frame_count.ensures.count ∙ ap length c.deref-2.ensures.value) (omega (arith, c.in_ok-rest.ensures, c.requires.deep));
      inside = omega (arith, levels_back c.push_choice.new.choices.items t.choices.items d c.in_ok-push_choice.ensures, c.requires.sound.inside, c.level.ensures);
      down = c.requires.sound.down;
    }

pub returns-clause-fit : goal.returns-clause-fit
returns-clause-fit c ok h f =
    let d : Choice = record { part = c.args.part; cursor = c.in_ok-kept.kept; rest = c.in_ok-rest.rest; frames = c.in_ok-frames.frames; marks = c.in_ok-marks.marks; kind = c.args.kind } in
    record { choices = rw c.in_ok-push_choice.ensures (All-push (choice_fits ok) c.args.trail.now.choices.items d f.choices (ap ok c.in_ok-kept.ensures ∙ h)); frames = f.frames; marks = f.marks }
