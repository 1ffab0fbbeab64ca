use Rattle.sre_match.specs.Captures.{captures}
use Rattle.std.proofs.Common.{◌∙◌, ◌+◌, ap, length, length-append, arith, [], ◌∷◌}
use Rattle.sre_match.specs.declared.matcher.trail.Frame.{Frame}
use Rattle.sre_match.specs.Machine.{pile}
use Rattle.sre_match.proofs.ChoiceLemmas.{pile_frames_grow, stacked_weak}
use Rattle.sre_match.proofs.FrameLemmas.{run_put, run_stays, down_put}
use Rattle.std.proofs.lemmas.List.Elements.{All-push}
use Rattle.sre_match.specs.Fits.{frame_fits}
use Rattle.sre_match.proofs.matcher.frames.put.Goals as goal

pub returns-clause-tried : goal.returns-clause-tried
returns-clause-tried c s xs =
    let t = c.args.trail.now in
    let f : Frame = record { task = c.args.task; rest = c.args.rest } in
    ap (λ gs. pile s gs (captures t.marks.items) t.choices.items xs) c.in_ok-push_frame.ensures ∙ pile_frames_grow s t.frames.items (f ∷ []) 0 t.choices.items (captures t.marks.items) xs c.requires.sound.stacked

pub returns-clause-put : goal.returns-clause-put
returns-clause-put c s =
    let f : Frame = record { task = c.args.task; rest = c.args.rest } in
    run_put c.args.trail.now.frames.items c.push_frame.new.frames.items f (c.frame_count-count.result + 1) s c.in_ok-push_frame.ensures (omega (arith, c.frame_count-count.ensures.count, ap length c.deref.ensures.value))

pub returns-clause-stays : goal.returns-clause-stays
returns-clause-stays c s =
    let f : Frame = record { task = c.args.task; rest = c.args.rest } in
    run_stays c.args.trail.now.frames.items c.push_frame.new.frames.items f c.args.rest s c.in_ok-push_frame.ensures c.requires.deep

pub returns-clause-below : goal.returns-clause-below
returns-clause-below c =
    let t = c.args.trail.now in
    let f : Frame = record { task = c.args.task; rest = c.args.rest } in
    omega (arith, c.frame_count-count.ensures.count, ap length c.deref.ensures.value, ap length c.in_ok-push_frame.ensures, length-append t.frames.items (f ∷ []))

pub returns-clause-deep : goal.returns-clause-deep
returns-clause-deep c =
    let t = c.args.trail.now in
    let f : Frame = record { task = c.args.task; rest = c.args.rest } in
    omega (arith, c.requires.deep, ap length c.in_ok-push_frame.ensures, length-append t.frames.items (f ∷ []))

pub returns-clause-sound : goal.returns-clause-sound
returns-clause-sound c =
    let t = c.args.trail.now in
    let f : Frame = record { task = c.args.task; rest = c.args.rest } in
    record {
      rising = c.requires.sound.rising;
      stacked = stacked_weak 0 t.choices.items (length t.frames.items) (length c.push_frame.new.frames.items) c.requires.sound.stacked (omega (arith, ap length c.in_ok-push_frame.ensures, length-append t.frames.items (f ∷ [])));
      inside = c.requires.sound.inside;
      down = down_put t.frames.items c.push_frame.new.frames.items f c.in_ok-push_frame.ensures c.requires.sound.down c.requires.deep;
    }

pub returns-clause-fit : goal.returns-clause-fit
returns-clause-fit c ok h f =
    let d : Frame = record { task = c.args.task; rest = c.args.rest } in
    record { choices = f.choices; frames = rw c.in_ok-push_frame.ensures (All-push (frame_fits ok) c.args.trail.now.frames.items d f.frames h); marks = f.marks }
