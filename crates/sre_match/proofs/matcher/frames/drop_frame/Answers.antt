use Rattle.sre_match.specs.Captures.{captures}
use Rattle.std.proofs.Common.{◌≡◌, ℕ, List, sym, subst, ap, ◌∙◌, ◌-◌, ◌≤◌, length, arith}
use Rattle.sre_match.specs.declared.matcher.trail.Choice.{Choice}
use Rattle.std.proofs.lemmas.List.{length-take-le}
use Rattle.sre_match.specs.Machine.{pile, run, Stacked}
use Rattle.sre_match.proofs.ChoiceLemmas.{pile_frames_cut}
use Rattle.sre_match.proofs.FrameLemmas.{run_cut, down_take}
use Rattle.std.proofs.lemmas.List.Elements.{All-take}
use Rattle.sre_match.specs.Fits.{frame_fits}
use Rattle.sre_match.proofs.matcher.frames.drop_frame.Goals as goal

kept : {cs ds : List Choice} → cs ≡ ds → (r n high : ℕ) → ((h k : ℕ) → Stacked 0 cs h → r ≤ k → Stacked 0 cs k) → Stacked 0 ds high → r ≤ n → Stacked 0 ds n
kept e r n high f s h = subst (λ xs. Stacked 0 xs n) e (f high n (subst (λ xs. Stacked 0 xs high) (sym e) s) h)

pub returns-then-frames_kept-rest-clause-tried : goal.returns-then-frames_kept-rest-clause-tried
returns-then-frames_kept-rest-clause-tried c s xs =
    let t = c.args.trail.now in
    let n = c.args.rest - 1 in
    ap (λ gs. pile s gs (captures t.marks.items) t.choices.items xs) c.truncate.ensures.items
    ∙ pile_frames_cut s t.frames.items n 0 t.choices.items (captures t.marks.items) xs
    (kept c.deref-then-rest-frame_count.ensures.value c.frames_kept.result n (length t.frames.items) c.frames_kept.ensures c.requires.sound.stacked (omega arith)) (omega (arith, c.requires.deep))

pub returns-then-frames_kept-rest-clause-stays : goal.returns-then-frames_kept-rest-clause-stays
returns-then-frames_kept-rest-clause-stays c i s h =
    ap (λ gs. run gs i s) c.truncate.ensures.items ∙ run_cut c.args.trail.now.frames.items (c.args.rest - 1) i s (omega (arith, h)) (omega (arith, c.requires.deep))

pub returns-then-frames_kept-rest-clause-sound : goal.returns-then-frames_kept-rest-clause-sound
returns-then-frames_kept-rest-clause-sound c =
    let t = c.args.trail.now in
    let n = c.args.rest - 1 in
    let k : n ≤ length t.frames.items = omega (arith, c.requires.deep) in
    record {
      rising = c.requires.sound.rising;
      stacked = rw (c.truncate.ensures.items, length-take-le n t.frames.items k) (kept c.deref-then-rest-frame_count.ensures.value c.frames_kept.result n (length t.frames.items) c.frames_kept.ensures c.requires.sound.stacked (omega arith));
      inside = c.requires.sound.inside;
      down = rw c.truncate.ensures.items (down_take 0 n t.frames.items c.requires.sound.down);
    }

pub returns-then-frames_kept-rest-clause-fit : goal.returns-then-frames_kept-rest-clause-fit
returns-then-frames_kept-rest-clause-fit c ok f = record { choices = f.choices; frames = rw c.truncate.ensures.items (All-take (frame_fits ok) (c.args.rest - 1) c.args.trail.now.frames.items f.frames); marks = f.marks }
