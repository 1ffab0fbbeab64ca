use Rattle.sre_match.specs.Captures.{captures}
use Rattle.std.proofs.Common.{ap}
use Rattle.sre_match.specs.Machine.{to_try}
use Rattle.sre_match.specs.Attempts.{Next}
use Rattle.sre_match.proofs.FrameLemmas.{run_zero}
use Rattle.sre_match.proofs.LessLemmas.{gives_is, leaves_is}
use Rattle.std.proofs.Common.{sym, subst}
use Rattle.std.specs.List.{All}
use Rattle.sre_match.specs.Fits.{frame_fits}
use Rattle.sre_match.proofs.matcher.machine.rest_turn.Goals as goal

pub returns-then-trail-eq0-clause-gives : goal.returns-then-trail-eq0-clause-gives
returns-then-trail-eq0-clause-gives g c =
    let s = c.args.s.now in
    let t = c.args.trail.now in
    (leaves_is _ _ _ (ap (λ (f : Next). to_try s t (f c.args.current.now.cursor.place (captures t.marks.items))) (run_zero t.frames.items c.args.current.now.rest s c.if-rest-eq0.true)), c.if-trail-eq0.true)

pub returns-then-rest-eq0-clause-gives : goal.returns-then-rest-eq0-clause-gives
returns-then-rest-eq0-clause-gives g c =
    let s = c.args.s.now in
    let t = c.args.trail.now in
    let m = (captures t.marks.items) in
    let n = c.args.steps.now in
    gives_is c.leave.result _ s c.leave.new.trail n n _ _ (ap (λ (f : Next). to_try s t (f c.args.current.now.cursor.place m)) (run_zero t.frames.items c.args.current.now.rest s c.if-rest-eq0.true)) (c.leave.ensures.gives s n)

pub task_turn-requires-clause-ready : goal.task_turn-requires-clause-ready
task_turn-requires-clause-ready g c = record {
  sound = c.drop_frame.ensures.sound;
  deep = c.drop_frame.ensures.deep _ c.frame_in-frame.ensures.below;
  here = c.requires.ready.here;
  kept = c.drop_frame.ensures.fit _ c.requires.ready.kept;
}

pub task_turn-requires-clause-task : goal.task_turn-requires-clause-task
task_turn-requires-clause-task g c = c.frame_in-frame.ensures.fit _ (subst (All (frame_fits (g.S.StrDrive.fits c.args.s.now))) (sym c.deref.ensures.value) c.requires.ready.kept.frames)
