use Rattle.sre_match.specs.Captures.{captures}
use Rattle.std.proofs.Common.{sym, ◌∙◌, ap, true, ◌++◌}
use Rattle.std.specs.Prelude.{Some}
use Rattle.sre_match.specs.declared.matcher.trail.Task.TheVariants.{Again}
use Rattle.sre_match.specs.Machine.{run, onward, task_next, to_try, Frames}
use Rattle.sre_match.specs.Attempts.{after, Next}
use Rattle.sre_match.specs.Paths.{paths}
use Rattle.sre_match.specs.Repeats.{optional}
use Rattle.sre_match.proofs.AfterLemmas.{after_after}
use Rattle.sre_match.proofs.FrameLemmas.{skip_is}
use Rattle.sre_match.proofs.LessLemmas.{leaves_is}
use Rattle.sre_match.proofs.TurnLemmas.{run_full}
use Rattle.std.proofs.Common.{refl}
use Rattle.sre_match.proofs.matcher.iterations.once_first.Goals as goal

pub returns-in-Ok-put-clause-gives : goal.returns-in-Ok-put-clause-gives
returns-in-Ok-put-clause-gives c s n =
    let p = c.args.current.now.cursor.place in
    let i = c.args.current.now.rest in
    let old = c.args.trail.now in
    let new = c.put.new.trail in
    let m = (captures old.marks.items) in
    let fs = old.frames.items in
    let body : Next = paths c.args.body.now s in
    let more : Next = optional body true c.args.room (Some p) in
    let next : Next = run fs i s in
    let xs = after (after (body p m) more) next in
    leaves_is n _ _
    (ap (λ (f : Next). to_try s old (xs ++ f p m)) (sym (skip_is fs i s))
    ∙ sym (c.in-Ok.ensures.tried s xs)
    ∙ sym (c.in-Ok-put.ensures.tried s xs)
    ∙ ap (to_try s new) (sym ((λ j. after (paths (c.nodes.ensures j) s p ((c.in-Ok-put.ensures.marks ∙ c.in-Ok.ensures.marks) j)) (c.in-Ok-put.ensures.put s j))
    ∙ ap (λ (gs : Frames). after (body p m) (onward gs (task_next (Again true c.args.body c.args.room p) s) i s)) c.in-Ok.ensures.frames
    ∙ sym (after_after (body p m) more next (run_full fs i s)))))

pub returns-in-Ok-put-clause-ready : goal.returns-in-Ok-put-clause-ready
returns-in-Ok-put-clause-ready c ok p = record { sound = c.in-Ok-put.ensures.sound; deep = c.in-Ok-put.ensures.below; here = p.here; kept = c.in-Ok-put.ensures.fit ok refl (c.in-Ok.ensures.fit ok p.here p.kept) }
