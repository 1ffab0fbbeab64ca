use Rattle.sre_match.specs.Captures.{captures}
use Rattle.std.proofs.Common.{sym, ◌∙◌, ap, false}
use Rattle.std.specs.Prelude.{Some}
use Rattle.sre_match.specs.Machine.{run, to_try}
use Rattle.sre_match.specs.Attempts.{after, Next}
use Rattle.sre_match.specs.Paths.{paths}
use Rattle.sre_match.specs.Repeats.{optional}
use Rattle.sre_match.proofs.AfterLemmas.{after_after}
use Rattle.sre_match.proofs.LessLemmas.{leaves_is}
use Rattle.sre_match.proofs.TurnLemmas.{run_full}
use Rattle.std.proofs.Common.{refl}
use Rattle.sre_match.proofs.matcher.iterations.iteration_turn.Goals as goal

pub returns-in-Ok-clause-gives : goal.returns-in-Ok-clause-gives
returns-in-Ok-clause-gives c s n =
    let p = c.args.current.now.cursor.place in
    let old = c.args.trail.now in
    let new = c.put.new.trail in
    let m = (captures old.marks.items) in
    let body : Next = paths c.args.body.now s in
    let more : Next = optional body false c.args.room (Some p) in
    let next : Next = run old.frames.items c.args.current.now.rest s in
    let xs = after (after (body p m) more) next in
    leaves_is n _ _
    (sym (c.in-Ok.ensures.tried s xs)
    ∙ ap (to_try s new) (sym ((λ j. after (paths (c.nodes.ensures j) s p (c.in-Ok.ensures.marks j)) (c.in-Ok.ensures.put s j))
    ∙ sym (after_after (body p m) more next (run_full old.frames.items c.args.current.now.rest s)))))

pub returns-in-Ok-clause-ready : goal.returns-in-Ok-clause-ready
returns-in-Ok-clause-ready c ok p = record { sound = c.in-Ok.ensures.sound; deep = c.in-Ok.ensures.below; here = p.here; kept = c.in-Ok.ensures.fit ok refl p.kept }
