use Rattle.sre_match.specs.Captures.{captures}
use Rattle.std.proofs.Common.{sym, ◌∙◌, ap, refl}
use Rattle.sre_match.specs.declared.matcher.trail.Task.TheVariants.{EndGroup}
use Rattle.sre_match.specs.Machine.{run, onward, task_next, to_try}
use Rattle.sre_match.specs.Attempts.{after, captured_from}
use Rattle.sre_match.specs.Paths.{paths}
use Rattle.sre_match.proofs.TurnLemmas.{close_later}
use Rattle.sre_match.proofs.LessLemmas.{leaves_is}
use Rattle.sre_match.proofs.matcher.turns.group_turn.Goals as goal

pub returns-in-Ok-clause-gives : goal.returns-in-Ok-clause-gives
returns-in-Ok-clause-gives c s n =
    let p = c.args.current.now.cursor.place in
    let old = c.args.trail.now in
    let new = c.put.new.trail in
    let m = (captures old.marks.items) in
    let b = c.args.body.now in
    let f = run old.frames.items c.args.current.now.rest s in
    let xs = after (captured_from c.args.group p (paths b s p m)) f in
    leaves_is n _ _
    (sym (c.in-Ok.ensures.tried s xs)
    ∙ ap (to_try s new) (close_later c.args.group p (paths b s p m) f (onward old.frames.items (task_next (EndGroup c.args.group c.args.current.now.cursor) s) c.args.current.now.rest s) (λ e l. refl)
    ∙ sym (λ i. after (paths (c.nodes.ensures i) s p (c.in-Ok.ensures.marks i)) (c.in-Ok.ensures.put s i))))

pub returns-in-Ok-clause-ready : goal.returns-in-Ok-clause-ready
returns-in-Ok-clause-ready c ok p = record { sound = c.in-Ok.ensures.sound; deep = c.in-Ok.ensures.below; here = p.here; kept = c.in-Ok.ensures.fit ok p.here p.kept }
