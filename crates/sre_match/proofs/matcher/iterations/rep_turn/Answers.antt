use Rattle.sre_match.specs.Captures.{captures}
use Rattle.std.proofs.Common.{◌≡◌, sym, ◌∙◌, ap, refl, ◌-◌, arith}
use Rattle.sre_match.specs.declared.matcher.trail.Task.TheVariants.{Mandatory}
use Rattle.sre_match.specs.Machine.{run, onward, task_next, to_try}
use Rattle.sre_match.specs.Attempts.{after, Next}
use Rattle.sre_match.specs.Paths.{paths}
use Rattle.sre_match.specs.Repeats.{repeat_paths}
use Rattle.sre_match.proofs.RepeatLemmas.{repeat_step}
use Rattle.sre_match.proofs.LessLemmas.{leaves_is}
use Rattle.sre_match.proofs.TurnLemmas.{once_more, run_full}
use Rattle.sre_match.proofs.matcher.iterations.rep_turn.Goals as goal

pub returns-in-Ok-clause-gives : goal.returns-in-Ok-clause-gives
returns-in-Ok-clause-gives c s n =
    let p = c.args.current.now.cursor.place in
    let i = c.args.current.now.rest in
    let k = c.args.left in
    let g = c.args.greedy in
    let old = c.args.trail.now in
    let new = c.put.new.trail in
    let m = (captures old.marks.items) in
    let body : Next = paths c.args.body.now s in
    let more : Next = repeat_paths body g (k - 1) c.args.room in
    let next : Next = run old.frames.items i s in
    let again : Next = onward old.frames.items (task_next (Mandatory g (k - 1) c.args.body c.args.room) s) i s in
    let some : k ≡ 0 → ⊥ = λ e. omega (arith, e) in
    let xs = after (repeat_paths body g k c.args.room p m) next in
    leaves_is n _ _
    (sym (c.in-Ok.ensures.tried s xs)
    ∙ ap (to_try s new) (ap (λ l. after l next) (repeat_step body g k c.args.room p m some)
    ∙ once_more body next more again next p m (run_full old.frames.items i s) (λ e l. refl)
    ∙ sym (λ j. after (paths (c.nodes.ensures j) s p (c.in-Ok.ensures.marks j)) (c.in-Ok.ensures.put s j))))

pub returns-in-Ok-clause-ready : goal.returns-in-Ok-clause-ready
returns-in-Ok-clause-ready c ok p = record { sound = c.in-Ok.ensures.sound; deep = c.in-Ok.ensures.below; here = p.here; kept = c.in-Ok.ensures.fit ok refl p.kept }
