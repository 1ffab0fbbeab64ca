use Rattle.sre_match.specs.Captures.{captures}
use Rattle.std.proofs.Common.{sym, ap, ◌∙◌, length, arith}
use Rattle.sre_match.specs.Machine.{run, to_try}
use Rattle.sre_match.specs.Attempts.{after, Next}
use Rattle.sre_match.specs.Paths.{paths}
use Rattle.sre_match.specs.Branches.{each_paths}
use Rattle.sre_match.proofs.AfterLemmas.{after-append}
use Rattle.sre_match.proofs.LessLemmas.{leaves_is}
use Rattle.sre_match.proofs.matcher.branches.chosen_turn.Goals as goal

pub returns-clause-gives : goal.returns-clause-gives
returns-clause-gives c s n =
    let p = c.args.current.now.cursor.place in
    let i = c.args.current.now.rest in
    let old = c.args.trail.now in
    let new = c.keep_later.new.trail in
    let m = (captures old.marks.items) in
    let t = c.args.t.now in
    let k : Next = run old.frames.items i s in
    let xs = after (paths t s p m) k in
    leaves_is n _ _
    (ap (to_try s old) (after-append (paths t s p m) (each_paths c.args.more.now s p m) k)
    ∙ sym (c.in-Ok.ensures.tried s xs)
    ∙ ap (to_try s new) (sym (λ j. after (paths (c.nodes.ensures j) s p (c.in-Ok.ensures.marks j)) (run (c.in-Ok.ensures.frames j) i s))))

pub returns-clause-ready : goal.returns-clause-ready
returns-clause-ready c ok p = record { sound = c.in-Ok.ensures.sound; deep = omega (arith, ap length c.in-Ok.ensures.frames, p.deep); here = p.here; kept = c.in-Ok.ensures.fit ok p.here p.kept }
