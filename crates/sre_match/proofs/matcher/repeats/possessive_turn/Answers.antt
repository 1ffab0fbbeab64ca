use Rattle.sre_match.specs.Captures.{captures}
use Rattle.std.proofs.Common.{sym, ap, ◌∙◌, [], ◌+◌, ◌-◌, ◌<◌, ◌≤◌, arith}
use Rattle.sre_code.specs.TreeView.{node_of}
use Rattle.sre_match.specs.Machine.{run, onward, part_next, to_try, passes_down}
use Rattle.sre_match.specs.declared.matcher.trail.Part.TheVariants.{Skip}
use Rattle.sre_match.specs.Attempts.{after, cut, stay, Next}
use Rattle.sre_match.specs.Paths.{paths}
use Rattle.sre_match.specs.Singles.{meets, run_of, run_paid}
use Rattle.sre_match.proofs.AfterLemmas.{stay_after}
use Rattle.sre_match.proofs.LeafLemmas.{skip_on}
use Rattle.sre_match.proofs.LessLemmas.{leaves_then, leaves_is}
use Rattle.sre_match.proofs.RunLemmas.{repeat_short, repeat_long, leaves_run, unit_body, cut_paid, down_cut}
use Rattle.sre_match.proofs.TurnLemmas.{run_full}
use Rattle.sre_match.proofs.matcher.repeats.possessive_turn.Goals as goal

pub returns-then-n-fewest-clause-gives : goal.returns-then-n-fewest-clause-gives
returns-then-n-fewest-clause-gives g c =
    let s = c.args.s.now in
    let p = c.args.current.now.cursor.place in
    let i = c.args.current.now.rest in
    let t = c.args.trail.now in
    let m = (captures t.marks.items) in
    let k : Next = run t.frames.items i s in
    let test = meets (node_of c.args.node.now) in
    let most = c.args.least + c.args.room in
    let r = c.run_length-n in
    let short : run_of test s p most < c.args.least = omega (arith, r.ensures.run, c.if-n-fewest.true) in
    leaves_then c.args.steps.now c.args.steps.now r.new.steps _ _ _
    (leaves_is c.args.steps.now _ _ (ap (λ l. to_try s t (after (cut l) k)) (repeat_short test s (paths c.args.body.now s) c.args.least c.args.room most p m (unit_body c.args.body.now (node_of c.args.node.now) s c.requires.only c.requires.single) (omega arith) short)
    ∙ ap (λ l. to_try s t (after l k)) (cut_paid test s p most [])))
    (leaves_run t test s p most c.args.steps.now r.new.steps [] k (run_full t.frames.items i s) (λ e. let f : ⊥ = omega (arith, e, short) in absurd f) r.ensures.cost)

pub returns-clause-gives : goal.returns-clause-gives
returns-clause-gives g c =
    let s = c.args.s.now in
    let p = c.args.current.now.cursor.place in
    let i = c.args.current.now.rest in
    let t = c.args.trail.now in
    let m = (captures t.marks.items) in
    let k : Next = run t.frames.items i s in
    let test = meets (node_of c.args.node.now) in
    let most = c.args.least + c.args.room in
    let r = c.run_length-n in
    let n = run_of test s p most in
    let long : c.args.least ≤ n = omega (arith, r.ensures.run, c.if-n-fewest.false) in
    let xs = passes_down (n - c.args.least) (p + n) m in
    leaves_then c.args.steps.now c.args.steps.now r.new.steps _ _ _
    (leaves_is c.args.steps.now _ _ (ap (λ l. to_try s t (after (cut l) k)) (repeat_long test s (paths c.args.body.now s) c.args.least c.args.room most p m (unit_body c.args.body.now (node_of c.args.node.now) s c.requires.only c.requires.single) (omega arith) long)
    ∙ ap (λ l. to_try s t (after l k)) (cut_paid test s p most xs ∙ ap (run_paid test s p most) (down_cut (n - c.args.least) (p + n) m))))
    (leaves_then c.args.steps.now r.new.steps r.new.steps _ _ _
    (leaves_run t test s p most c.args.steps.now r.new.steps (stay (p + n) m) k (run_full t.frames.items i s) (λ _. tt) r.ensures.cost)
    (leaves_then r.new.steps r.new.steps r.new.steps _ _ _
    (leaves_is r.new.steps _ _ (ap (to_try s t) (stay_after (p + n) m k) ∙ ap (λ x. to_try s t (k (p + x) m)) (sym r.ensures.run)))
    (leaves_then r.new.steps r.new.steps r.new.steps _ _ _
    (skip_on s t r.new.steps i (p + r.result) m)
    (leaves_is r.new.steps _ _ (ap (λ q. to_try s t (onward t.frames.items (part_next Skip s) i s q m)) (sym r.ensures.place))))))
