use Rattle.sre_match.specs.Captures.{captures}
use Rattle.std.proofs.Common.{◌∙◌, sym, ap, [], ◌+◌, ◌-◌, ◌<◌, ◌≤◌, arith}
use Rattle.sre_code.specs.TreeView.{node_of}
use Rattle.sre_match.specs.Machine.{run, to_try, passes_down}
use Rattle.sre_match.specs.Attempts.{after, Next}
use Rattle.sre_match.specs.Paths.{paths}
use Rattle.sre_match.specs.Singles.{meets, run_of}
use Rattle.sre_match.proofs.LessLemmas.{leaves_then, leaves_is, gives_less}
use Rattle.sre_match.proofs.RunLemmas.{repeat_short, repeat_long, leaves_run, unit_body, down_full}
use Rattle.sre_match.proofs.TurnLemmas.{run_full}
use Rattle.sre_match.proofs.matcher.repeats.greedy_turn.Goals as goal

pub returns-then-n-fewest-clause-gives : goal.returns-then-n-fewest-clause-gives
returns-then-n-fewest-clause-gives g c =
    let s = c.args.s.now in
    let p = c.args.current.now.cursor.place in
    let i = c.args.current.now.rest in
    let t = c.args.trail.now in
    let m = (captures t.marks.items) in
    let k : Next = run t.frames.items i s in
    let test = meets (node_of c.args.node.now) in
    let most = c.args.least + c.args.room in
    let r = c.run_length-n in
    let short : run_of test s p most < c.args.least = omega (arith, r.ensures.run, c.if-n-fewest.true) in
    leaves_then c.args.steps.now c.args.steps.now r.new.steps _ _ _
    (leaves_is c.args.steps.now _ _ (ap (λ l. to_try s t (after l k)) (repeat_short test s (paths c.args.body.now s) c.args.least c.args.room most p m (unit_body c.args.body.now (node_of c.args.node.now) s c.requires.only c.requires.single) (omega arith) short)))
    (leaves_run t test s p most c.args.steps.now r.new.steps [] k (run_full t.frames.items i s) (λ e. let f : ⊥ = omega (arith, e, short) in absurd f) r.ensures.cost)

pub returns-clause-gives : goal.returns-clause-gives
returns-clause-gives g c =
    let s = c.args.s.now in
    let p = c.args.current.now.cursor.place in
    let i = c.args.current.now.rest in
    let t = c.args.trail.now in
    let m = (captures t.marks.items) in
    let k : Next = run t.frames.items i s in
    let test = meets (node_of c.args.node.now) in
    let most = c.args.least + c.args.room in
    let r = c.run_length-n in
    let n = run_of test s p most in
    let long : c.args.least ≤ n = omega (arith, r.ensures.run, c.if-n-fewest.false) in
    let xs = passes_down (n - c.args.least) (p + n) m in
    gives_less c.back_turn.result _ s _ c.args.steps.now r.new.steps r.new.steps _ _
    (leaves_then c.args.steps.now c.args.steps.now r.new.steps _ _ _
    (leaves_is c.args.steps.now _ _ (ap (λ l. to_try s t (after l k)) (repeat_long test s (paths c.args.body.now s) c.args.least c.args.room most p m (unit_body c.args.body.now (node_of c.args.node.now) s c.requires.only c.requires.single) (omega arith) long)))
    (leaves_then c.args.steps.now r.new.steps r.new.steps _ _ _
    (leaves_run t test s p most c.args.steps.now r.new.steps xs k (run_full t.frames.items i s) (λ _. down_full (n - c.args.least) (p + n) m) r.ensures.cost)
    (leaves_is r.new.steps _ _ (ap (λ x. to_try s t (after (passes_down (x - c.args.least) (p + x) m) k)) (sym r.ensures.run)
    ∙ ap (λ q. to_try s t (after (passes_down (r.result - c.args.least) q m) k)) (sym r.ensures.place)))))
    (c.back_turn.ensures.gives r.new.steps)
