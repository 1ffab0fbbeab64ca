use Rattle.sre_match.specs.Captures.{captures}
use Rattle.std.proofs.Common.{refl, sym, ap, ◌∙◌, ◌++◌, ◌+◌, ◌-◌, length, take, drop, arith}
use Rattle.sre_code.specs.TreeView.{tree_of}
use Rattle.sre_match.specs.Machine.{run, to_try}
use Rattle.sre_match.specs.Attempts.{after, Next}
use Rattle.sre_match.specs.Paths.{paths}
use Rattle.sre_match.specs.Branches.{each_paths}
use Rattle.sre_match.proofs.BranchLemmas.{begins_some, met_nodes, charge_out}
use Rattle.sre_match.proofs.FullLemmas.{full}
use Rattle.sre_match.proofs.LessLemmas.{leaves_then, leaves_is, leaves_charge}
use Rattle.sre_match.proofs.TurnLemmas.{run_full}
use Rattle.sre_match.proofs.matcher.branches.met_turn.Goals as goal

pub returns-clause-gives : goal.returns-clause-gives
returns-clause-gives g c n =
    let s = c.args.s.now in
    let p = c.args.current.now.cursor.place in
    let i = c.args.current.now.rest in
    let t = c.args.trail.now in
    let new = c.keep_later.new.trail in
    let m = (captures t.marks.items) in
    let k : Next = run t.frames.items i s in
    let more = each_paths c.args.more.now s p m in
    let ns = c.nodes.result.now in
    let following = tree_of (take (length ns - 1) (drop 1 ns)) in
    let xs = paths following s (p + 1) m in
    let out = charge_out s t xs more k (run_full t.frames.items i s) (full following s (p + 1) m) in
    leaves_then n (n + 1) (n + 1) _ _ _
    (leaves_charge n (n + 1) 1 _ _ (omega arith) out.1
    (ap (λ l. to_try s t (after (l ++ more) k)) (met_nodes ns c.args.t.now s p m _ (begins_some ns c.args.t.now c.nodes.ensures c.requires.begins) c.nodes.ensures refl c.requires.begins c.requires.met) ∙ out.0))
    (leaves_is (n + 1) _ _
    (sym (c.in_ok-keep_later.ensures.tried s (after xs k))
    ∙ ap (to_try s new) (sym (λ j. after (paths following s (p + 1) (c.in_ok-keep_later.ensures.marks j)) (run (c.in_ok-keep_later.ensures.frames j) i s)))
    ∙ ap (λ q. to_try s new (after (paths following s q (captures new.marks.items)) (run new.frames.items i s))) (sym c.skip.ensures.place)))

pub returns-clause-ready : goal.returns-clause-ready
returns-clause-ready g c = record { sound = c.in_ok-keep_later.ensures.sound; deep = omega (arith, ap length c.in_ok-keep_later.ensures.frames, c.requires.ready.deep); here = c.skip.ensures.fits; kept = c.in_ok-keep_later.ensures.fit _ c.requires.ready.here c.requires.ready.kept }
