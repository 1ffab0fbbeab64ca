use Rattle.sre_match.specs.Captures.{captures}
use Rattle.std.proofs.Common.{◌≡◌, refl, sym, ap, ◌∙◌, [], ◌+◌, arith}
use Rattle.sre_code.specs.PlainTree.{PlainTree, branch, ◌then◌}
use Rattle.sre_code.specs.TreeView.{tree_of, trees_of}
use Rattle.sre_match.specs.Machine.{run, to_try}
use Rattle.sre_match.specs.Attempts.{after, Next}
use Rattle.sre_match.specs.Paths.{paths, all_paths}
use Rattle.sre_match.proofs.BranchLemmas.{is_nil}
use Rattle.sre_match.proofs.ChoiceLemmas.{on_ok}
use Rattle.sre_match.proofs.LessLemmas.{leaves_then, leaves_is}
use Rattle.sre_match.proofs.TurnLemmas.{node_first, node_last, run_full}
use Rattle.sre_match.proofs.matcher.candidate.alternatives_turn.Goals as goal

pub returns-in-empty-clause-gives : goal.returns-in-empty-clause-gives
returns-in-empty-clause-gives g c =
    let s = c.args.s.now in
    let p = c.args.current.now.cursor.place in
    let t = c.args.trail.now in
    let m = (captures t.marks.items) in
    let k : Next = run t.frames.items c.args.current.now.rest s in
    let b = branch (trees_of c.args.trees.now) in
    let none : c.args.more.now ≡ [] = is_nil c.args.more.now (omega (arith, c.in-empty.len_below)) in
    on_ok c.known_turn.result
    (λ given n. leaves_then n n (n + 1) _ _ _ (leaves_is n _ _ (ap (to_try s t) (ap (λ ns. after (paths (b then tree_of ns) s p m) k) none ∙ node_last b s p m k))) (given n))
    c.known_turn.ensures.gives

pub returns-in-Ok-clause-gives : goal.returns-in-Ok-clause-gives
returns-in-Ok-clause-gives g c =
    let s = c.args.s.now in
    let p = c.args.current.now.cursor.place in
    let old = c.args.trail.now in
    let mid = c.put.new.trail in
    let m = (captures old.marks.items) in
    let ts = trees_of c.args.trees.now in
    let more : PlainTree = tree_of c.args.more.now in
    let next : Next = run old.frames.items c.args.current.now.rest s in
    let following : Next = run mid.frames.items c.in-Ok.following s in
    on_ok c.known_turn-in-Ok.result
    (λ given n. leaves_then n n (n + 1) _ _ _
    (leaves_is n _ _
    (ap (to_try s old) (node_first (branch ts) more s p m next following (run_full old.frames.items c.args.current.now.rest s) (λ e l. ap (λ (f : Next). f e l) (c.in-Ok.ensures.put s)))
    ∙ sym (c.in-Ok.ensures.tried s (after (all_paths ts s p m) following))
    ∙ ap (λ l. to_try s mid (after (all_paths ts s p l) following)) (sym c.in-Ok.ensures.marks)))
    (given n))
    c.known_turn-in-Ok.ensures.gives

pub known_turn-requires-in-Ok-clause-ready : goal.known_turn-requires-in-Ok-clause-ready
known_turn-requires-in-Ok-clause-ready g c = record { sound = c.in-Ok.ensures.sound; deep = c.in-Ok.ensures.below; here = c.requires.ready.here; kept = c.in-Ok.ensures.fit _ refl c.requires.ready.kept }
