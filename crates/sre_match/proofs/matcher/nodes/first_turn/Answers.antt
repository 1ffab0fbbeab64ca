use Rattle.sre_match.specs.Captures.{captures}
use Rattle.std.proofs.Common.{◌∙◌, refl, sym, ap}
use Rattle.sre_match.specs.declared.matcher.trail.Part.TheVariants.{Nodes}
use Rattle.sre_match.specs.Machine.{run, onward, part_next, to_try}
use Rattle.sre_match.specs.Attempts.{after, Next}
use Rattle.sre_match.specs.Paths.{node_paths}
use Rattle.sre_code.specs.TreeView.{node_of, tree_of}
use Rattle.sre_code.specs.PlainTree.{PlainTree}
use Rattle.sre_match.proofs.BranchLemmas.{single_paths}
use Rattle.sre_match.proofs.LessLemmas.{gives_is}
use Rattle.sre_match.proofs.TurnLemmas.{node_first, run_full}
use Rattle.sre_match.proofs.matcher.nodes.first_turn.Goals as goal

pub returns-then-is_single-clause-gives : goal.returns-then-is_single-clause-gives
returns-then-is_single-clause-gives g c =
    let s = c.args.s.now in
    let p = c.args.current.now.cursor.place in
    let i = c.args.current.now.rest in
    let old = c.args.trail.now in
    let m = (captures old.marks.items) in
    let n = node_of c.args.node.now in
    let more : PlainTree = tree_of c.args.more.now in
    let next : Next = run old.frames.items i s in
    let on : Next = onward old.frames.items (part_next (Nodes c.args.more) s) i s in
    gives_is c.single_turn.result _ s _ _ _ _ _
    (ap (to_try s old) (node_first n more s p m next on (run_full old.frames.items i s) (λ e l. refl)
    ∙ ap (λ l. after l on) (single_paths n s p m (sym c.is_single.ensures ∙ c.if-is_single.true))))
    c.single_turn.ensures.gives

pub returns-in-Ok-clause-gives : goal.returns-in-Ok-clause-gives
returns-in-Ok-clause-gives g c =
    let s = c.args.s.now in
    let p = c.args.current.now.cursor.place in
    let old = c.args.trail.now in
    let mid = c.put.new.trail in
    let m = (captures old.marks.items) in
    let n = node_of c.args.node.now in
    let more : PlainTree = tree_of c.args.more.now in
    let next : Next = run old.frames.items c.args.current.now.rest s in
    let following : Next = run mid.frames.items c.in-Ok.following s in
    gives_is c.node_turn.result _ s _ _ _ _ _
    (ap (to_try s old) (node_first n more s p m next following (run_full old.frames.items c.args.current.now.rest s) (λ e l. ap (λ (f : Next). f e l) (c.in-Ok.ensures.put s)))
    ∙ sym (c.in-Ok.ensures.tried s (after (node_paths n s p m) following))
    ∙ ap (λ l. to_try s mid (after (node_paths n s p l) following)) (sym c.in-Ok.ensures.marks))
    c.node_turn.ensures.gives

pub node_turn-requires-clause-ready : goal.node_turn-requires-clause-ready
node_turn-requires-clause-ready g c = record { sound = c.in-Ok.ensures.sound; deep = c.in-Ok.ensures.below; here = c.requires.ready.here; kept = c.in-Ok.ensures.fit _ refl c.requires.ready.kept }
