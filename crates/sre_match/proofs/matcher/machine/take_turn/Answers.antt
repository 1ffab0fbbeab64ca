use Rattle.sre_match.specs.Captures.{captures}
use Rattle.std.proofs.Common.{ap, ◌∙◌, arith}
use Rattle.sre_code.specs.TreeView.{tree_of}
use Rattle.sre_match.specs.declared.matcher.trail.Part.{Part}
use Rattle.sre_match.specs.Machine.{run, onward, part_next, to_try}
use Rattle.sre_match.specs.Attempts.{after, Next}
use Rattle.sre_match.specs.Paths.{paths}
use Rattle.sre_match.proofs.AfterLemmas.{stay_after}
use Rattle.sre_match.proofs.BranchLemmas.{is_nil}
use Rattle.sre_match.proofs.LessLemmas.{gives_is}
use Rattle.sre_match.proofs.matcher.machine.take_turn.Goals as goal

pub returns-then-is_empty-clause-gives : goal.returns-then-is_empty-clause-gives
returns-then-is_empty-clause-gives g c =
    let s = c.args.s.now in
    let p = c.args.current.now.cursor.place in
    let t = c.args.trail.now in
    let m = (captures t.marks.items) in
    let i = c.args.current.now.rest in
    let k : Next = run t.frames.items i s in
    gives_is c.rest_turn-then-is_empty.result _ s _ _ _ _ _
    (ap (λ (x : Part). to_try s t (onward t.frames.items (part_next x s) i s p m)) c.in-Nodes.is
    ∙ ap (λ ns. to_try s t (after (paths (tree_of ns) s p m) k)) (is_nil c.in-Nodes.nodes.now (grind (arith, c.is_empty.ensures, c.if-is_empty.true)))
    ∙ ap (to_try s t) (stay_after p m k))
    c.rest_turn-then-is_empty.ensures.gives
