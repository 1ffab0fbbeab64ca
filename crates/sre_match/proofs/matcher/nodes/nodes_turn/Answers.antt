use Rattle.sre_match.specs.Captures.{captures}
use Rattle.std.proofs.Common.{◌∙◌, ap, arith}
use Rattle.sre_match.specs.Machine.{run, to_try}
use Rattle.sre_match.specs.Attempts.{after}
use Rattle.sre_match.specs.Paths.{paths}
use Rattle.sre_code.specs.TreeView.{node_of}
use Rattle.sre_match.proofs.LessLemmas.{gives_is}
use Rattle.sre_match.proofs.TurnLemmas.{tree_last, node_last}
use Rattle.sre_match.proofs.matcher.nodes.nodes_turn.Goals as goal

pub returns-in-len1-clause-gives : goal.returns-in-len1-clause-gives
returns-in-len1-clause-gives g c =
    let s = c.args.s.now in
    let p = c.args.current.now.cursor.place in
    let old = c.args.trail.now in
    let m = (captures old.marks.items) in
    let n = c.node-item.result in
    let next = run old.frames.items c.args.current.now.rest s in
    let split = tree_last c.args.nodes.now n (omega (arith, c.in-len1.len_at_least, c.in-len1.len_below)) c.node-item.is in
    gives_is c.node_turn.result _ s _ _ _ _ _
    (ap (to_try s old) (ap (λ x. after (paths x s p m) next) split ∙ node_last (node_of n) s p m next))
    c.node_turn.ensures.gives
