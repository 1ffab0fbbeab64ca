use Rattle.sre_match.specs.Captures.{captures}
use Rattle.std.proofs.Common.{ap, ◌∙◌, [], arith}
use Rattle.sre_match.specs.Machine.{run, to_try}
use Rattle.sre_match.specs.Attempts.{after}
use Rattle.sre_match.specs.Paths.{node_paths}
use Rattle.sre_code.specs.TreeView.{node_of}
use Rattle.sre_match.proofs.ChoiceLemmas.{pile_fail}
use Rattle.sre_match.proofs.LessLemmas.{leaves_failed}
use Rattle.sre_match.proofs.matcher.nodes.node_turn.Goals as goal

pub returns-in-Fail-clause-gives : goal.returns-in-Fail-clause-gives
returns-in-Fail-clause-gives g c =
    let s = c.args.s.now in
    let r = c.args.trail.now in
    leaves_failed _ _ 0 _ _ (omega arith)
    (ap (λ n. to_try s r (after (node_paths (node_of n) s c.args.current.now.cursor.place (captures r.marks.items)) (run r.frames.items c.args.current.now.rest s))) c.in-Fail.is
    ∙ pile_fail s r.frames.items (captures r.marks.items) r.choices.items 0 [])
