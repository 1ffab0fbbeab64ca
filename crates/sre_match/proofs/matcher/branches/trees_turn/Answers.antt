use Rattle.sre_match.specs.Captures.{captures}
use Rattle.std.proofs.Common.{ap, ◌∙◌}
use Rattle.sre_match.specs.Machine.{run, to_try}
use Rattle.sre_match.specs.Attempts.{after, Next}
use Rattle.sre_match.specs.Branches.{each_paths}
use Rattle.sre_match.proofs.BranchLemmas.{all_each, list_split, is_cons}
use Rattle.sre_match.proofs.LessLemmas.{gives_is}
use Rattle.sre_match.proofs.matcher.branches.trees_turn.Goals as goal

pub returns-then-begins_single-clause-gives : goal.returns-then-begins_single-clause-gives
returns-then-begins_single-clause-gives g c =
    let s = c.args.s.now in
    let p = c.args.current.now.cursor.place in
    let t = c.args.trail.now in
    let m = (captures t.marks.items) in
    let k : Next = run t.frames.items c.args.current.now.rest s in
    let trees = c.args.trees.now in
    gives_is c.read_turn.result _ s _ _ _ _ _
    (ap (λ l. to_try s t (after l k)) (all_each trees s p m (is_cons trees c.in-len1-up.len_at_least)
    ∙ ap (λ ts. each_paths ts s p m) (list_split trees c.t-item.result c.in-len1-up.len_at_least c.t-item.is)))
    c.read_turn.ensures.gives

pub returns-else-begins_single-clause-gives : goal.returns-else-begins_single-clause-gives
returns-else-begins_single-clause-gives g c =
    let s = c.args.s.now in
    let p = c.args.current.now.cursor.place in
    let t = c.args.trail.now in
    let m = (captures t.marks.items) in
    let k : Next = run t.frames.items c.args.current.now.rest s in
    let trees = c.args.trees.now in
    gives_is c.chosen_turn.result _ s _ _ _ _ _
    (ap (λ l. to_try s t (after l k)) (all_each trees s p m (is_cons trees c.in-len1-up.len_at_least)
    ∙ ap (λ ts. each_paths ts s p m) (list_split trees c.t-item.result c.in-len1-up.len_at_least c.t-item.is)))
    (c.chosen_turn.ensures.gives s c.args.steps.now)
