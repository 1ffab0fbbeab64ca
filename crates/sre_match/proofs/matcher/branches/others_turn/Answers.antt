use Rattle.sre_match.specs.Captures.{captures}
use Rattle.std.proofs.Common.{◌≡◌, sym, ap, ◌∙◌, [], ◌∷◌, ◌++◌, List, length, take, drop, ◌-◌, arith}
use Rattle.sre_code.specs.PlainTree.{PlainTree}
use Rattle.sre_match.specs.Machine.{run, to_try}
use Rattle.sre_match.specs.Attempts.{after, Next}
use Rattle.sre_match.specs.Paths.{paths}
use Rattle.sre_match.specs.Branches.{each_paths, left_of}
use Rattle.sre_match.proofs.BranchLemmas.{leaves_thin, thin_after, thin_left, left_thin, list_split, is_nil}
use Rattle.sre_match.proofs.LessLemmas.{leaves_then, leaves_is, gives_less}
use Rattle.sre_match.proofs.matcher.branches.others_turn.Goals as goal

pub returns-in-empty-clause-gives : goal.returns-in-empty-clause-gives
returns-in-empty-clause-gives c s n e =
    let p = c.args.current.now.cursor.place in
    let t = c.args.trail.now in
    let m = (captures t.marks.items) in
    let k : Next = run t.frames.items c.args.current.now.rest s in
    let trees = c.args.trees.now in
    let none : left_of trees c.args.unit ≡ [] = sym c.left_of.ensures ∙ is_nil c.left_of.result.now (omega (arith, c.in-empty.len_below)) in
    leaves_then n n n _ _ _
    (leaves_thin s t n _ _ (thin_after (each_paths trees s p m) (each_paths (left_of trees c.args.unit) s p m) k (left_thin trees s p m c.args.unit e)))
    (leaves_is n _ _ (ap (λ ts. to_try s t (after (each_paths ts s p m) k)) none))

pub returns-in-len1-up-clause-gives : goal.returns-in-len1-up-clause-gives
returns-in-len1-up-clause-gives c s n e =
    let p = c.args.current.now.cursor.place in
    let t = c.args.trail.now in
    let m = (captures t.marks.items) in
    let k : Next = run t.frames.items c.args.current.now.rest s in
    let trees = c.args.trees.now in
    let left = c.left_of.result.now in
    let x = c.t-item.result in
    let rest : List PlainTree = take (length left - 1) (drop 1 left) in
    let split : left_of trees c.args.unit ≡ x ∷ rest = sym c.left_of.ensures ∙ list_split left x (omega (arith, c.in-len1-up.len_at_least)) c.t-item.is in
    gives_less c.chosen_turn.result _ s _ n n n _ _
    (leaves_then n n n _ _ _
    (leaves_thin s t n _ _ (thin_after (each_paths trees s p m) (each_paths (left_of trees c.args.unit) s p m) k (left_thin trees s p m c.args.unit e)))
    (leaves_then n n n _ _ _
    (leaves_is n _ _ (ap (λ ts. to_try s t (after (each_paths ts s p m) k)) split))
    (leaves_then n n n _ _ _
    (leaves_thin s t n _ _ (thin_after (each_paths (x ∷ rest) s p m) (paths x s p m ++ each_paths (left_of rest c.args.unit) s p m) k (thin_left (paths x s p m) _ _ (left_thin rest s p m c.args.unit e))))
    (leaves_is n _ _ (ap (λ ts. to_try s t (after (paths x s p m ++ each_paths ts s p m) k)) (sym c.left_of-in-len1-up.ensures))))))
    (c.chosen_turn.ensures.gives s n)
