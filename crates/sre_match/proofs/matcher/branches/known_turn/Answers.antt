use Rattle.sre_match.specs.Captures.{captures}
use Rattle.std.proofs.Common.{◌≡◌, refl, sym, ap, ◌∙◌, [], ◌∷◌, ◌++◌, List, length, take, drop, ◌-◌, ◌+◌, true, false, arith}
use Rattle.std.specs.Prelude.{Some}
use Rattle.sre_code.specs.PlainTree.{PlainTree}
use Rattle.sre_match.specs.Machine.{run, to_try}
use Rattle.sre_match.specs.Attempts.{after, Next}
use Rattle.sre_match.specs.Paths.{paths}
use Rattle.sre_match.specs.Branches.{each_paths, left_of, is_out}
use Rattle.sre_match.proofs.BranchLemmas.{leaves_thin, thin_after, thin_left, left_thin, list_split, all_each}
use Rattle.sre_match.proofs.ChoiceLemmas.{on_ok}
use Rattle.sre_match.proofs.LessLemmas.{leaves_then, leaves_is}
use Rattle.sre_match.proofs.ScanLemmas.{first_left, left_some}
use Rattle.sre_match.proofs.matcher.branches.known_turn.Goals as goal

pub returns-clause-gives : goal.returns-clause-gives
returns-clause-gives g c = on_ok c.met_turn.result
    (λ given n.
    let s = c.args.s.now in
    let p = c.args.current.now.cursor.place in
    let t = c.args.trail.now in
    let m = (captures t.marks.items) in
    let k : Next = run t.frames.items c.args.current.now.rest s in
    let trees = c.args.trees.now in
    let u = Some c.args.unit in
    let left = c.left_of.result.now in
    let x = c.t-item.result in
    let rest : List PlainTree = take (length left - 1) (drop 1 left) in
    let split : left_of trees u ≡ x ∷ rest = sym c.left_of.ensures ∙ list_split left x (omega (arith, c.in-len1-up.len_at_least)) c.t-item.is in
    leaves_then n n (n + 1) _ _ _
    (leaves_is n _ _ (ap (λ l. to_try s t (after l k)) (all_each trees s p m (left_some trees u c.requires.left))))
    (leaves_then n n (n + 1) _ _ _
    (leaves_thin s t n _ _ (thin_after (each_paths trees s p m) (each_paths (left_of trees u) s p m) k (left_thin trees s p m u c.requires.unit)))
    (leaves_then n n (n + 1) _ _ _
    (leaves_is n _ _ (ap (λ ts. to_try s t (after (each_paths ts s p m) k)) split))
    (leaves_then n n (n + 1) _ _ _
    (leaves_thin s t n _ _ (thin_after (each_paths (x ∷ rest) s p m) (paths x s p m ++ each_paths (left_of rest u) s p m) k (thin_left (paths x s p m) _ _ (left_thin rest s p m u c.requires.unit))))
    (leaves_then n n (n + 1) _ _ _
    (leaves_is n _ _ (ap (λ ts. to_try s t (after (paths x s p m ++ each_paths ts s p m) k)) (sym c.left_of-in-len1-up.ensures)))
    (given n)))))
    )
    c.met_turn.ensures.gives

pub met_turn-requires-clause-begins : goal.met_turn-requires-clause-begins
met_turn-requires-clause-begins g c =
    let trees = c.args.trees.now in
    let u = Some c.args.unit in
    let left = c.left_of.result.now in
    let x = c.t-item.result in
    let rest : List PlainTree = take (length left - 1) (drop 1 left) in
    let split : left_of trees u ≡ x ∷ rest = sym c.left_of.ensures ∙ list_split left x (omega (arith, c.in-len1-up.len_at_least)) c.t-item.is in
    (first_left trees u x rest c.requires.begins split).0

pub met_turn-requires-clause-met : goal.met_turn-requires-clause-met
met_turn-requires-clause-met g c =
    let trees = c.args.trees.now in
    let u = Some c.args.unit in
    let left = c.left_of.result.now in
    let x = c.t-item.result in
    let rest : List PlainTree = take (length left - 1) (drop 1 left) in
    let split : left_of trees u ≡ x ∷ rest = sym c.left_of.ensures ∙ list_split left x (omega (arith, c.in-len1-up.len_at_least)) c.t-item.is in
    ap (λ o. is_out x o) (sym c.requires.unit) ∙ (first_left trees u x rest c.requires.begins split).1
