use Rattle.sre_match.specs.Captures.{captures}
use Rattle.std.proofs.Common.{◌≡◌, refl, sym, ap, subst, ◌∙◌, ◌+◌, true, arith}
use Rattle.sre_code.specs.TreeView.{node_of, tree_of}
use Rattle.sre_match.specs.declared.matcher.first_unit.FirstUnit.{FirstUnit}
use Rattle.sre_match.specs.Anchors.{is_met, met_at}
use Rattle.sre_match.specs.FirstUnit.{first_unit_tree, meets_first, Begins}
use Rattle.sre_match.specs.Machine.{run, to_try}
use Rattle.sre_match.specs.Attempts.{after, Next}
use Rattle.sre_match.specs.Paths.{paths}
use Rattle.sre_match.specs.Singles.{meets}
use Rattle.sre_match.proofs.ChoiceLemmas.{on_ok}
use Rattle.sre_match.proofs.KnownLemmas.{met_first}
use Rattle.sre_match.proofs.LessLemmas.{leaves_then, leaves_is}
use Rattle.sre_match.proofs.matcher.candidate.candidate_turn.Goals as goal

pub returns-in-Single-clause-gives : goal.returns-in-Single-clause-gives
returns-in-Single-clause-gives g c n =
    let s = c.args.s.now in
    let at = c.args.current.now in
    let p = at.cursor.place in
    let t = c.args.trail.now in
    let m = (captures t.marks.items) in
    let k : Next = run t.frames.items at.rest s in
    let node = node_of c.in-Single._node.now in
    let more = tree_of c.in-Single.more.now in
    let P : FirstUnit → Type 0 = λ l. Begins l in
    let met : met_at (meets node) s p ≡ true = ap (is_met (meets node)) (sym c.requires.unit) ∙ ap (λ l. meets_first l c.args.unit) (sym c.in-Single.is) ∙ c.requires.met in
    leaves_then n n (n + 1) _ _ _
    (leaves_is n _ _ (ap (λ l. to_try s t (after (paths (first_unit_tree l) s p m) k)) c.in-Single.is))
    (leaves_then n (n + 1) (n + 1) _ _ _
    (met_first node more s t at.rest p m n (subst P c.in-Single.is c.requires.begins) met)
    (leaves_is (n + 1) _ _ (ap (λ q. to_try s t (after (paths more s q m) k)) (sym c.skip.ensures.place))))

pub returns-in-Alternatives-clause-gives : goal.returns-in-Alternatives-clause-gives
returns-in-Alternatives-clause-gives g c =
    let s = c.args.s.now in
    let at = c.args.current.now in
    let p = at.cursor.place in
    let t = c.args.trail.now in
    let m = (captures t.marks.items) in
    let k : Next = run t.frames.items at.rest s in
    on_ok c.alternatives_turn.result
    (λ given n. leaves_then n n (n + 1) _ _ _ (leaves_is n _ _ (ap (λ l. to_try s t (after (paths (first_unit_tree l) s p m) k)) c.in-Alternatives.is)) (given n))
    c.alternatives_turn.ensures.gives
