use Rattle.sre_match.specs.Captures.{captures}
use Rattle.std.proofs.Common.{◌≡◌, Bool, true, false, ◌∙◌, ap, ◌-◌, List, [], ◌∷◌, arith}
use Rattle.std.specs.Prelude.{nat_lt}
use Rattle.std.proofs.lemmas.Bool.{lt-ltb}
use Rattle.sre_code.specs.PlainTree.{look}
use Rattle.sre_match.specs.Machine.{run, to_try}
use Rattle.sre_match.specs.Attempts.{Attempt, failed, after, cut, back_to}
use Rattle.sre_match.specs.Paths.{paths, node_paths}
use Rattle.sre_match.proofs.ChoiceLemmas.{pile_fail}
use Rattle.sre_match.proofs.LessLemmas.{leaves_failed}
use Rattle.sre_match.proofs.matcher.turns.lookaround_turn.Goals as goal

pub returns-then-place-back-clause-gives : goal.returns-then-place-back-clause-gives
returns-then-place-back-clause-gives g c n =
    let s = c.args.s.now in
    let p = c.args.current.now.cursor.place in
    let t = c.args.trail.now in
    let m = (captures t.marks.items) in
    let k = c.args.back in
    let b = c.args.body.now in
    let f = run t.frames.items c.args.current.now.rest s in
    let e : nat_lt p k ≡ true = lt-ltb p k c.if-place-back.true in
    leaves_failed n n 0 _ _ (omega arith)
    (ap (λ (x : Bool). to_try s t (after (node_paths (look x k b) s p m) f)) c.if-positive.true
    ∙ ap (λ (x : Bool). to_try s t (after (elim x as (λ _. List Attempt) [ true ↦ failed 0 ∷ [] | false ↦ back_to p (cut (paths b s (p - k) m)) ]) f)) e
    ∙ pile_fail s t.frames.items m t.choices.items 0 [])
