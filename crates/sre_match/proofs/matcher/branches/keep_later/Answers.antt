use Rattle.sre_match.specs.Captures.{captures}
use Rattle.std.proofs.Common.{◌≡◌, ap, ◌∙◌, [], ◌++◌, arith}
use Rattle.sre_match.specs.Machine.{run, to_try}
use Rattle.sre_match.specs.Attempts.{after}
use Rattle.sre_match.proofs.BranchLemmas.{all_each}
use Rattle.sre_match.proofs.ChoiceLemmas.{on_ok}
use Rattle.sre_match.proofs.matcher.branches.keep_later.Goals as goal

pub returns-clause-tried : goal.returns-clause-tried
returns-clause-tried c =
    let old = c.args.trail.now in
    let p = c.args.current.now.cursor.place in
    let m = (captures old.marks.items) in
    let some : c.args.more.now ≡ [] → ⊥ = λ e. grind (arith, e, c.is_empty.ensures, c.if-is_empty.false) in
    on_ok c.keep.result
    (λ tried s xs. tried s xs ∙ ap (λ l. to_try s old (xs ++ after l (run old.frames.items c.args.current.now.rest s))) (c.kept_part.ensures s p m ∙ all_each c.args.more.now s p m some))
    c.keep.ensures.tried

pub returns-clause-fit : goal.returns-clause-fit
returns-clause-fit c = c.keep.ensures.fit
