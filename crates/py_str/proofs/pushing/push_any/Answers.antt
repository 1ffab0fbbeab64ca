use Rattle.std.proofs.Common.{◌∙◌, ◌++◌, ◌/◌, ◌%◌, ap, arith, List, ℕ}
use Rattle.py_str.specs.Pad.{run}
use Rattle.py_str.proofs.PushingLemmas.{blocks_pushed}
use Rattle.py_str.proofs.pushing.push_any.Goals as goal

pub returns-clause-ok : goal.returns-clause-ok
returns-clause-ok c =
    blocks_pushed c.args.out.now c.push_copies.new.out _ _ c.args.c (c.args.count / 64) (c.args.count % 64) c.args.count
    (c.in_ok-push_few.ensures.ok ∙ ap (λ (l : List ℕ). l ++ run 64 c.args.c) c.new-block.ensures) c.in_ok-push_copies.ensures.ok c.in_ok-push_few-2.ensures.ok (omega arith)
