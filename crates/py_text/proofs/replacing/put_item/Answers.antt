use Rattle.std.proofs.Common.{◌≡◌, ◌++◌, ◌∙◌, ap, sym, take, arith, ◌+◌}
use Rattle.py_text.specs.Replacing.{join}
use Rattle.py_text.proofs.ReplacingLemmas.{item_there, first_item, next_item, on_ok}
use Rattle.py_text.proofs.replacing.put_item.Goals as goal
use Rattle.py_text.proofs.replacing.put_item.Goals.{then-i-gt0+in_ok-append_text, else-i-gt0}

pub returns-in-Some-clause-ok : goal.returns-in-Some-clause-ok
returns-in-Some-clause-ok c =
    let put : c.append_text-in-Some.new.self ≡ c.if-i-gt0.out ++ c.in-Some.item.now → c.append_text-in-Some.new.self ≡ join c.args.sep.now (take (c.args.i + 1) c.args.items.now) =
    elim c.if-i-gt0.branch [
      | then-i-gt0+in_ok-append_text w ↦ λ h. next_item c.args.sep.now c.args.out.now w.append_text.new.self _ c.in-Some.item.now c.args.items.now c.args.i w.if-i-gt0.true c.requires.inside (sym c.in-Some.ensures) c.requires.so_far
          w.in_ok-append_text.ensures.ok (h ∙ ap (λ r. r ++ c.in-Some.item.now) w.out-is)
      | else-i-gt0 w ↦ λ h. first_item c.args.sep.now c.args.out.now _ c.in-Some.item.now c.args.items.now c.args.i (omega (arith, w.if-i-gt0.false)) c.requires.inside (sym c.in-Some.ensures) c.requires.so_far (h ∙ ap (λ r. r ++ c.in-Some.item.now) w.out-is)
    ] in
    on_ok c.append_text-in-Some.result put c.append_text-in-Some.ensures.ok

pub returns-in-None-clause-ok : goal.returns-in-None-clause-ok
returns-in-None-clause-ok c = absurd (item_there c.args.items.now c.args.i c.requires.inside (sym c.in-None.ensures))
