use Rattle.std.proofs.Common.{sym, append-nil}
use Rattle.py_str.proofs.PushingLemmas.{copy_more}
use Rattle.py_str.proofs.pushing.push_copies.Goals as goal

pub loop-n-init : goal.loop-n-init
loop-n-init c = sym (append-nil c.args.out.now)

pub loop-n-preserved : goal.loop-n-preserved
loop-n-preserved c = copy_more c.args.out.now c.loop-n.out c.append_text.new.self c.args.part.now c.loop-n._n c.loop-n.invariant c.in_ok-append_text.ensures.ok
