use Rattle.std.proofs.Common.{sym, append-nil}
use Rattle.py_str.proofs.PushingLemmas.{run_more}
use Rattle.py_str.proofs.pushing.push_few.Goals as goal

pub loop-n-init : goal.loop-n-init
loop-n-init c = sym (append-nil c.args.out.now)

pub loop-n-preserved : goal.loop-n-preserved
loop-n-preserved c = run_more c.args.out.now c.loop-n.out c.append_char.new.self c.loop-n._n c.args.c c.loop-n.invariant c.in_ok-append_char.ensures.ok
