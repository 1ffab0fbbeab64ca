use Rattle.std.proofs.Common.{refl}
use Rattle.py_str.proofs.PushingLemmas.{padded_is}
use Rattle.py_str.proofs.pad.padded.Goals as goal

pub returns-clause-ok : goal.returns-clause-ok
returns-clause-ok c = padded_is c.in_ok-out.out _ _ _ _ _ _ _ _ c.in_ok-out.ensures.ok c.in_ok-push_run.ensures.ok c.in_ok-append_text.ensures.ok c.in_ok-push_run-2.ensures.ok refl refl
