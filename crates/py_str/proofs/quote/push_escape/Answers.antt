use Rattle.py_str.proofs.PushingLemmas.{two_pushed}
use Rattle.py_str.proofs.quote.push_escape.Goals as goal

pub returns-clause-ok : goal.returns-clause-ok
returns-clause-ok c = two_pushed _ _ _ _ _ c.in_ok-append_char.ensures.ok c.in_ok-append_char-2.ensures.ok
