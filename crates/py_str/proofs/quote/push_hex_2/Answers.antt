use Rattle.py_str.proofs.PushingLemmas.{digits_pushed}
use Rattle.py_str.proofs.quote.push_hex_2.Goals as goal

pub returns-clause-ok : goal.returns-clause-ok
returns-clause-ok c = digits_pushed _ _ _ _ _ _ _ c.in_ok-append_char.ensures.ok c.in_ok-append_char-2.ensures.ok c.hex_digit.ensures c.hex_digit-2.ensures
