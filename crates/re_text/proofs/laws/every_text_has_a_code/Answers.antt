use Rattle.re_text.proofs.ListLemmas.{has_code}
use Rattle.re_text.proofs.laws.every_text_has_a_code.Goals as goal

pub returns : goal.returns
returns c = has_code
