use Rattle.sre_code.proofs.SoundLemmas.{what_is_read_is_spelled}
use Rattle.sre_code.proofs.CompleteLemmas.{what_is_spelled_is_read}
use Rattle.sre_code.proofs.laws.reading_is_spelling.Goals as goal

pub returns : goal.returns
returns c = λ words groups t. (what_is_read_is_spelled groups words t, what_is_spelled_is_read groups words t)
