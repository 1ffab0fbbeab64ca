use Rattle.sre_commands.proofs.SoundLemmas.{request_is}
use Rattle.sre_commands.proofs.AgainLemmas.{request_again}
use Rattle.sre_commands.proofs.laws.reading_is_the_text.Goals as goal

pub returns : goal.returns
returns c = λ bytes r. (request_is bytes r, λ h. request_again bytes r h.0 h.1)
