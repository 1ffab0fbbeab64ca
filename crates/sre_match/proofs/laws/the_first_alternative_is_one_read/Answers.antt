use Rattle.sre_match.specs.Rows.{reads_of_first}
use Rattle.sre_match.proofs.laws.the_first_alternative_is_one_read.Goals as goal

pub returns : goal.returns
returns c = reads_of_first
