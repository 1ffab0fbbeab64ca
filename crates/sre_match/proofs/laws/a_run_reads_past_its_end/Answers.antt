use Rattle.sre_match.specs.Rows.{reads_of_star}
use Rattle.sre_match.proofs.laws.a_run_reads_past_its_end.Goals as goal

pub returns : goal.returns
returns c = reads_of_star
