use Rattle.sre_match.proofs.PaidLemmas.{first_unit_costs_a_read}
use Rattle.sre_match.proofs.laws.first_unit_costs_a_read.Goals as goal

pub returns : goal.returns
returns c = first_unit_costs_a_read
