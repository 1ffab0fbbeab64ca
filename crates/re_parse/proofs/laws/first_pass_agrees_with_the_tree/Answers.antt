use Rattle.re_parse.proofs.PassLemmas.{agrees}
use Rattle.re_parse.proofs.laws.first_pass_agrees_with_the_tree.Goals as goal

pub returns : goal.returns
returns c = agrees
