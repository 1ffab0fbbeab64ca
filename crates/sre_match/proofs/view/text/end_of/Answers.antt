use Rattle.sre_match.proofs.CursorLemmas.{end_fits}
use Rattle.sre_match.proofs.view.text.end_of.Goals as goal

pub returns-clause-fits : goal.returns-clause-fits
returns-clause-fits c = rw c.new.ensures (end_fits c.args.text.now c.args.count c.utf8.text c.requires)
