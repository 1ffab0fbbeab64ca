use Rattle.std.proofs.Common.{◌≡◌, ◌∙◌}
use Rattle.py_value.proofs.TranslateLemmas.{found, not_found}
use Rattle.py_value.proofs.translate.put_looked_up.Goals as goal

pub returns-in-Ok-clause-puts : goal.returns-in-Ok-clause-puts
returns-in-Ok-clause-puts g c = found (rw c.code_of.ensures at c.in-Ok.ensures.answers) c.put_found.ensures
