use Rattle.py_spec.proofs.SpellingLemmas.{parts_spell}
use Rattle.py_spec.proofs.laws.parts_spell_the_template.Goals as goal

pub returns : goal.returns
returns c = parts_spell
