use Rattle.py_value.proofs.AskingLemmas.{asked_in_order}
use Rattle.py_value.proofs.laws.questions_are_the_definitions.Goals as goal

pub returns : goal.returns
returns c = record { values = λ a b d e f g h i j. asked_in_order a b d e f g h i j; texts = λ a b d e f g h i j. asked_in_order a b d e f g h i j }
