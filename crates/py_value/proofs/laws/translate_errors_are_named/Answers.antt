use Rattle.py_value.proofs.TranslateErrorLemmas.{translate_errors}
use Rattle.py_value.proofs.laws.translate_errors_are_named.Goals as goal

pub returns : goal.returns
returns c = translate_errors
