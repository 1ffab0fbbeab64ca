use Rattle.py_value.proofs.MarkLemmas.{translated_is, translated_alone}
use Rattle.py_value.proofs.laws.translated_texts_are_the_tables.Goals as goal

pub returns : goal.returns
returns c = record { told = translated_is; alone = translated_alone }
