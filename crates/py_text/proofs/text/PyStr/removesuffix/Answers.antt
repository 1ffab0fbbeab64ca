use Rattle.py_text.proofs.AffixLemmas.{stripped_suffix, no_suffix}
use Rattle.py_text.proofs.text.PyStr.removesuffix.Goals as goal

pub returns-in-Some : goal.returns-in-Some
returns-in-Some c = rw (← c.as_str-text.ensures.value, ← c.as_str.ensures.value) (stripped_suffix c.as_str.result.now c.as_str-text.result.now c.in-Some.rest.now c.as_str-text.utf8 c.in-Some.ensures.cases)

pub returns-in-None : goal.returns-in-None
returns-in-None c = rw (← c.as_str-text.ensures.value, ← c.as_str.ensures.value) (no_suffix c.as_str.result.now c.as_str-text.result.now c.as_str.utf8 c.as_str-text.utf8 c.in-None.ensures.cases)
