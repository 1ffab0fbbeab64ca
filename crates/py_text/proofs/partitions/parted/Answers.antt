use Rattle.py_text.proofs.PieceLemmas.{parted_none}
use Rattle.py_text.proofs.partitions.parted.Goals as goal

pub returns-in-None : goal.returns-in-None
returns-in-None c = parted_none _ _ _ _ c.as_str-whole.ensures.value c.as_str.ensures.value c.in-None.ensures.around
