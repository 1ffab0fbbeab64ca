use Rattle.std.proofs.Common.{◌∙◌, ap, sym, length, chars}
use Rattle.std.proofs.lemmas.Str.{chars-nil}
use Rattle.py_text.proofs.text.PyStr.with_capacity.Goals as goal

pub with_count-requires : goal.with_count-requires
with_count-requires c = sym (ap length (ap chars c.in_ok-text.ensures.bytes ∙ chars-nil))

pub returns-clause-ok : goal.returns-clause-ok
returns-clause-ok c = c.with_count.ensures ∙ ap chars c.in_ok-text.ensures.bytes ∙ chars-nil
