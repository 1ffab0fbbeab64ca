use Rattle.std.proofs.Common.{◌∙◌, ap, sym, length, chars}
use Rattle.std.proofs.lemmas.Str.{chars-nil}
use Rattle.py_text.proofs.text.PyStr.new.Goals as goal

pub with_count-requires : goal.with_count-requires
with_count-requires c = sym (ap length (ap chars c.new.ensures.bytes ∙ chars-nil))

pub returns : goal.returns
returns c = c.with_count.ensures ∙ ap chars c.new.ensures.bytes ∙ chars-nil
