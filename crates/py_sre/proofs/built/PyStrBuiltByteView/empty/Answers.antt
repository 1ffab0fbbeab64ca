use Rattle.std.proofs.Common.{◌∙◌, ap, chars}
use Rattle.std.proofs.lemmas.Str.{chars-nil}
use Rattle.py_sre.proofs.built.PyStrBuiltByteView.empty.Goals as goal

pub returns : goal.returns
returns c = c.from.ensures ∙ ap chars c.new.ensures.bytes ∙ chars-nil
