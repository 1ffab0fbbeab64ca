use Rattle.std.proofs.Common.{◌∙◌, ap, chars}
use Rattle.std.proofs.lemmas.Str.{chars-nil}
use Rattle.re_parse.proofs.reading.names.name.Goals as goal

pub loop-c-init : goal.loop-c-init
loop-c-init c = ap chars c.new-text.ensures.bytes ∙ chars-nil
