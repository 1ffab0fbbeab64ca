use Rattle.std.proofs.Common.{◌∙◌, ap}
use Rattle.std.specs.Str.{chars}
use Rattle.re_parse.proofs.GroupNameLemmas.{put_last}
use Rattle.re_parse.proofs.group_names.put_number.Goals as goal

pub returns-in-Ok : goal.returns-in-Ok
returns-in-Ok c =
    put_last c.args.numbers c.in_ok-key.key c.args.name.now c.args.number c.insert.new.self.entries (ap chars c.in_ok-key.ensures.ok ∙ c.as_str.ensures.value) c.requires c.in-Ok.ensures.entries
