use Rattle.std.proofs.Common.{refl}
use Rattle.sre_commands.proofs.PartLemmas.{ascii_part}
use Rattle.sre_commands.proofs.commands.sub.parts.ByteViewTextParts.append.Goals as goal

pub returns : goal.returns
returns c = rw (c.in_ok-extend_from_slice.ensures.items, c.slice.ensures, ascii_part c.args.self.now c.args.from.now.place c.args.to.now.place c.requires.is_text) refl
