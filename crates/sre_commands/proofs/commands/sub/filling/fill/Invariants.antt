use Rattle.std.proofs.Common.{◌≡◌, ◌++◌, map, drop, encode_utf8_all}
use Rattle.sre_commands.specs.Commands.Sub.Filling.{fill, fill_pairs}
use Rattle.sre_commands.specs.Commands.Sub.Template.{pair_of, replacement_of}
use Rattle.sre_commands.proofs.commands.sub.filling.fill.Given as goal

abbrev pub invariant-loop-pair : goal.invariant-loop-pair
invariant-loop-pair g l = l.bytes.items ++ encode_utf8_all (fill_pairs (map pair_of (drop l.pair-index l.template.pairs.items)) (g.S.StrDrive.units l.view) l.state) ≡ l.fn.bytes.items ++ encode_utf8_all (fill (replacement_of l.template) (g.S.StrDrive.units l.view) l.state)
