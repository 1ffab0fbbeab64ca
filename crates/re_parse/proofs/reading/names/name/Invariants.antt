use Rattle.std.proofs.Common.{◌≡◌, take}
use Rattle.re_parse.specs.TokenView.{points}
use Rattle.re_parse.proofs.reading.names.name.Given as goal

abbrev pub invariant-loop-c : goal.invariant-loop-c
invariant-loop-c l = points l.text ≡ take l.c-index l.characters
