use Rattle.std.proofs.Common.{length}
use Rattle.sre_commands.proofs.LeftLemmas.{WordsLeft}
use Rattle.sre_commands.proofs.tokens.number.read_words.Given as goal

abbrev pub invariant-loop-rest : goal.invariant-loop-rest
invariant-loop-rest l = WordsLeft l.bytes l.words.items l.rest

abbrev pub decreases-loop-rest : goal.decreases-loop-rest
decreases-loop-rest l = length l.rest
