use Rattle.std.proofs.Common.{length}
use Rattle.re_tree.specs.Reading.{all_tokens}
use Rattle.re_parse.specs.Walk.{after_tokens}
use Rattle.re_parse.proofs.TokenWalkLemmas.{Going}
use Rattle.re_parse.proofs.walk.after_tokens.Given as goal

abbrev pub invariant-tokens : goal.invariant-tokens
invariant-tokens g l =
    Going g.W.Walk.next l.flags l.text l.rest (g.W.Walk.seen l.state)
    (after_tokens g.W.Walk.next (g.W.Walk.seen l.fn.start) (all_tokens l.flags (length l.text) (length l.text) l.text))

abbrev pub decreases-tokens : goal.decreases-tokens
decreases-tokens g l = length l.rest
