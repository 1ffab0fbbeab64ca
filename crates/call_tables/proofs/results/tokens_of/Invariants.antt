use Rattle.std.proofs.Common.{◌≡◌, ◌∷◌, take, map, length}
use Rattle.std.specs.Vec.{vec_items}
use Rattle.call_tables.specs.declared.token.Token.TheVariants.{Text, Count}
use Rattle.call_tables.proofs.results.tokens_of.Given as goal

abbrev pub invariant-loop-i : goal.invariant-loop-i
invariant-loop-i l = vec_items l.tokens ≡ Count (length l.list) ∷ map (λ t. Text t) (take l.i l.list)
