use Rattle.std.proofs.Common.{ℕ, ◌<◌, length, chars}
use denote.Text.{Utf8}
use denote.Shadow.{shadow}
use Rattle.py_text.proofs.OccurrenceLemmas.{Counted}
use Rattle.py_text.proofs.search.parts_in.Given as goal

abbrev pub invariant-loop-back : goal.invariant-loop-back
invariant-loop-back l = record { utf8 : shadow (Utf8 l.rest); counted : (k : ℕ) → length (chars l.text) < k → Counted (chars l.needle) (chars l.text) (chars l.rest) k l.parts }

abbrev pub decreases-loop-back : goal.decreases-loop-back
decreases-loop-back l = length (chars l.rest)
