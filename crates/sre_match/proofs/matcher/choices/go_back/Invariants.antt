use Rattle.std.proofs.Common.{◌≡◌, ℕ, Bool, List, [], length}
use Rattle.sre_match.specs.Machine.{to_try, Sound}
use Rattle.sre_match.specs.Cursor.{Cursor}
use Rattle.sre_match.specs.Fits.{Fit}
use Rattle.sre_match.proofs.matcher.choices.go_back.Given as goal

abbrev pub invariant-loop-choice : goal.invariant-loop-choice
invariant-loop-choice l = record {
  same : (s : List ℕ) → to_try s l.fn.trail [] ≡ to_try s l.trail [];
  sound : Sound l.trail;
  fit : (ok : Cursor → Bool) → Fit ok l.fn.trail → Fit ok l.trail;
}

abbrev pub decreases-loop-choice : goal.decreases-loop-choice
decreases-loop-choice l = length l.trail.choices.items
