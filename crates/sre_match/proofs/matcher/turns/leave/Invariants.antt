use Rattle.sre_match.specs.Captures.{captures}
use Rattle.std.proofs.Common.{◌≡◌, ℕ, Bool, ◌<◌, List, ◌∷◌, length}
use Rattle.sre_match.specs.Attempts.{Attempt, passed, stay}
use Rattle.sre_match.specs.Machine.{to_try, Sound}
use Rattle.sre_match.specs.Cursor.{Cursor}
use Rattle.sre_match.specs.Fits.{Fit}
use Rattle.sre_match.proofs.matcher.turns.leave.Given as goal

abbrev pub invariant-loop-choice : goal.invariant-loop-choice
invariant-loop-choice l = record {
  same : (s : List ℕ) → (xs : List Attempt) × (to_try s l.fn.trail (stay l.fn.current.cursor.place (captures l.fn.trail.marks.items)) ≡ to_try s l.trail (passed 0 l.fn.current.cursor.place (captures l.trail.marks.items) ∷ xs));
  here : l.current.cursor.place ≡ l.fn.current.cursor.place;
  cursor : l.current.cursor ≡ l.fn.current.cursor;
  fit : (ok : Cursor → Bool) → Fit ok l.fn.trail → Fit ok l.trail;
  sound : Sound l.trail;
  inside : 0 < l.trail.levels;
}

abbrev pub decreases-loop-choice : goal.decreases-loop-choice
decreases-loop-choice l = length l.trail.choices.items
