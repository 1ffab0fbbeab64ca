-- The least place that has an allowed outcome.
use Rattle.std.proofs.Common.{◌≡◌, ℕ, zero, suc, ◌+◌, ◌-◌, ◌≤◌, ◌<◌, Bool, true, false, ltb, List, [], length, take, Option, Some, None, refl, sym, ap, ◌∙◌, arith}
use Rattle.std.proofs.lemmas.Bool.{ltb-true, ltb-false}
use Rattle.sre_code.specs.PlainTree.{PlainTree}
use Rattle.sre_match.specs.Attempts.{Marks, chosen, cost_of}
use Rattle.sre_match.specs.Paths.{paths}
use Rattle.std.proofs.lemmas.List.{length-take-le}
use Rattle.sre_match.specs.Search.{Search}
use Rattle.sre_match.specs.Matches.{Span, Allowed, at_later_places, span_at, span_or, is_allowed, first_allowed, reads, next_within, next_span, cost_or, reads_within, next_reads}

lt_true : (a b : ℕ) → a < b → ltb a b ≡ true
lt_true a b lt = at (ltb a b) refl
  where
    at : (c : Bool) → ltb a b ≡ c → ltb a b ≡ true
    at true e = e
    at false e = let h = ltb-false a b e in absurd (omega (arith, h))

lt_false : (a b : ℕ) → b ≤ a → ltb a b ≡ false
lt_false a b le = at (ltb a b) refl
  where
    at : (c : Bool) → ltb a b ≡ c → ltb a b ≡ false
    at true e = let h = ltb-true a b e in absurd (omega (arith, h))
    at false e = e

-- past the subject there is no outcome
pub first_past : (t : PlainTree) (s : List ℕ) (i : ℕ) (a : Allowed) → length s < i → first_allowed t s i a ≡ None
unfolding first_allowed
first_past t s i a past = rw (lt_true (length s) i past) refl

-- within it the first allowed outcome is the chosen attempt
pub first_within : (t : PlainTree) (s : List ℕ) (i : ℕ) (a : Allowed) → i ≤ length s → first_allowed t s i a ≡ chosen (is_allowed s i a) (paths t s i [])
unfolding first_allowed
first_within t s i a le = rw (lt_false (length s) i le) refl

-- and it costs what is read up to it
pub reads_there : (t : PlainTree) (s : List ℕ) (i : ℕ) (a : Allowed) → i ≤ length s → reads t s i a ≡ cost_of (is_allowed s i a) (paths t s i [])
unfolding reads
reads_there t s i a le = rw (lt_false (length s) i le) refl

-- there is no next span where no place is left
pub next_past : (t : PlainTree) (s : List ℕ) (q : ℕ) (a : Allowed) → length s < q → next_span t s q a ≡ None
unfolding next_within
next_past t s q a past = let none : length s + 1 - q ≡ 0 = omega arith in rw none refl

-- one place, and then the later ones
pub next_step : (t : PlainTree) (s : List ℕ) (q : ℕ) (a : Allowed) → q ≤ length s → next_span t s q a ≡ span_or q (first_allowed t s q a) (next_span t s (q + 1) (at_later_places a))
unfolding next_within
next_step t s q a le =
    let one : length s + 1 - q ≡ suc (length s + 1 - (q + 1)) = omega arith in
    ap (λ (n : ℕ). next_within n t s q a) one

pub next_found : (t : PlainTree) (s : List ℕ) (q : ℕ) (a : Allowed) (o : ℕ × Marks) → q ≤ length s → Some o ≡ first_allowed t s q a → Some (span_at q o) ≡ next_span t s q a
next_found t s q a o le e = sym (next_step t s q a le ∙ ap (λ (x : Option (ℕ × Marks)). span_or q x (next_span t s (q + 1) (at_later_places a))) (sym e))

pub next_on : (t : PlainTree) (s : List ℕ) (q : ℕ) (a : Allowed) → q ≤ length s → None ≡ first_allowed t s q a → next_span t s (q + 1) (at_later_places a) ≡ next_span t s q a
next_on t s q a le e = sym (next_step t s q a le ∙ ap (λ (x : Option (ℕ × Marks)). span_or q x (next_span t s (q + 1) (at_later_places a))) (sym e))

-- what is read at one place, and then at the later ones
reads_step : (t : PlainTree) (s : List ℕ) (q : ℕ) (a : Allowed) → q ≤ length s → next_reads t s q a ≡ cost_or (reads t s q a) (first_allowed t s q a) (next_reads t s (q + 1) (at_later_places a))
unfolding reads_within
reads_step t s q a le =
    let one : length s + 1 - q ≡ suc (length s + 1 - (q + 1)) = omega arith in
    ap (λ (n : ℕ). reads_within n t s q a) one

pub reads_on : (t : PlainTree) (s : List ℕ) (q : ℕ) (a : Allowed) → q ≤ length s → None ≡ first_allowed t s q a → next_reads t s q a ≡ reads t s q a + next_reads t s (q + 1) (at_later_places a)
reads_on t s q a le e =
    reads_step t s q a le ∙ ap (λ (x : Option (ℕ × Marks)). cost_or (reads t s q a) x (next_reads t s (q + 1) (at_later_places a))) (sym e)

cost_here : (o : Option (ℕ × Marks)) (here rest : ℕ) → here ≤ cost_or here o rest
cost_here None here rest = omega arith
cost_here (Some x) here rest = omega arith

pub reads_here : (t : PlainTree) (s : List ℕ) (q : ℕ) (a : Allowed) → q ≤ length s → reads t s q a ≤ next_reads t s q a
reads_here t s q a le =
    omega (arith, reads_step t s q a le, cost_here (first_allowed t s q a) (reads t s q a) (next_reads t s (q + 1) (at_later_places a)))

-- more places change nothing
none_past : (n : ℕ) (t : PlainTree) (s : List ℕ) (i : ℕ) (a : Allowed) → length s < i → next_within n t s i a ≡ None
unfolding next_within
none_past zero t s i a past = refl
none_past (suc n) t s i a past = rw (first_past t s i a past) (none_past n t s (i + 1) (at_later_places a) (omega arith))

pub more_places : (n k : ℕ) (t : PlainTree) (s : List ℕ) (i : ℕ) (a : Allowed) → k ≡ length s + 1 - i → k ≤ n → next_within n t s i a ≡ next_within k t s i a
unfolding next_within
more_places n zero t s i a is le = none_past n t s i a (omega (arith, is))
more_places zero (suc k) t s i a is le = absurd (omega arith)
more_places (suc n) (suc k) t s i a is le = ap (λ (x : Option Span). span_or i (first_allowed t s i a) x) (more_places n k t s (i + 1) (at_later_places a) (omega (arith, is)) (omega arith))

-- the subject is as long as its end
pub subject_length : (r : Search) (units : List ℕ) (end : ℕ) → take end units ≡ r.subject → end ≤ length units → length r.subject ≡ end
subject_length r units end e le = ap length (sym e) ∙ length-take-le end units le
