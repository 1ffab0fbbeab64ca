-- What a turn has come to, and what it has cost.
use Rattle.sre_match.specs.Captures.{captures}
use Rattle.std.proofs.Common.{◌≡◌, sym, ap, subst, ◌∙◌, ℕ, ◌+◌, ◌≤◌, Bool, true, false, List, [], ◌∷◌, length, arith}
use Rattle.std.specs.Prelude.{Option, Some, Result, Ok, Err, IfOk}
use Rattle.sre_match.specs.declared.matcher.trail.Current.{Current}
use Rattle.sre_match.specs.declared.matcher.trail.Trail.{Trail}
use Rattle.sre_match.specs.declared.matcher.trail.Turn.TheVariants.{Done}
use Rattle.sre_match.specs.declared.matcher.machine.Progress.{Progress}
use Rattle.sre_match.specs.declared.matcher.machine.Progress.TheVariants.{More, Found, Nothing, NoMemory}
use Rattle.sre_code.specs.PlainTree.{PlainTree}
use Rattle.sre_match.specs.Attempts.{Attempt, passed, Marks, stay, chosen, cost_of}
use Rattle.sre_match.specs.Paths.{paths}
use Rattle.sre_match.specs.Matches.{Allowed, first_allowed, reads, is_allowed}
use Rattle.sre_match.specs.Machine.{part_next, onward, to_try, pile, ahead_of, Sound, Less, Leaves, Ends, Gives, Progresses}
use Rattle.sre_match.proofs.AfterLemmas.{after_stay}
use Rattle.sre_match.proofs.ChoiceLemmas.{pile_pass}
use Rattle.sre_match.proofs.LessLemmas.{less_less, chosen_first, chosen_later, cost_later}
use Rattle.sre_match.proofs.NextSpanLemmas.{first_within, reads_there}

pub less_ends : (ok : ℕ → Bool) (old mid new : ℕ) (xs ys : List Attempt) (o : Option (ℕ × Marks)) → Less ok old mid xs ys → Ends ok mid new ys o → Ends ok old new xs o
less_ends ok old mid new xs ys o h k = record { same = h.same ∙ k.same; cost = omega (arith, h.cost, k.cost) }

-- what comes to something, after what leaves it
pub progress_less : (x : Progress) (a : Current) (ok : ℕ → Bool) (s : List ℕ) (t : Trail) (old mid new : ℕ) (xs ys : List Attempt) → Less ok old mid xs ys → Progresses x a ok s t mid new ys → Progresses x a ok s t old new xs
progress_less More a ok s t old mid new xs ys h k = less_less ok old mid new xs ys _ h k
progress_less Found a ok s t old mid new xs ys h k = less_ends ok old mid new xs ys _ h k
progress_less Nothing a ok s t old mid new xs ys h k = less_ends ok old mid new xs ys _ h k
progress_less NoMemory a ok s t old mid new xs ys h k = omega (arith, h.cost, k)

-- a match at the end of the tree
at_end : (s : List ℕ) (t : Trail) (p : ℕ) → Sound t → t.levels ≡ 0 → to_try s t (stay p (captures t.marks.items)) ≡ passed 0 p (captures t.marks.items) ∷ to_try s t []
at_end s t p h z = pile_pass s t.frames.items (captures t.marks.items) t.choices.items p (captures t.marks.items) [] (sym h.inside ∙ z)

pub progress_found : (a : Current) (ok : ℕ → Bool) (s : List ℕ) (t : Trail) (old new : ℕ) (before : List Attempt) → Sound t → Gives Done a s t old new before → ok a.cursor.place ≡ true
    → Ends ok old new before (Some (a.cursor.place, (captures t.marks.items)))
progress_found a ok s t old new before h g e = record {
  same = (g.0 ok).same ∙ ap (chosen ok) (at_end s t a.cursor.place h g.1) ∙ chosen_first (ok a.cursor.place) (a.cursor.place, (captures t.marks.items)) (chosen ok (to_try s t [])) e;
  cost = omega (arith, (g.0 ok).cost);
}

pub progress_skip : (x : Progress) (a b : Current) (ok : ℕ → Bool) (s : List ℕ) (t r : Trail) (old new : ℕ) (before : List Attempt) → Sound t → Gives Done a s t old new before → ok a.cursor.place ≡ false
    → Progresses x b ok s r new new (to_try s t []) → Progresses x b ok s r old new before
progress_skip x a b ok s t r old new before h g e l =
    progress_less x b ok s r old new new before (to_try s t [])
    (record {
      same = (g.0 ok).same ∙ ap (chosen ok) (at_end s t a.cursor.place h g.1) ∙ chosen_later (ok a.cursor.place) (a.cursor.place, (captures t.marks.items)) (chosen ok (to_try s t [])) e;
      cost = omega (arith, (g.0 ok).cost, ap (cost_of ok) (at_end s t a.cursor.place h g.1), cost_later (ok a.cursor.place) (cost_of ok (to_try s t [])) e);
    })
    l

pile_none : (s : List ℕ) (t : Trail) (xs : List Attempt) → t.choices.items ≡ [] → to_try s t xs ≡ xs
pile_none s t xs e = ap (λ cs. pile s t.frames.items (captures t.marks.items) cs xs) e

-- a trail without marks, frames and choices has only this part to try
pub begins : (a : Current) (s : List ℕ) (t : Trail) → (captures t.marks.items) ≡ [] → t.frames.items ≡ [] → t.choices.items ≡ [] → a.rest ≡ 0 → ahead_of a s t ≡ part_next a.part s a.cursor.place []
begins a s t mm ff cc r =
    pile_none s t (onward t.frames.items (part_next a.part s) a.rest s a.cursor.place (captures t.marks.items)) cc
    ∙ (λ x. onward (ff x) (part_next a.part s) (r x) s a.cursor.place (mm x))
    ∙ after_stay (part_next a.part s a.cursor.place [])

-- what leaves a list has its outcome, at a cost within its own
pub first_ends : (t : PlainTree) (s : List ℕ) (i : ℕ) (a : Allowed) (old mid new : ℕ) (xs : List Attempt) (o : Option (ℕ × Marks)) → i ≤ length s
    → Leaves old mid (paths t s i []) xs → o ≡ chosen (is_allowed s i a) xs → o ≡ first_allowed t s i a
first_ends t s i a old mid new xs o le h e = e ∙ sym (first_within t s i a le ∙ (h (is_allowed s i a)).same)

pub first_cost : (t : PlainTree) (s : List ℕ) (i : ℕ) (a : Allowed) (old mid new : ℕ) (xs : List Attempt) → i ≤ length s
    → Leaves old mid (paths t s i []) xs → new ≤ mid + cost_of (is_allowed s i a) xs → new ≤ old + reads t s i a
first_cost t s i a old mid new xs le h k = omega (arith, k, (h (is_allowed s i a)).cost, reads_there t s i a le)

-- the tree of some nodes
pub leaves_tree : (n t : PlainTree) (s : List ℕ) (i old new : ℕ) (xs : List Attempt) → n ≡ t → Leaves old new (paths n s i []) xs → Leaves old new (paths t s i []) xs
leaves_tree n t s i old new xs e h = let P : PlainTree → Type 0 = λ y. Leaves old new (paths y s i []) xs in subst P e h

pub if_ok : {T E : Type 0} {P Q : T → Type 0} (r : Result T E) → ((t : T) → P t → Q t) → IfOk r P → IfOk r Q
if_ok (Ok t) f h = f t h
if_ok (Err e) f h = h
