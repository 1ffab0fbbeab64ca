-- What passes of a list of attempts that is made of others.
use Rattle.std.proofs.Common.{◌≡◌, refl, ◌∙◌, ap, ℕ, zero, suc, ◌≤◌, Bool, true, false, List, [], ◌∷◌, ◌++◌}
use Rattle.std.specs.Prelude.{Option, Some, None}
use Rattle.sre_match.specs.Attempts.{Attempt, failed, passed, Marks, Next, stay, charge, after, cut, captured_from, back_to, negated}
use Rattle.sre_match.specs.Repeats.{is_past, in_turn, optional, repeat_paths}
use Rattle.sre_match.specs.Paths.{attempt}
use Rattle.sre_match.proofs.RoomLemmas.{EndsIn, Inside}
use Rattle.re_text.specs.Outcomes.{Outcome, Onward, here, only_if, each_then, closing, first_of_all, looked, either_first, at_most, times_from}
use Rattle.re_text.specs.Laws.{passes}

pub passes_charge : (c : ℕ) (xs : List Attempt) → passes (charge c xs) ≡ passes xs
passes_charge c [] = refl
passes_charge c (failed d ∷ xs) = refl
passes_charge c (passed d e m ∷ xs) = refl

pub passes_append : (xs ys : List Attempt) → passes (xs ++ ys) ≡ passes xs ++ passes ys
passes_append [] ys = refl
passes_append (failed c ∷ xs) ys = passes_append xs ys
passes_append (passed c e m ∷ xs) ys = ap (λ l. (e, m) ∷ l) (passes_append xs ys)

-- continuations that pass alike up to n
abbrev pub Alike : ℕ → Next → Onward → Type 0
Alike n f g = (p : ℕ) (m : Marks) → p ≤ n → passes (f p m) ≡ g p m

pub passes_after : (low n : ℕ) (xs : List Attempt) (f : Next) (g : Onward) → EndsIn low n xs → Alike n f g → passes (after xs f) ≡ each_then (passes xs) g
passes_after low n [] f g h same = refl
passes_after low n (failed c ∷ xs) f g h same = passes_after low n xs f g h same
passes_after low n (passed c e m ∷ xs) f g h same =
    passes_append (charge c (f e m)) (after xs f)
    ∙ (λ i. (passes_charge c (f e m) ∙ same e m h.1) i ++ passes_after low n xs f g h.2 same i)

pub passes_cut : (xs : List Attempt) → passes (cut xs) ≡ first_of_all (passes xs)
passes_cut [] = refl
passes_cut (failed c ∷ xs) = passes_cut xs
passes_cut (passed c e m ∷ xs) = refl

pub passes_captured : (g p : ℕ) (xs : List Attempt) → passes (captured_from g p xs) ≡ closing g p (passes xs)
passes_captured g p [] = refl
passes_captured g p (failed c ∷ xs) = passes_captured g p xs
passes_captured g p (passed c e m ∷ xs) = ap (λ l. (e, m ++ record { group = g; start = p; stop = e } ∷ []) ∷ l) (passes_captured g p xs)

pub passes_back : (p : ℕ) (m : Marks) (xs : List Attempt) → passes (back_to p (cut xs)) ≡ looked true p m (passes xs)
passes_back p m [] = refl
passes_back p m (failed c ∷ xs) = passes_back p m xs
passes_back p m (passed c e n ∷ xs) = refl

pub passes_negated : (p : ℕ) (m : Marks) (xs : List Attempt) → passes (negated p m (cut xs)) ≡ looked false p m (passes xs)
passes_negated p m [] = refl
passes_negated p m (failed c ∷ xs) = passes_negated p m xs
passes_negated p m (passed c e n ∷ xs) = refl

pub passes_attempt : (b : Bool) (c e : ℕ) (m : Marks) → passes (attempt b c e m) ≡ only_if b e m
passes_attempt true c e m = refl
passes_attempt false c e m = refl

pub passes_turn : (greedy : Bool) (more stays : List Attempt) → passes (in_turn greedy more stays) ≡ either_first greedy (passes more) (passes stays)
passes_turn true more stays = passes_append more stays
passes_turn false more stays = passes_append stays more

pub passes_choice : (b : Bool) (xs ys : List Attempt) (us vs : List Outcome) → passes xs ≡ us → passes ys ≡ vs
    → passes (elim b as (λ _. List Attempt) [ true ↦ xs | false ↦ ys ]) ≡ (elim b as (λ _. List Outcome) [ true ↦ us | false ↦ vs ])
passes_choice true xs ys us vs h k = h
passes_choice false xs ys us vs h k = k

pub passes_optional : (f : Next) (g : Onward) (greedy : Bool) (n : ℕ) → Inside n f → Alike n f g → (j : ℕ) (q : Option ℕ) → Alike n (optional f greedy j q) (at_most g greedy j q)
passes_optional f g greedy n inside same zero q p m h = refl
passes_optional f g greedy n inside same (suc j) q p m h =
    let more : List Attempt = after (f p m) (optional f greedy j (Some p)) in
    let us : List Outcome = each_then (g p m) (at_most g greedy j (Some p)) in
    let e : passes more ≡ us =
    passes_after p n (f p m) (optional f greedy j (Some p)) (at_most g greedy j (Some p)) (inside p m h) (passes_optional f g greedy n inside same j (Some p))
    ∙ ap (λ l. each_then l (at_most g greedy j (Some p))) (same p m h) in
    passes_choice (is_past q p) (in_turn greedy more (stay p m)) (stay p m) (either_first greedy us (here p m)) (here p m)
    (passes_turn greedy more (stay p m) ∙ ap (λ l. either_first greedy l (here p m)) e)
    refl

pub passes_repeat : (f : Next) (g : Onward) (greedy : Bool) (n : ℕ) → Inside n f → Alike n f g → (k j : ℕ) → Alike n (repeat_paths f greedy k j) (times_from g greedy k j)
passes_repeat f g greedy n inside same zero j p m h = passes_optional f g greedy n inside same j None p m h
passes_repeat f g greedy n inside same (suc k) j p m h =
    passes_after p n (f p m) (repeat_paths f greedy k j) (times_from g greedy k j) (inside p m h) (passes_repeat f g greedy n inside same k j)
    ∙ ap (λ l. each_then l (times_from g greedy k j)) (same p m h)
