-- A repeat of one unit, as a run of units that meet it.
use Rattle.sre_match.specs.Captures.{captures}
use Rattle.std.proofs.Common.{◌≡◌, refl, sym, ap, subst, ◌∙◌, ℕ, zero, suc, ◌+◌, ◌-◌, ◌<◌, ◌≤◌, Bool, true, false, List, [], ◌∷◌, ◌++◌, arith}
use Rattle.std.specs.Prelude.{Option, Some, None}
use Rattle.std.proofs.lemmas.List.{append-nil}
use Rattle.std.proofs.lemmas.Bool.{lt-ltb}
use Rattle.sre_match.specs.declared.matcher.trail.Trail.{Trail}
use Rattle.sre_match.specs.Attempts.{Attempt, failed, passed, Marks, Next, stay, charge, after, cut, chosen, cost_of}
use Rattle.sre_match.specs.Paths.{attempt, paths, node_paths}
use Rattle.sre_match.specs.Anchors.{met_at}
use Rattle.sre_match.specs.Repeats.{is_past, in_turn, optional, repeat_paths}
use Rattle.sre_match.specs.Singles.{is_single, meets, run_of, run_cost, run_paid}
use Rattle.sre_match.specs.Machine.{passes_down, to_try, Leaves}
use Rattle.sre_match.proofs.AfterLemmas.{IsFull, IsTotal, charge_append, charge_full, after_stay, after-charge, after_full, chosen-charge}
use Rattle.sre_match.proofs.ChoiceLemmas.{cut_charge, pile_fail}
use Rattle.sre_match.proofs.LessLemmas.{cost_charge, leaves_charge}
use Rattle.sre_match.proofs.BranchLemmas.{single_paths}
use Rattle.sre_code.specs.PlainTree.{PlainNode, PlainTree, nothing, ◌then◌}
use Rattle.sre_match.proofs.TurnLemmas.{to_try_charge}

-- each attempt of a body is one unit that meets a test
abbrev pub IsUnit : (ℕ → Bool) → List ℕ → Next → Type 0
IsUnit test s body = (p : ℕ) (m : Marks) → body p m ≡ attempt (met_at test s p) 1 (p + 1) m

up : (p : ℕ) → p + 1 + 0 ≡ p + 1
up p = omega arith

back : (p : ℕ) → p ≡ p + 1 - 1
back p = omega arith

once : (p n : ℕ) → p + suc n ≡ p + 1 + n
once p n = omega arith

minus_zero : (n : ℕ) → n ≡ n - 0
minus_zero n = omega arith

-- the last one is one further down
pub down_last : (n p : ℕ) (m : Marks) → passes_down n (p + 1 + n) m ++ stay p m ≡ passes_down (suc n) (p + suc n) m
down_last zero p m = λ i. passed 0 (up p i) m ∷ passed 0 (back p i) m ∷ []
down_last (suc n) p m =
    let e : p + 1 + suc n ≡ p + suc (suc n) = omega arith in
    let k : p + suc (suc n) - 1 ≡ p + suc n = omega arith in
    ap (λ q. passed 0 q m ∷ (passes_down n (q - 1) m ++ stay p m)) e
    ∙ ap (λ q. passed 0 (p + suc (suc n)) m ∷ (passes_down n q m ++ stay p m)) (k ∙ once p n)
    ∙ ap (λ l. passed 0 (p + suc (suc n)) m ∷ l) (down_last n p m ∙ ap (λ q. passes_down (suc n) q m) (sym k))

-- what is charged, by whether the unit is met
paid_met : (test : ℕ → Bool) (s : List ℕ) (p n : ℕ) (xs : List Attempt) → met_at test s p ≡ true → run_paid test s p (suc n) xs ≡ charge 1 (run_paid test s (p + 1) n xs)
paid_met test s p n xs e = ap (λ (b : Bool). elim b as (λ _. List Attempt) [ true ↦ charge 1 (run_paid test s (p + 1) n xs) | false ↦ failed 1 ∷ xs ]) e

paid_not : (test : ℕ → Bool) (s : List ℕ) (p n : ℕ) (xs : List Attempt) → met_at test s p ≡ false → run_paid test s p (suc n) xs ≡ failed 1 ∷ xs
paid_not test s p n xs e = ap (λ (b : Bool). elim b as (λ _. List Attempt) [ true ↦ charge 1 (run_paid test s (p + 1) n xs) | false ↦ failed 1 ∷ xs ]) e

pub run_met : (test : ℕ → Bool) (s : List ℕ) (p n : ℕ) → met_at test s p ≡ true → run_of test s p (suc n) ≡ suc (run_of test s (p + 1) n)
run_met test s p n e = ap (λ (b : Bool). elim b as (λ _. ℕ) [ true ↦ suc (run_of test s (p + 1) n) | false ↦ 0 ]) e

pub run_not : (test : ℕ → Bool) (s : List ℕ) (p n : ℕ) → met_at test s p ≡ false → run_of test s p (suc n) ≡ 0
run_not test s p n e = ap (λ (b : Bool). elim b as (λ _. ℕ) [ true ↦ suc (run_of test s (p + 1) n) | false ↦ 0 ]) e

pub cost_met : (test : ℕ → Bool) (s : List ℕ) (p n : ℕ) → met_at test s p ≡ true → run_cost test s p (suc n) ≡ suc (run_cost test s (p + 1) n)
cost_met test s p n e = ap (λ (b : Bool). elim b as (λ _. ℕ) [ true ↦ suc (run_cost test s (p + 1) n) | false ↦ 1 ]) e

pub cost_not : (test : ℕ → Bool) (s : List ℕ) (p n : ℕ) → met_at test s p ≡ false → run_cost test s p (suc n) ≡ 1
cost_not test s p n e = ap (λ (b : Bool). elim b as (λ _. ℕ) [ true ↦ suc (run_cost test s (p + 1) n) | false ↦ 1 ]) e

either : {P : Type 0} (b : Bool) → (b ≡ true → P) → (b ≡ false → P) → P
either true t f = t refl
either false t f = f refl

pub run_most : (test : ℕ → Bool) (s : List ℕ) (p n : ℕ) → run_of test s p n ≤ n
run_most test s p zero = omega arith
run_most test s p (suc n) =
    either (met_at test s p)
    (λ e. omega (arith, run_met test s p n e, run_most test s (p + 1) n))
    (λ e. omega (arith, run_not test s p n e))

-- a list after a run that ended at its most has an attempt
abbrev pub Fits : (ℕ → Bool) → List ℕ → ℕ → ℕ → List Attempt → Type 0
Fits test s p n xs = run_of test s p n ≡ n → IsFull xs

fits_on : (test : ℕ → Bool) (s : List ℕ) (p n : ℕ) (xs : List Attempt) → met_at test s p ≡ true → Fits test s p (suc n) xs → Fits test s (p + 1) n xs
fits_on test s p n xs e h k = h (run_met test s p n e ∙ ap suc k)

pub paid_full : (test : ℕ → Bool) (s : List ℕ) (p n : ℕ) (xs : List Attempt) → Fits test s p n xs → IsFull (run_paid test s p n xs)
paid_full test s p zero xs h = h refl
paid_full test s p (suc n) xs h =
    either (met_at test s p)
    (λ e. subst IsFull (sym (paid_met test s p n xs e)) (charge_full 1 (run_paid test s (p + 1) n xs) (paid_full test s (p + 1) n xs (fits_on test s p n xs e h))))
    (λ e. subst IsFull (sym (paid_not test s p n xs e)) tt)

paid_append : (test : ℕ → Bool) (s : List ℕ) (p n : ℕ) (xs ys : List Attempt) → Fits test s p n xs → run_paid test s p n xs ++ ys ≡ run_paid test s p n (xs ++ ys)
paid_append test s p zero xs ys h = refl
paid_append test s p (suc n) xs ys h =
    either (met_at test s p)
    (λ e. ap (λ l. l ++ ys) (paid_met test s p n xs e)
    ∙ sym (charge_append 1 (run_paid test s (p + 1) n xs) ys (paid_full test s (p + 1) n xs (fits_on test s p n xs e h)))
    ∙ ap (charge 1) (paid_append test s (p + 1) n xs ys (fits_on test s p n xs e h))
    ∙ sym (paid_met test s p n (xs ++ ys) e))
    (λ e. ap (λ l. l ++ ys) (paid_not test s p n xs e) ∙ sym (paid_not test s p n (xs ++ ys) e))

-- the optional iterations
past_next : (p : ℕ) → is_past (Some p) (p + 1) ≡ true
past_next p = lt-ltb p (p + 1) (omega arith)

taken : (body : Next) (j : ℕ) (q : Option ℕ) (p : ℕ) (m : Marks) → is_past q p ≡ true → optional body true (suc j) q p m ≡ after (body p m) (optional body true j (Some p)) ++ stay p m
taken body j q p m e = ap (λ (b : Bool). elim b as (λ _. List Attempt) [ true ↦ in_turn true (after (body p m) (optional body true j (Some p))) (stay p m) | false ↦ stay p m ]) e

pub down_full : (n p : ℕ) (m : Marks) → IsFull (passes_down n p m)
down_full zero p m = tt
down_full (suc n) p m = tt

down_zero : (p : ℕ) (m : Marks) → stay p m ≡ passes_down 0 (p + 0) m
down_zero p m = let e : p ≡ p + 0 = omega arith in ap (λ q. stay q m) e

pub optional_run : (test : ℕ → Bool) (s : List ℕ) (body : Next) (j : ℕ) (q : Option ℕ) (p : ℕ) (m : Marks) → IsUnit test s body → is_past q p ≡ true
    → optional body true j q p m ≡ run_paid test s p j (passes_down (run_of test s p j) (p + run_of test s p j) m)
optional_run test s body zero q p m b h = down_zero p m
optional_run test s body (suc j) q p m b h =
    taken body j q p m h
    ∙ either (met_at test s p)
    (λ e.
    let n = run_of test s (p + 1) j in
    ap (λ l. after l (optional body true j (Some p)) ++ stay p m) (b p m ∙ ap (λ x. attempt x 1 (p + 1) m) e)
    ∙ ap (λ l. l ++ stay p m) (append-nil (charge 1 (optional body true j (Some p) (p + 1) m)) ∙ ap (charge 1) (optional_run test s body j (Some p) (p + 1) m b (past_next p)))
    ∙ sym (charge_append 1 (run_paid test s (p + 1) j (passes_down n (p + 1 + n) m)) (stay p m) (paid_full test s (p + 1) j (passes_down n (p + 1 + n) m) (λ _. down_full n (p + 1 + n) m)))
    ∙ ap (charge 1) (paid_append test s (p + 1) j (passes_down n (p + 1 + n) m) (stay p m) (λ _. down_full n (p + 1 + n) m) ∙ ap (run_paid test s (p + 1) j) (down_last n p m))
    ∙ sym (paid_met test s p j (passes_down (suc n) (p + suc n) m) e)
    ∙ ap (λ k. run_paid test s p (suc j) (passes_down k (p + k) m)) (sym (run_met test s p j e)))
    (λ e.
    ap (λ l. after l (optional body true j (Some p)) ++ stay p m) (b p m ∙ ap (λ x. attempt x 1 (p + 1) m) e)
    ∙ ap (λ l. failed 1 ∷ l) (down_zero p m)
    ∙ sym (paid_not test s p j (passes_down 0 (p + 0) m) e)
    ∙ ap (λ k. run_paid test s p (suc j) (passes_down k (p + k) m)) (sym (run_not test s p j e)))

-- the mandatory ones and the optional ones
pub repeat_long : (test : ℕ → Bool) (s : List ℕ) (body : Next) (k j most p : ℕ) (m : Marks) → IsUnit test s body → most ≡ k + j → k ≤ run_of test s p most
    → repeat_paths body true k j p m ≡ run_paid test s p most (passes_down (run_of test s p most - k) (p + run_of test s p most) m)
repeat_long test s body zero j most p m b e h =
    let z : most ≡ j = omega (arith, e) in
    optional_run test s body j None p m b refl
    ∙ ap (λ i. run_paid test s p i (passes_down (run_of test s p i) (p + run_of test s p i) m)) (sym z)
    ∙ ap (λ i. run_paid test s p most (passes_down i (p + run_of test s p most) m)) (minus_zero (run_of test s p most))
repeat_long test s body (suc k) j zero p m b e h = let f : ⊥ = omega (arith, e) in absurd f
repeat_long test s body (suc k) j (suc most) p m b e h =
    either (met_at test s p)
    (λ met.
    let n = run_of test s (p + 1) most in
    let r : run_of test s p (suc most) ≡ suc n = run_met test s p most met in
    let less : n - k ≡ suc n - suc k = omega arith in
    let place : p + 1 + n ≡ p + suc n = omega arith in
    ap (λ l. after l (repeat_paths body true k j)) (b p m ∙ ap (λ x. attempt x 1 (p + 1) m) met)
    ∙ append-nil (charge 1 (repeat_paths body true k j (p + 1) m))
    ∙ ap (charge 1) (repeat_long test s body k j most (p + 1) m b (omega (arith, e)) (omega (arith, h, r)))
    ∙ sym (paid_met test s p most (passes_down (n - k) (p + 1 + n) m) met)
    ∙ ap (run_paid test s p (suc most)) ((λ i. passes_down (less i) (place i) m) ∙ ap (λ x. passes_down (x - suc k) (p + x) m) (sym r)))
    (λ met. let f : ⊥ = omega (arith, h, run_not test s p most met) in absurd f)

pub repeat_short : (test : ℕ → Bool) (s : List ℕ) (body : Next) (k j most p : ℕ) (m : Marks) → IsUnit test s body → most ≡ k + j → run_of test s p most < k
    → repeat_paths body true k j p m ≡ run_paid test s p most []
repeat_short test s body zero j most p m b e h = let f : ⊥ = omega (arith, h) in absurd f
repeat_short test s body (suc k) j zero p m b e h = let f : ⊥ = omega (arith, e) in absurd f
repeat_short test s body (suc k) j (suc most) p m b e h =
    either (met_at test s p)
    (λ met.
    ap (λ l. after l (repeat_paths body true k j)) (b p m ∙ ap (λ x. attempt x 1 (p + 1) m) met)
    ∙ append-nil (charge 1 (repeat_paths body true k j (p + 1) m))
    ∙ ap (charge 1) (repeat_short test s body k j most (p + 1) m b (omega (arith, e)) (omega (arith, h, run_met test s p most met)))
    ∙ sym (paid_met test s p most [] met))
    (λ met.
    ap (λ l. after l (repeat_paths body true k j)) (b p m ∙ ap (λ x. attempt x 1 (p + 1) m) met)
    ∙ sym (paid_not test s p most [] met))

-- before what follows
after_paid : (test : ℕ → Bool) (s : List ℕ) (p n : ℕ) (xs : List Attempt) (f : Next) → IsTotal f → after (run_paid test s p n xs) f ≡ run_paid test s p n (after xs f)
after_paid test s p zero xs f t = refl
after_paid test s p (suc n) xs f t =
    either (met_at test s p)
    (λ e. ap (λ l. after l f) (paid_met test s p n xs e)
    ∙ after-charge 1 (run_paid test s (p + 1) n xs) f t
    ∙ ap (charge 1) (after_paid test s (p + 1) n xs f t)
    ∙ sym (paid_met test s p n (after xs f) e))
    (λ e. ap (λ l. after l f) (paid_not test s p n xs e) ∙ sym (paid_not test s p n (after xs f) e))

pub cut_paid : (test : ℕ → Bool) (s : List ℕ) (p n : ℕ) (xs : List Attempt) → cut (run_paid test s p n xs) ≡ run_paid test s p n (cut xs)
cut_paid test s p zero xs = refl
cut_paid test s p (suc n) xs =
    either (met_at test s p)
    (λ e. ap cut (paid_met test s p n xs e)
    ∙ cut_charge 1 (run_paid test s (p + 1) n xs)
    ∙ ap (charge 1) (cut_paid test s (p + 1) n xs)
    ∙ sym (paid_met test s p n (cut xs) e))
    (λ e. ap cut (paid_not test s p n xs e) ∙ sym (paid_not test s p n (cut xs) e))

-- and before the choices: the run has cost what it has read
paid_chosen : (ok : ℕ → Bool) (test : ℕ → Bool) (s : List ℕ) (p n : ℕ) (xs : List Attempt) → chosen ok (run_paid test s p n xs) ≡ chosen ok xs
paid_chosen ok test s p zero xs = refl
paid_chosen ok test s p (suc n) xs =
    either (met_at test s p)
    (λ e. ap (chosen ok) (paid_met test s p n xs e) ∙ chosen-charge ok 1 (run_paid test s (p + 1) n xs) ∙ paid_chosen ok test s (p + 1) n xs)
    (λ e. ap (chosen ok) (paid_not test s p n xs e))

paid_cost : (ok : ℕ → Bool) (test : ℕ → Bool) (s : List ℕ) (p n : ℕ) (xs : List Attempt) → Fits test s p n xs → cost_of ok (run_paid test s p n xs) ≡ run_cost test s p n + cost_of ok xs
paid_cost ok test s p zero xs h = omega arith
paid_cost ok test s p (suc n) xs h =
    either (met_at test s p)
    (λ e.
    let more = fits_on test s p n xs e h in
    omega (arith, ap (cost_of ok) (paid_met test s p n xs e), cost_charge ok 1 (run_paid test s (p + 1) n xs) (paid_full test s (p + 1) n xs more), paid_cost ok test s (p + 1) n xs more, cost_met test s p n e))
    (λ e. omega (arith, ap (cost_of ok) (paid_not test s p n xs e), cost_not test s p n e))

try_paid : (t : Trail) (test : ℕ → Bool) (s : List ℕ) (p n : ℕ) (xs : List Attempt) → Fits test s p n xs → to_try s t (run_paid test s p n xs) ≡ run_paid test s p n (to_try s t xs)
try_paid t test s p zero xs h = refl
try_paid t test s p (suc n) xs h =
    either (met_at test s p)
    (λ e.
    let more = fits_on test s p n xs e h in
    ap (to_try s t) (paid_met test s p n xs e)
    ∙ (to_try_charge s t 1 (run_paid test s (p + 1) n xs) (paid_full test s (p + 1) n xs more)).0
    ∙ ap (charge 1) (try_paid t test s (p + 1) n xs more)
    ∙ sym (paid_met test s p n (to_try s t xs) e))
    (λ e.
    ap (to_try s t) (paid_not test s p n xs e)
    ∙ pile_fail s t.frames.items (captures t.marks.items) t.choices.items 1 xs
    ∙ sym (paid_not test s p n (to_try s t xs) e))

-- what a run leaves
pub leaves_run : (t : Trail) (test : ℕ → Bool) (s : List ℕ) (p n old new : ℕ) (xs : List Attempt) (f : Next) → IsTotal f → Fits test s p n xs → new ≤ old + run_cost test s p n
    → Leaves old new (to_try s t (after (run_paid test s p n xs) f)) (to_try s t (after xs f))
leaves_run t test s p n old new xs f k h c ok =
    let fit : Fits test s p n (after xs f) = λ e. after_full xs f (h e) k in
    let whole : Fits test s p n (to_try s t (after xs f)) = λ e. (to_try_charge s t 0 (after xs f) (fit e)).1 in
    let same = ap (to_try s t) (after_paid test s p n xs f k) ∙ try_paid t test s p n (after xs f) fit in
    record {
      same = ap (chosen ok) same ∙ paid_chosen ok test s p n (to_try s t (after xs f));
      cost = omega (arith, c, ap (cost_of ok) same, paid_cost ok test s p n (to_try s t (after xs f)) whole);
    }

-- one unit of a run, from the n-th on
pub run_on : (test : ℕ → Bool) (s : List ℕ) (p most n : ℕ) → n < most → met_at test s (p + n) ≡ true
    → (run_of test s (p + n) (most - n) ≡ suc (run_of test s (p + (n + 1)) (most - (n + 1)))) × (run_cost test s (p + n) (most - n) ≡ suc (run_cost test s (p + (n + 1)) (most - (n + 1))))
run_on test s p most n h e =
    let k : most - n ≡ suc (most - (n + 1)) = omega (arith, h) in
    let q : p + n + 1 ≡ p + (n + 1) = omega arith in (
      ap (run_of test s (p + n)) k ∙ run_met test s (p + n) (most - (n + 1)) e ∙ ap (λ x. suc (run_of test s x (most - (n + 1)))) q,
      ap (run_cost test s (p + n)) k ∙ cost_met test s (p + n) (most - (n + 1)) e ∙ ap (λ x. suc (run_cost test s x (most - (n + 1)))) q,
    )

-- and one that ends it
pub run_ends : (test : ℕ → Bool) (s : List ℕ) (p most n : ℕ) → n < most → met_at test s (p + n) ≡ false → (run_of test s (p + n) (most - n) ≡ 0) × (run_cost test s (p + n) (most - n) ≡ 1)
run_ends test s p most n h e =
    let k : most - n ≡ suc (most - (n + 1)) = omega (arith, h) in
    (ap (run_of test s (p + n)) k ∙ run_not test s (p + n) (most - (n + 1)) e, ap (run_cost test s (p + n)) k ∙ cost_not test s (p + n) (most - (n + 1)) e)

-- the first end of those further and further down
pub down_cut : (n p : ℕ) (m : Marks) → cut (passes_down n p m) ≡ stay p m
down_cut zero p m = refl
down_cut (suc n) p m = refl

-- a body that is one unit
pub unit_body : (b : PlainTree) (n : PlainNode) (s : List ℕ) → b ≡ n then nothing → is_single n ≡ true → IsUnit (meets n) s (paths b s)
unit_body b n s e h p m = ap (λ x. paths x s p m) e ∙ after_stay (node_paths n s p m) ∙ single_paths n s p m h

-- one more iteration that is met
pub once_met : (t : Trail) (s : List ℕ) (body more f : Next) (test : ℕ → Bool) (p old new : ℕ) (m : Marks) → IsUnit test s body → IsTotal more → IsTotal f → met_at test s p ≡ true → new ≤ old + 1
    → Leaves old new (to_try s t (after (after (body p m) more) f)) (to_try s t (after (more (p + 1) m) f))
once_met t s body more f test p old new m b k h e l =
    let ys = after (more (p + 1) m) f in
    let full = after_full (more (p + 1) m) f (k (p + 1) m) h in
    let out = to_try_charge s t 1 ys full in
    leaves_charge old new 1 _ _ l out.1
    (ap (λ xs. to_try s t (after (after xs more) f)) (b p m ∙ ap (λ x. attempt x 1 (p + 1) m) e)
    ∙ ap (λ xs. to_try s t (after xs f)) (append-nil (charge 1 (more (p + 1) m)))
    ∙ ap (to_try s t) (after-charge 1 (more (p + 1) m) f h)
    ∙ out.0)
