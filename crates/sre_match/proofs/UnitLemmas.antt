-- What the program reads of a subject.
use Rattle.std.proofs.Common.{◌≡◌, refl, sym, ap, ◌∙◌, ℕ, zero, suc, ◌+◌, ◌-◌, ◌<◌, ◌≤◌, Bool, true, false, List, [], ◌∷◌, length, arith}
use Rattle.std.specs.Prelude.{Some, None, slice_get, slice_index, slice_range, nat_eq, ◌&&◌}
use Rattle.std.specs.List.{starts_with}
use Rattle.std.proofs.lemmas.List.{drop_more, length-drop}
use Rattle.std.proofs.Common.{take, drop, get_or, length-take}
use Rattle.std.proofs.lemmas.Bool.{eq-eqb, ne_eqb}
use Rattle.sre_match.proofs.EndLemmas.{starts_inside}
use Rattle.sre_match.specs.Anchors.{is_met, met_at, met_before}

pub get_there : (xs : List ℕ) (i : ℕ) → i < length xs → Some (slice_index xs i) ≡ slice_get xs i
get_there [] i h = let f : ⊥ = omega (arith, h) in absurd f
get_there (x ∷ xs) zero h = refl
get_there (x ∷ xs) (suc i) h = get_there xs i (omega (arith, h))

pub get_past : (xs : List ℕ) (i : ℕ) → length xs ≤ i → None ≡ slice_get xs i
get_past [] i h = refl
get_past (x ∷ xs) zero h = let f : ⊥ = omega (arith, h) in absurd f
get_past (x ∷ xs) (suc i) h = get_past xs i (omega (arith, h))

pub before_one : (test : ℕ → Bool) (s : List ℕ) (p : ℕ) → 0 < p → met_before test s p ≡ met_at test s (p - 1)
before_one test s zero h = let f : ⊥ = omega (arith, h) in absurd f
before_one test s (suc p) h = let e : p ≡ suc p - 1 = omega arith in ap (met_at test s) e

-- a unit that is there, and one that is not
pub met_by : (test : ℕ → Bool) (s : List ℕ) (p c : ℕ) (b : Bool) → Some c ≡ slice_get s p → b ≡ test c → met_at test s p ≡ b
met_by test s p c b h e = ap (is_met test) (sym h) ∙ sym e

pub not_met : (test : ℕ → Bool) (s : List ℕ) (p : ℕ) → None ≡ slice_get s p → met_at test s p ≡ false
not_met test s p h = ap (is_met test) (sym h)

-- texts that are at a place
not_true : (b : Bool) → (b ≡ true → ⊥) → b ≡ false
not_true true h = absurd (h refl)
not_true false h = refl

cons_test : (b d : Bool) → b ≡ true → b && d ≡ d
cons_test b d e = ap (λ x. x && d) e

cons_fails : (b d : Bool) → b ≡ false → b && d ≡ false
cons_fails b d e = ap (λ x. x && d) e

range_more : (u : List ℕ) (a stop : ℕ) → a < stop → stop ≤ length u → slice_range u a stop ≡ get_or u a 0 ∷ slice_range u (a + 1) stop
range_more u a stop h l =
    let k : stop - a ≡ suc (stop - (a + 1)) = omega (arith, h) in
    ap (λ n. take n (drop a u)) k ∙ ap (take (suc (stop - (a + 1)))) (drop_more u a 0 (omega (arith, h, l)))

pub starts_more : (u : List ℕ) (a b stop : ℕ) → a < stop → stop ≤ length u → b < length u → slice_index u a ≡ slice_index u b
    → starts_with nat_eq (drop b u) (slice_range u a stop) ≡ starts_with nat_eq (drop (b + 1) u) (slice_range u (a + 1) stop)
starts_more u a b stop h l k e =
    (λ i. starts_with nat_eq (drop_more u b 0 k i) (range_more u a stop h l i))
    ∙ cons_test (nat_eq (get_or u a 0) (get_or u b 0)) (starts_with nat_eq (drop (b + 1) u) (slice_range u (a + 1) stop)) (eq-eqb (get_or u a 0) (get_or u b 0) e)

pub starts_differ : (u : List ℕ) (a b stop : ℕ) → a < stop → stop ≤ length u → b < length u → (slice_index u a ≡ slice_index u b → ⊥)
    → starts_with nat_eq (drop b u) (slice_range u a stop) ≡ false
starts_differ u a b stop h l k e =
    (λ i. starts_with nat_eq (drop_more u b 0 k i) (range_more u a stop h l i))
    ∙ cons_fails (nat_eq (get_or u a 0) (get_or u b 0)) (starts_with nat_eq (drop (b + 1) u) (slice_range u (a + 1) stop)) (ne_eqb (get_or u a 0) (get_or u b 0) e)

pub range_length : (u : List ℕ) (a stop : ℕ) → stop ≤ length u → length (slice_range u a stop) ≡ stop - a
range_length u a stop l = omega (arith, length-take (stop - a) (drop a u), length-drop a u)

pub starts_past : (u : List ℕ) (a b stop : ℕ) → a < stop → stop ≤ length u → length u ≤ b → starts_with nat_eq (drop b u) (slice_range u a stop) ≡ false
starts_past u a b stop h l k =
    not_true (starts_with nat_eq (drop b u) (slice_range u a stop)) (λ e. let f : ⊥ = omega (arith, starts_inside (drop b u) (slice_range u a stop) e, range_length u a stop l, length-drop b u, h, k) in f)

pub starts_done : (u : List ℕ) (a b stop : ℕ) → stop ≤ a → starts_with nat_eq (drop b u) (slice_range u a stop) ≡ true
starts_done u a b stop h = let e : stop - a ≡ 0 = omega (arith, h) in ap (λ n. starts_with nat_eq (drop b u) (take n (drop a u))) e

take_past : {X : Type 0} (n k : ℕ) (xs : List X) → length xs ≤ n → length xs ≤ k → take n xs ≡ take k xs
take_past zero zero xs h l = refl
take_past zero (suc k) [] h l = refl
take_past (suc n) zero [] h l = refl
take_past (suc n) (suc k) [] h l = refl
take_past zero (suc k) (x ∷ xs) h l = let f : ⊥ = omega (arith, h) in absurd f
take_past (suc n) zero (x ∷ xs) h l = let f : ⊥ = omega (arith, l) in absurd f
take_past (suc n) (suc k) (x ∷ xs) h l = ap (λ ys. x ∷ ys) (take_past n k xs (omega (arith, h)) (omega (arith, l)))

-- a span's end past the subject's is the subject's
pub slice_clipped : (s : List ℕ) (a b k : ℕ) → length s ≤ b → k ≡ length s → slice_range s a b ≡ slice_range s a k
slice_clipped s a b k h e = take_past (b - a) (k - a) (drop a s) (omega (arith, h, length-drop a s)) (omega (arith, e, length-drop a s))
