-- The places of a text, taken one after another.
use Rattle.std.proofs.Common.{◌≡◌, ℕ, ◌+◌, ◌-◌, ◌<◌, ◌≤◌, ◌⊎◌, inl, inr, max, true, false, nat_le, List, [], ◌∷◌, ◌++◌, map, length, take, drop, suc, zero, refl, ap, sym, ◌∙◌, arith, length-append, length-drop, subst, Option, Some, None, option_map, append_assoc, ℤ}
use Rattle.std.proofs.lemmas.List.{take-append-drop, length-map, length-take-le}
use Rattle.std.proofs.lemmas.Bool.Decides.{nat_tests}
use Rattle.py_text.specs.Occurrences.{occurs_at, first_in, occurrences, IsAround}
use Rattle.py_text.specs.Search.{count}
use Rattle.py_text.specs.Window.{window_start, window_end}
use Rattle.py_text.proofs.OccursLemmas.{occurs_true, least_is}
use Rattle.py_text.proofs.WindowLemmas.{Inside, IsWindow, window_inside, first_inside, first_shift, first_outside, first_means, too_early, whole}

pub cuts_some : (k : ℕ) (x L : List ℕ) (b e a : ℕ) → first_in x L b e ≡ Some a → occurrences (suc k) x L b e ≡ a ∷ occurrences k x L (a + max 1 (length x)) e
cuts_some k x L b e a h = ap (λ (o : Option ℕ). elim o as (λ _. List ℕ) [ None ↦ [] | Some a ↦ a ∷ occurrences k x L (a + max 1 (length x)) e ]) h

pub cuts_none : (k : ℕ) (x L : List ℕ) (b e : ℕ) → first_in x L b e ≡ None → occurrences k x L b e ≡ []
cuts_none zero x L b e h = refl
cuts_none (suc k) x L b e h = ap (λ (o : Option ℕ). elim o as (λ _. List ℕ) [ None ↦ [] | Some a ↦ a ∷ occurrences k x L (a + max 1 (length x)) e ]) h

-- what is after a place in a part is a part
pub inside_drop : (L W : List ℕ) (b e n : ℕ) → Inside L W b e → n ≤ length W → Inside L (drop n W) (b + n) e
inside_drop L W b e n i h = record {
  before = i.before ++ take n W;
  after = i.after;
  parts = i.parts ∙ ap (λ r. i.before ++ r) (ap (λ r. r ++ i.after) (sym (take-append-drop n W)) ∙ append_assoc (take n W) (drop n W) i.after) ∙ sym (append_assoc i.before (take n W) (drop n W ++ i.after));
  begins = omega (arith, length-append i.before (take n W), length-take-le n W h, i.begins);
  ends = omega (arith, length-drop n W, i.ends);
}

inside_case : (k : ℕ) (x L W : List ℕ) (b e p : ℕ) (o : Option ℕ) → Inside L W b e → first_in x W p (length W) ≡ o → ((q : ℕ) → occurrences k x L (b + q) e ≡ map (λ a. b + a) (occurrences k x W q (length W))) → occurrences (suc k) x L (b + p) e ≡ map (λ a. b + a) (occurrences (suc k) x W p (length W))
inside_case k x L W b e p None i h more =
    cuts_none (suc k) x L (b + p) e (first_shift x L W b e p i ∙ ap (λ o. option_map (λ a. b + a) o) h) ∙ ap (map (λ a. b + a)) (sym (cuts_none (suc k) x W p (length W) h))
inside_case k x L W b e p (Some a) i h more =
    let on : b + a + max 1 (length x) ≡ b + (a + max 1 (length x)) = omega arith in
    cuts_some k x L (b + p) e (b + a) (first_shift x L W b e p i ∙ ap (λ o. option_map (λ a. b + a) o) h)
    ∙ ap (λ r. (b + a) ∷ r) (ap (λ q. occurrences k x L q e) on ∙ more (a + max 1 (length x)))
    ∙ ap (map (λ a. b + a)) (sym (cuts_some k x W p (length W) a h))

-- the places in a part, counted from where it begins
pub cuts_inside : (k : ℕ) (x L W : List ℕ) (b e p : ℕ) → Inside L W b e → occurrences k x L (b + p) e ≡ map (λ a. b + a) (occurrences k x W p (length W))
cuts_inside zero x L W b e p i = refl
cuts_inside (suc k) x L W b e p i = inside_case k x L W b e p (first_in x W p (length W)) i refl (λ q. cuts_inside k x L W b e q i)

pub max_one : (n : ℕ) → 0 < n → max 1 n ≡ n
max_one n h = omega arith

-- of the first k places of x in W, those before rest were counted
pub record Counted (x W rest : List ℕ) (k parts : ℕ) : Type 0 where
  pub place : ℕ
  pub left : ℕ
  pub here : Inside W rest place (length W)
  pub so_far : parts + length (occurrences left x W place (length W)) ≡ length (occurrences k x W 0 (length W))
  pub fuel : parts + left ≡ k
  pub few : parts ≤ place

pub counted_none : (x W : List ℕ) (k : ℕ) → Counted x W W k 0
counted_none x W k = record { place = 0; left = k; here = whole W; so_far = omega arith; fuel = omega arith; few = omega arith }

pub place_inside : (L W : List ℕ) (b e : ℕ) → Inside L W b e → b + length W ≤ length L
place_inside L W b e i = omega (arith, i.begins, ap length i.parts, length-append i.before (W ++ i.after), length-append W i.after)

less_one : (n m : ℕ) → m < n → (k : ℕ) × (n ≡ suc k)
less_one zero m h = absurd (omega arith)
less_one (suc n) m h = (n, refl)

pub counted_more : (x W rest front back : List ℕ) (k parts : ℕ) → 0 < length x → length W < k → Counted x W rest k parts → IsAround x rest (first_in x rest 0 (length rest)) front back → Counted x W back k (parts + 1)
counted_more x W rest front back k parts some lt c cut =
    let m = less_one c.left 0 (omega (arith, c.fuel, c.few, place_inside W rest c.place (length W) c.here)) in
    let found : first_in x W c.place (length W) ≡ Some (c.place + cut.0) = first_inside x W rest c.place (length W) c.here ∙ ap (λ o. option_map (λ a. c.place + a) o) cut.1 in
    let fits : cut.0 + length x ≤ length rest = (first_means x rest 0 (length rest) cut.0 cut.1).to in
    let on : c.place + cut.0 + max 1 (length x) ≡ c.place + (cut.0 + length x) = omega (arith, max_one (length x) some) in
    let one : occurrences c.left x W c.place (length W) ≡ (c.place + cut.0) ∷ occurrences m.0 x W (c.place + (cut.0 + length x)) (length W) =
    ap (λ n. occurrences n x W c.place (length W)) m.1 ∙ cuts_some m.0 x W c.place (length W) (c.place + cut.0) found ∙ ap (λ q. (c.place + cut.0) ∷ occurrences m.0 x W q (length W)) on in
    record {
      place = c.place + (cut.0 + length x);
      left = m.0;
      here = subst (λ (l : List ℕ). Inside W l (c.place + (cut.0 + length x)) (length W)) (sym cut.3) (inside_drop W rest c.place (length W) (cut.0 + length x) c.here fits);
      so_far = omega (arith, c.so_far, ap length one);
      fuel = omega (arith, c.fuel, m.1);
      few = omega (arith, c.few);
    }

pub counted_all : (x W rest : List ℕ) (k parts : ℕ) → Counted x W rest k parts → first_in x rest 0 (length rest) ≡ None → parts ≡ length (occurrences k x W 0 (length W))
counted_all x W rest k parts c h =
    let none : occurrences c.left x W c.place (length W) ≡ [] = cuts_none c.left x W c.place (length W) (first_inside x W rest c.place (length W) c.here ∙ ap (λ o. option_map (λ a. c.place + a) o) h) in
    omega (arith, c.so_far, ap length none)

pub cut_shorter : (x rest front back : List ℕ) → 0 < length x → IsAround x rest (first_in x rest 0 (length rest)) front back → length back < length rest
cut_shorter x rest front back some cut =
    let fits : cut.0 + length x ≤ length rest = (first_means x rest 0 (length rest) cut.0 cut.1).to in
    omega (arith, ap length cut.3, length-drop (cut.0 + length x) rest)

-- an empty text occurs at each place
pub empty_first : (L : List ℕ) (b e : ℕ) → b ≤ e → first_in [] L b e ≡ Some b
empty_first L b e h = least_is (occurs_at [] L b e) (suc e) b (omega arith) (occurs_true [] L b e b (omega arith) (omega arith) (drop b L, refl)) (λ c k. too_early [] L b e c k)

empty_case : (k : ℕ) (L : List ℕ) (b e : ℕ) → (b ≤ e) ⊎ (e < b) → suc e ≤ b + suc k → b ≤ suc e → (suc e ≤ b + 1 + k → b + 1 ≤ suc e → length (occurrences k [] L (b + 1) e) ≡ suc e - (b + 1)) → length (occurrences (suc k) [] L b e) ≡ suc e - b
empty_case k L b e (inl h) enough start more = omega (arith, ap length (cuts_some k [] L b e b (empty_first L b e h)), more (omega arith) (omega arith))
empty_case k L b e (inr h) enough start more = omega (arith, ap length (cuts_none (suc k) [] L b e (first_outside [] L b e h)))

le_or_lt : (a b : ℕ) → (a ≤ b) ⊎ (b < a)
le_or_lt a b = elim (nat_le a b) as (λ t. nat_le a b ≡ t → (a ≤ b) ⊎ (b < a)) [ true ↦ λ e. inl (grind (arith, nat_tests)) | false ↦ λ e. inr (grind (arith, nat_tests)) ] refl

pub empty_count : (k : ℕ) (L : List ℕ) (b e : ℕ) → suc e ≤ b + k → b ≤ suc e → length (occurrences k [] L b e) ≡ suc e - b
empty_count zero L b e enough start = omega arith
empty_count (suc k) L b e enough start = empty_case k L b e (le_or_lt b e) enough start (λ h g. empty_count k L (b + 1) e h g)

-- the count of a window
pub window_count : (x y L part : List ℕ) (start end : Option ℤ) (from to r : ℕ) → IsWindow L part start end from to → y ≡ x → ((k : ℕ) → length part < k → r ≡ length (occurrences k y part 0 (length part))) → r ≡ count x L start end
window_count x y L part start end from to r w n f =
    let i = window_inside L part start end from to w in
    let zero_more : window_start (length L) start + 0 ≡ window_start (length L) start = omega arith in
    f (suc (length L)) (omega (arith, place_inside L part (window_start (length L) start) (window_end (length L) end) i))
    ∙ ap (λ l. length (occurrences (suc (length L)) l part 0 (length part))) n
    ∙ sym (ap (λ b. length (occurrences (suc (length L)) x L b (window_end (length L) end))) (sym zero_more) ∙ ap length (cuts_inside (suc (length L)) x L part (window_start (length L) start) (window_end (length L) end) 0 i)
    ∙ length-map (occurrences (suc (length L)) x part 0 (length part)) (λ a. window_start (length L) start + a))

pub window_count_empty : (x L part : List ℕ) (start end : Option ℤ) (from to : ℕ) → IsWindow L part start end from to → x ≡ [] → to - from + 1 ≡ count x L start end
window_count_empty x L part start end from to w n =
    let few : window_end (length L) end ≤ length L = omega (arith, w.to_is, w.fits) in
    let order : window_start (length L) start ≤ window_end (length L) end = omega (arith, w.from_is, w.to_is, w.order) in
    let all : length (occurrences (suc (length L)) [] L (window_start (length L) start) (window_end (length L) end)) ≡ suc (window_end (length L) end) - window_start (length L) start =
    empty_count (suc (length L)) L (window_start (length L) start) (window_end (length L) end) (omega (arith, few)) (omega (arith, order)) in
    let this : to - from + 1 ≡ suc (window_end (length L) end) - window_start (length L) start = omega (arith, w.from_is, w.to_is, order) in
    this ∙ sym all ∙ ap (λ l. length (occurrences (suc (length L)) l L (window_start (length L) start) (window_end (length L) end))) (sym n)

pub window_count_none : (x L : List ℕ) (start end : Option ℤ) → window_end (length L) end < window_start (length L) start → 0 ≡ count x L start end
window_count_none x L start end h = sym (ap length (cuts_none (suc (length L)) x L (window_start (length L) start) (window_end (length L) end) (first_outside x L _ _ h)))
