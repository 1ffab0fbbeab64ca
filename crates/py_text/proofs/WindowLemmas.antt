-- Searches in a part of a text, and in the whole of that part.
use Rattle.std.proofs.Common.{◌≡◌, ℕ, ◌+◌, ◌-◌, ◌<◌, ◌≤◌, ◌&&◌, Bool, true, false, nat_eq, nat_le, nat_lt, ℤ, if◌then◌else◌, List, [], ◌∷◌, ◌++◌, length, take, drop, slice_range, suc, zero, refl, ap, sym, ◌∙◌, arith, length-drop, subst, Option, Some, None, option_map, add-zero, add-suc}
use Rattle.std.proofs.Math.Seq.{drop-append-add}
use Rattle.std.proofs.lemmas.List.{take-append-drop, length-take-le, drop-append-le, take-append-le}
use Rattle.std.proofs.lemmas.Bool.Decides.{nat_tests}
use Rattle.std.specs.List.{starts_with}
use Rattle.std.specs.Option.{option_or}
use Rattle.std.specs.Cmp.Lexicographic.{pointwise}
use Rattle.py_text.specs.Occurrences.{occurs_at, least, greatest, first_in, last_in}
use Rattle.py_text.specs.Search.{find, rfind}
use Rattle.py_text.specs.Window.{window_start, window_end}
use Rattle.py_text.specs.Text.{all_ascii}
use Rattle.py_text.proofs.OccursLemmas.{OccursAt, occurs_means, least_none, greatest_none}

-- W is the part of L from b to e
pub record Inside (L W : List ℕ) (b e : ℕ) : Type 0 where
  pub before : List ℕ
  pub after : List ℕ
  pub parts : L ≡ before ++ (W ++ after)
  pub begins : length before ≡ b
  pub ends : b + length W ≡ e

pub whole : (L : List ℕ) → Inside L L 0 (length L)
whole L = record { before = []; after = []; parts = sym (append_nil L); begins = refl; ends = omega arith } where
  append_nil : (l : List ℕ) → l ++ [] ≡ l
  append_nil [] = refl
  append_nil (c ∷ cs) = ap (λ r. c ∷ r) (append_nil cs)

pub slice_inside : (L : List ℕ) (b e : ℕ) → b ≤ e → e ≤ length L → Inside L (slice_range L b e) b e
slice_inside L b e h k = record {
  before = take b L;
  after = drop (e - b) (drop b L);
  parts = sym (ap (λ r. take b L ++ r) (take-append-drop (e - b) (drop b L)) ∙ take-append-drop b L);
  begins = length-take-le b L (omega arith);
  ends = omega (arith, length-take-le (e - b) (drop b L) (omega (arith, length-drop b L)));
}

three_same : (p q r s t u : Bool) → p ≡ s → q ≡ t → (t ≡ true → r ≡ u) → (p && q && r) ≡ (s && t && u)
three_same p q r true true u e f g = rw (e, f, g refl) refl
three_same p q r true false u e f g = rw (e, f) refl
three_same p q r false t u e f g = rw e refl

same_le : (a b c d : ℕ) → (a ≤ b → c ≤ d) → (c ≤ d → a ≤ b) → nat_le a b ≡ nat_le c d
same_le a b c d f g = grind (arith, nat_tests)

same_front : (x L W : List ℕ) (b e a : ℕ) → Inside L W b e → a + length x ≤ length W → take (length x) (drop (b + a) L) ≡ take (length x) (drop a W)
same_front x L W b e a i h =
    let from : drop (b + a) L ≡ drop a (W ++ i.after) = ap (λ l. drop (b + a) l) i.parts ∙ ap (λ n. drop (n + a) (i.before ++ (W ++ i.after))) (sym i.begins) ∙ drop-append-add i.before (W ++ i.after) a in
    ap (take (length x)) (from ∙ drop-append-le a W i.after (omega arith)) ∙ take-append-le (length x) (drop a W) i.after (omega (arith, length-drop a W))

pub same_test : (x L W : List ℕ) (b e p a : ℕ) → Inside L W b e → occurs_at x L (b + p) e (b + a) ≡ occurs_at x W p (length W) a
same_test x L W b e p a i =
    three_same (nat_le (b + p) (b + a)) (nat_le (b + a + length x) e) (starts_with nat_eq (drop (b + a) L) x) (nat_le p a) (nat_le (a + length x) (length W)) (starts_with nat_eq (drop a W) x)
    (same_le (b + p) (b + a) p a (λ h. omega arith) (λ h. omega arith))
    (same_le (b + a + length x) e (a + length x) (length W) (λ h. omega (arith, i.ends)) (λ h. omega (arith, i.ends)))
    (λ t. let h : a + length x ≤ length W = grind (arith, nat_tests) in ap (λ l. pointwise nat_eq x l) (same_front x L W b e a i h))

pub too_early : (x L : List ℕ) (b e c : ℕ) → c < b → occurs_at x L b e c ≡ false
too_early x L b e c h = let f : nat_le b c ≡ false = grind (arith, nat_tests) in rw f refl

or_map : (b m : ℕ) (o : Option ℕ) (t : Bool) → option_or (option_map (λ a. b + a) o) (if t then Some (b + m) else None) ≡ option_map (λ a. b + a) (option_or o (if t then Some m else None))
or_map b m None true = refl
or_map b m None false = refl
or_map b m (Some a) t = refl

if_map : (b m : ℕ) (o : Option ℕ) (t : Bool) → (if t then Some (b + m) else option_map (λ a. b + a) o) ≡ option_map (λ a. b + a) (if t then Some m else o)
if_map b m o true = refl
if_map b m o false = refl

pub least_shift : (p q : ℕ → Bool) (b m : ℕ) → ((c : ℕ) → c < b → p c ≡ false) → ((a : ℕ) → p (b + a) ≡ q a) → least p (b + m) ≡ option_map (λ a. b + a) (least q m)
least_shift p q b zero f s = ap (least p) (add-zero b) ∙ least_none p b f
least_shift p q b (suc m) f s =
    ap (least p) (add-suc b m) ∙ ap (λ o. option_or o (if p (b + m) then Some (b + m) else None)) (least_shift p q b m f s)
    ∙ ap (λ t. option_or (option_map (λ a. b + a) (least q m)) (if t then Some (b + m) else None)) (s m) ∙ or_map b m (least q m) (q m)

pub greatest_shift : (p q : ℕ → Bool) (b m : ℕ) → ((c : ℕ) → c < b → p c ≡ false) → ((a : ℕ) → p (b + a) ≡ q a) → greatest p (b + m) ≡ option_map (λ a. b + a) (greatest q m)
greatest_shift p q b zero f s = ap (greatest p) (add-zero b) ∙ greatest_none p b f
greatest_shift p q b (suc m) f s =
    ap (greatest p) (add-suc b m) ∙ ap (λ o. if p (b + m) then Some (b + m) else o) (greatest_shift p q b m f s)
    ∙ ap (λ t. if t then Some (b + m) else option_map (λ a. b + a) (greatest q m)) (s m) ∙ if_map b m (greatest q m) (q m)

-- the places in a part are those in its text, counted from where it begins
pub first_shift : (x L W : List ℕ) (b e p : ℕ) → Inside L W b e → first_in x L (b + p) e ≡ option_map (λ a. b + a) (first_in x W p (length W))
first_shift x L W b e p i =
    let n : suc e ≡ b + suc (length W) = omega (arith, i.ends) in
    ap (least (occurs_at x L (b + p) e)) n
    ∙ least_shift (occurs_at x L (b + p) e) (occurs_at x W p (length W)) b (suc (length W)) (λ c h. too_early x L (b + p) e c (omega arith)) (λ a. same_test x L W b e p a i)

pub last_shift : (x L W : List ℕ) (b e p : ℕ) → Inside L W b e → last_in x L (b + p) e ≡ option_map (λ a. b + a) (last_in x W p (length W))
last_shift x L W b e p i =
    let n : suc e ≡ b + suc (length W) = omega (arith, i.ends) in
    ap (greatest (occurs_at x L (b + p) e)) n
    ∙ greatest_shift (occurs_at x L (b + p) e) (occurs_at x W p (length W)) b (suc (length W)) (λ c h. too_early x L (b + p) e c (omega arith)) (λ a. same_test x L W b e p a i)

pub first_inside : (x L W : List ℕ) (b e : ℕ) → Inside L W b e → first_in x L b e ≡ option_map (λ a. b + a) (first_in x W 0 (length W))
first_inside x L W b e i = ap (λ n. first_in x L n e) (sym (add-zero b)) ∙ first_shift x L W b e 0 i

pub last_inside : (x L W : List ℕ) (b e : ℕ) → Inside L W b e → last_in x L b e ≡ option_map (λ a. b + a) (last_in x W 0 (length W))
last_inside x L W b e i = ap (λ n. last_in x L n e) (sym (add-zero b)) ∙ last_shift x L W b e 0 i

-- where the part begins past its end, nothing occurs in it
pub first_outside : (x L : List ℕ) (b e : ℕ) → e < b → first_in x L b e ≡ None
first_outside x L b e h = least_none (occurs_at x L b e) (suc e) (λ c k. too_early x L b e c (omega arith))

pub last_outside : (x L : List ℕ) (b e : ℕ) → e < b → last_in x L b e ≡ None
last_outside x L b e h = greatest_none (occurs_at x L b e) (suc e) (λ c k. too_early x L b e c (omega arith))

-- a part of an ASCII text is ASCII
and_left : (a b : Bool) → (a && b) ≡ true → a ≡ true
and_left true b h = refl
and_left false b h = h

and_right : (a b : Bool) → (a && b) ≡ true → b ≡ true
and_right true b h = h
and_right false b h = absurd (cc)

and_both : (a b : Bool) → a ≡ true → b ≡ true → (a && b) ≡ true
and_both true b p q = q
and_both false b p q = p

ascii_drop : (n : ℕ) (L : List ℕ) → all_ascii L ≡ true → all_ascii (drop n L) ≡ true
ascii_drop zero L h = h
ascii_drop (suc n) [] h = h
ascii_drop (suc n) (c ∷ cs) h = ascii_drop n cs (and_right _ _ h)

ascii_take : (n : ℕ) (L : List ℕ) → all_ascii L ≡ true → all_ascii (take n L) ≡ true
ascii_take zero L h = refl
ascii_take (suc n) [] h = refl
ascii_take (suc n) (c ∷ cs) h = and_both (nat_lt c 128) (all_ascii (take n cs)) (and_left (nat_lt c 128) (all_ascii cs) h) (ascii_take n cs (and_right (nat_lt c 128) (all_ascii cs) h))

pub ascii_part : (L : List ℕ) (b e : ℕ) → all_ascii L ≡ true → all_ascii (slice_range L b e) ≡ true
ascii_part L b e h = ascii_take (e - b) (drop b L) (ascii_drop b L h)

-- a place that is found passes, and is below the bound
or_case : (p : ℕ → Bool) (n a : ℕ) (o : Option ℕ) (t : Bool) → p n ≡ t → ((k : ℕ) → o ≡ Some k → (p k ≡ true) × (k < n)) → option_or o (if t then Some n else None) ≡ Some a → (p a ≡ true) × (a < suc n)
or_case p n a None true q f h = let e : n ≡ a = cc in (subst (λ (m : ℕ). p m ≡ true) e q, omega arith)
or_case p n a None false q f h = absurd (cc)
or_case p n a (Some k) t q f h = let e : k ≡ a = cc in let r = f k refl in (subst (λ (m : ℕ). p m ≡ true) e r.0, omega (arith, r.1))

pub least_means : (p : ℕ → Bool) (n a : ℕ) → least p n ≡ Some a → (p a ≡ true) × (a < n)
least_means p zero a h = absurd (cc)
least_means p (suc n) a h = or_case p n a (least p n) (p n) refl (λ k. least_means p n k) h

if_case : (p : ℕ → Bool) (n a : ℕ) (o : Option ℕ) (t : Bool) → p n ≡ t → ((k : ℕ) → o ≡ Some k → (p k ≡ true) × (k < n)) → (if t then Some n else o) ≡ Some a → (p a ≡ true) × (a < suc n)
if_case p n a o true q f h = let e : n ≡ a = cc in (subst (λ (m : ℕ). p m ≡ true) e q, omega arith)
if_case p n a o false q f h = let r = f a h in (r.0, omega (arith, r.1))

pub greatest_means : (p : ℕ → Bool) (n a : ℕ) → greatest p n ≡ Some a → (p a ≡ true) × (a < n)
greatest_means p zero a h = absurd (cc)
greatest_means p (suc n) a h = if_case p n a (greatest p n) (p n) refl (λ k. greatest_means p n k) h

pub first_means : (x L : List ℕ) (b e a : ℕ) → first_in x L b e ≡ Some a → OccursAt x L b e a
first_means x L b e a h = occurs_means x L b e a (least_means (occurs_at x L b e) (suc e) a h).0

pub last_means : (x L : List ℕ) (b e a : ℕ) → last_in x L b e ≡ Some a → OccursAt x L b e a
last_means x L b e a h = occurs_means x L b e a (greatest_means (occurs_at x L b e) (suc e) a h).0

-- part is the window of L
pub record IsWindow (L part : List ℕ) (start end : Option ℤ) (from to : ℕ) : Type 0 where
  pub from_is : from ≡ window_start (length L) start
  pub to_is : to ≡ window_end (length L) end
  pub order : from ≤ to
  pub fits : to ≤ length L
  pub part_is : part ≡ slice_range L from to

pub is_window : (L part : List ℕ) (start end : Option ℤ) (n from to : ℕ) → n ≡ length L → (from ≡ window_start n start) × (to ≡ window_end n end) × (from ≤ to) × (to ≤ n) → part ≡ slice_range L from to → IsWindow L part start end from to
is_window L part start end n from to s w p = record {
  from_is = w.0 ∙ ap (λ k. window_start k start) s;
  to_is = w.1 ∙ ap (λ k. window_end k end) s;
  order = w.2;
  fits = omega (arith, w.3);
  part_is = p;
}

pub window_inside : (L part : List ℕ) (start end : Option ℤ) (from to : ℕ) → IsWindow L part start end from to → Inside L part (window_start (length L) start) (window_end (length L) end)
window_inside L part start end from to w =
    let here : Inside L (slice_range L from to) from to = slice_inside L from to w.order w.fits in
    subst (λ (b : ℕ). Inside L part b (window_end (length L) end)) w.from_is (subst (λ (e : ℕ). Inside L part from e) w.to_is (subst (λ (l : List ℕ). Inside L l from to) (sym w.part_is) here))

-- what the search of the window tells of the text
pub window_first : (x y L part : List ℕ) (start end : Option ℤ) (from to : ℕ) (o : Option ℕ) → IsWindow L part start end from to → y ≡ x → o ≡ first_in y part 0 (length part) → option_map (λ a. from + a) o ≡ find x L start end
window_first x y L part start end from to o w n q =
    ap (λ r. option_map (λ a. from + a) r) (q ∙ ap (λ l. first_in l part 0 (length part)) n)
    ∙ ap (λ b. option_map (λ a. b + a) (first_in x part 0 (length part))) w.from_is
    ∙ sym (first_inside x L part (window_start (length L) start) (window_end (length L) end) (window_inside L part start end from to w))

pub window_last : (x y L part : List ℕ) (start end : Option ℤ) (from to : ℕ) (o : Option ℕ) → IsWindow L part start end from to → y ≡ x → o ≡ last_in y part 0 (length part) → option_map (λ a. from + a) o ≡ rfind x L start end
window_last x y L part start end from to o w n q =
    ap (λ r. option_map (λ a. from + a) r) (q ∙ ap (λ l. last_in l part 0 (length part)) n)
    ∙ ap (λ b. option_map (λ a. b + a) (last_in x part 0 (length part))) w.from_is
    ∙ sym (last_inside x L part (window_start (length L) start) (window_end (length L) end) (window_inside L part start end from to w))

-- a place in the window is a place in the text
pub window_place : (L part y : List ℕ) (start end : Option ℤ) (from to place : ℕ) → IsWindow L part start end from to → OccursAt y part 0 (length part) place → from + place ≤ length L
window_place L part y start end from to place w s =
    omega (arith, w.fits, w.order, s.to, ap length w.part_is, (slice_inside L from to w.order w.fits).ends)

-- how many code points the window has
pub window_length : (L part : List ℕ) (start end : Option ℤ) (from to : ℕ) → IsWindow L part start end from to → to - from ≡ length part
window_length L part start end from to w = omega (arith, ap length w.part_is, (slice_inside L from to w.order w.fits).ends, w.order)
