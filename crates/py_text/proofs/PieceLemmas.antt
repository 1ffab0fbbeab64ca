-- The pieces between the places of a text, one after another.
use Rattle.std.proofs.Common.{◌≡◌, ℕ, ◌+◌, ◌-◌, ◌<◌, ◌≤◌, max, List, [], ◌∷◌, ◌++◌, map, reverse, length, take, drop, slice_range, suc, refl, ap, sym, ◌∙◌, arith, length-append, subst, Option, Some, None, option_map, append_assoc, Result, Ok, Err, IfOk, chars}
use Rattle.std.proofs.lemmas.List.{take-append-le, nil_from_length, append-nil, drop_at, reverse-reverse}
use Rattle.std.proofs.lemmas.Str.{chars-nil}
use Rattle.py_text.specs.Occurrences.{first_in, last_in, occurrences, IsAround}
use Rattle.py_text.specs.Pieces.{pieces, split}
use Rattle.py_text.specs.Mirror.{mirrored}
use Rattle.py_text.specs.Partitions.{partition, rpartition, parted_at}
use Rattle.py_text.proofs.WindowLemmas.{Inside, first_inside, first_means, whole}
use Rattle.py_text.proofs.OccurrenceLemmas.{cuts_some, cuts_none, inside_drop, max_one}

-- what occurs from where a part begins
drop_inside : (L W : List ℕ) (b e : ℕ) (i : Inside L W b e) → drop b L ≡ W ++ i.after
drop_inside L W b e i = ap (drop b) i.parts ∙ drop_at i.before (W ++ i.after) b i.begins

pub last_part : (L W : List ℕ) (b : ℕ) → Inside L W b (length L) → drop b L ≡ W
last_part L W b i =
    let none : i.after ≡ [] = nil_from_length i.after (omega (arith, i.begins, i.ends, ap length i.parts, length-append i.before (W ++ i.after), length-append W i.after)) in
    drop_inside L W b (length L) i ∙ ap (λ r. W ++ r) none ∙ append-nil W

pub front_part : (L W : List ℕ) (b e n : ℕ) → Inside L W b e → n ≤ length W → slice_range L b (b + n) ≡ take n W
front_part L W b e n i h =
    let count : b + n - b ≡ n = omega arith in
    ap (λ k. take k (drop b L)) count ∙ ap (take n) (drop_inside L W b e i) ∙ take-append-le n W i.after h

-- of the text L, cut at the first `left` more places of x, the pieces before rest are in the list
pub record Cutting (x L rest : List ℕ) (list total : List (List ℕ)) (left : ℕ) : Type 0 where
  pub place : ℕ
  pub here : Inside L rest place (length L)
  pub so_far : list ++ pieces L (length x) place (occurrences left x L place (length L)) ≡ total

pub cutting_none : (x L : List ℕ) (k : ℕ) → Cutting x L L [] (split k x L) k
cutting_none x L k = record { place = 0; here = whole L; so_far = refl }

pub cutting_more : (x L rest front back : List ℕ) (list longer total : List (List ℕ)) (left n : ℕ) → 0 < length x → left ≡ suc n → longer ≡ list ++ front ∷ [] → IsAround x rest (first_in x rest 0 (length rest)) front back → Cutting x L rest list total left → Cutting x L back longer total n
cutting_more x L rest front back list longer total left n some s l cut c =
    let found : first_in x L c.place (length L) ≡ Some (c.place + cut.0) = first_inside x L rest c.place (length L) c.here ∙ ap (λ o. option_map (λ a. c.place + a) o) cut.1 in
    let fits : cut.0 + length x ≤ length rest = (first_means x rest 0 (length rest) cut.0 cut.1).to in
    let on : c.place + cut.0 + max 1 (length x) ≡ c.place + cut.0 + length x = omega (arith, max_one (length x) some) in
    let next : c.place + cut.0 + length x ≡ c.place + (cut.0 + length x) = omega arith in
    let one : occurrences left x L c.place (length L) ≡ (c.place + cut.0) ∷ occurrences n x L (c.place + cut.0 + length x) (length L) =
    ap (λ m. occurrences m x L c.place (length L)) s ∙ cuts_some n x L c.place (length L) (c.place + cut.0) found ∙ ap (λ q. (c.place + cut.0) ∷ occurrences n x L q (length L)) on in
    let piece : slice_range L c.place (c.place + cut.0) ≡ front = front_part L rest c.place (length L) cut.0 c.here (omega (arith, fits)) ∙ sym cut.2 in
    let all : pieces L (length x) c.place (occurrences left x L c.place (length L)) ≡ front ∷ pieces L (length x) (c.place + (cut.0 + length x)) (occurrences n x L (c.place + (cut.0 + length x)) (length L)) =
    ap (pieces L (length x) c.place) one ∙ ap (λ p. p ∷ pieces L (length x) (c.place + cut.0 + length x) (occurrences n x L (c.place + cut.0 + length x) (length L))) piece
    ∙ ap (λ q. front ∷ pieces L (length x) q (occurrences n x L q (length L))) next in
    record {
      place = c.place + (cut.0 + length x);
      here = subst (λ (w : List ℕ). Inside L w (c.place + (cut.0 + length x)) (length L)) (sym cut.3) (inside_drop L rest c.place (length L) (cut.0 + length x) c.here fits);
      so_far = ap (λ r. r ++ pieces L (length x) (c.place + (cut.0 + length x)) (occurrences n x L (c.place + (cut.0 + length x)) (length L))) l
          ∙ append_assoc list (front ∷ []) (pieces L (length x) (c.place + (cut.0 + length x)) (occurrences n x L (c.place + (cut.0 + length x)) (length L)))
          ∙ ap (λ r. list ++ r) (sym all) ∙ c.so_far;
    }

pub cutting_stops : (x L rest : List ℕ) (list total : List (List ℕ)) (left : ℕ) → first_in x rest 0 (length rest) ≡ None → Cutting x L rest list total left → list ++ rest ∷ [] ≡ total
cutting_stops x L rest list total left h c =
    let none : occurrences left x L c.place (length L) ≡ [] = cuts_none left x L c.place (length L) (first_inside x L rest c.place (length L) c.here ∙ ap (λ o. option_map (λ a. c.place + a) o) h) in
    ap (λ r. list ++ r ∷ []) (sym (last_part L rest c.place c.here)) ∙ ap (λ r. list ++ pieces L (length x) c.place r) (sym none) ∙ c.so_far

pub cutting_ends : (x L rest : List ℕ) (list total : List (List ℕ)) (left : ℕ) → left ≡ 0 → Cutting x L rest list total left → list ++ rest ∷ [] ≡ total
cutting_ends x L rest list total left h c =
    ap (λ r. list ++ r ∷ []) (sym (last_part L rest c.place c.here)) ∙ ap (λ m. list ++ pieces L (length x) c.place (occurrences m x L c.place (length L))) (sym h) ∙ c.so_far

-- a list of pieces that is there, with each piece turned round
pub ok_turned : {E : Type 0} (r : Result (List (List ℕ)) E) (l total : List (List ℕ)) → IfOk r (λ pieces. pieces ≡ l) → map reverse l ≡ total → IfOk r (λ pieces. map reverse pieces ≡ total)
ok_turned (Ok v) l total h e = ap (map reverse) h ∙ e
ok_turned (Err f) l total h e = tt

turned_back : (l : List (List ℕ)) → map reverse (map reverse l) ≡ l
turned_back [] = refl
turned_back (x ∷ xs) = ap (λ y. y ∷ map reverse (map reverse xs)) (reverse-reverse x) ∙ ap (λ ys. x ∷ ys) (turned_back xs)

pub mirror_of : (l m total : List (List ℕ)) → map reverse l ≡ total → m ≡ reverse l → m ≡ mirrored total
mirror_of l m total h e = e ∙ ap reverse (sym (turned_back l) ∙ ap (map reverse) h)

-- a text in which x does not stand, parted
pub parted_none : (x L y M : List ℕ) → M ≡ L → y ≡ x → first_in y M 0 (length M) ≡ None → (M, chars [], chars []) ≡ partition x L
parted_none x L y M p q h =
    let none : first_in x L 0 (length L) ≡ None = sym (ap (λ m. first_in y m 0 (length m)) p ∙ ap (λ z. first_in z L 0 (length L)) q) ∙ h in
    let left : (M, chars [], chars []) ≡ (L, [], []) = (λ j. (p j, chars-nil j, chars-nil j)) in
    left ∙ sym (ap (λ (o : Option ℕ). elim o as (λ _. List ℕ × List ℕ × List ℕ) [ None ↦ (L, [], []) | Some a ↦ parted_at x L a ]) none)

pub rparted_none : (x L y M : List ℕ) → M ≡ L → y ≡ x → last_in y M 0 (length M) ≡ None → (chars [], chars [], M) ≡ rpartition x L
rparted_none x L y M p q h =
    let none : last_in x L 0 (length L) ≡ None = sym (ap (λ m. last_in y m 0 (length m)) p ∙ ap (λ z. last_in z L 0 (length L)) q) ∙ h in
    let left : (chars [], chars [], M) ≡ ([], [], L) = (λ j. (chars-nil j, chars-nil j, p j)) in
    left ∙ sym (ap (λ (o : Option ℕ). elim o as (λ _. List ℕ × List ℕ × List ℕ) [ None ↦ ([], [], L) | Some a ↦ parted_at x L a ]) none)
