-- Pieces joined, with a text after each.
use Rattle.std.proofs.Common.{◌≡◌, ℕ, ◌+◌, ◌-◌, ◌<◌, ◌≤◌, List, [], ◌∷◌, ◌++◌, length, take, drop, slice_range, suc, zero, refl, ap, sym, ◌∙◌, arith, length-drop, append_assoc, append-nil, get_or, Some, None, slice_get, Result, Ok, Err, OnOk, le_of_lt}
use Rattle.std.proofs.lemmas.List.{take-append-drop, drop-drop, take_more, length-take-le}
use Rattle.py_text.specs.Occurrences.{first_in, occurrences, IsAround}
use Rattle.py_text.specs.Pieces.{pieces, split}
use Rattle.py_text.specs.Replacing.{join, replace}
use Rattle.py_text.proofs.WindowLemmas.{first_outside}
use Rattle.py_text.proofs.OccurrenceLemmas.{cuts_some, cuts_none, empty_first}
use Rattle.py_text.proofs.PieceLemmas.{Cutting, cutting_none, cutting_more, cutting_stops, cutting_ends}

-- each piece with y after it
abbrev pub glued : List ℕ → List (List ℕ) → List ℕ
glued y [] = []
glued y (p ∷ ps) = p ++ (y ++ glued y ps)

pub glued_more : (y : List ℕ) (ps : List (List ℕ)) (p : List ℕ) → glued y (ps ++ p ∷ []) ≡ glued y ps ++ (p ++ y)
glued_more y [] p = ap (λ r. p ++ r) (append-nil y)
glued_more y (q ∷ qs) p =
    ap (λ r. q ++ (y ++ r)) (glued_more y qs p) ∙ sym (append_assoc q (y ++ glued y qs) (p ++ y) ∙ ap (λ r. q ++ r) (append_assoc y (glued y qs) (p ++ y)))

pub joined_last : (y : List ℕ) (ps : List (List ℕ)) (p : List ℕ) → join y (ps ++ p ∷ []) ≡ glued y ps ++ p
joined_last y [] p = refl
joined_last y (q ∷ []) p = sym (append_assoc q (y ++ []) p ∙ ap (λ r. q ++ r) (append_assoc y [] p))
joined_last y (q ∷ r ∷ rs) p =
    ap (λ t. q ++ (y ++ t)) (joined_last y (r ∷ rs) p) ∙ sym (append_assoc q (y ++ glued y (r ∷ rs)) p ∙ ap (λ t. q ++ t) (append_assoc y (glued y (r ∷ rs)) p))

pub joined_more : (x p : List ℕ) (ps : List (List ℕ)) (q : List ℕ) → join x ((p ∷ ps) ++ q ∷ []) ≡ join x (p ∷ ps) ++ (x ++ q)
joined_more x p [] q = refl
joined_more x p (r ∷ rs) q =
    ap (λ t. p ++ (x ++ t)) (joined_more x r rs q) ∙ sym (append_assoc p (x ++ join x (r ∷ rs)) (x ++ q) ∙ ap (λ t. p ++ t) (append_assoc x (join x (r ∷ rs)) (x ++ q)))

-- parts up to rest are replaced in out
pub record Replacing (x y L rest before out : List ℕ) (k left : ℕ) : Type 0 where
  pub list : List (List ℕ)
  pub cutting : Cutting x L rest list (split k x L) left
  pub glue : out ≡ before ++ glued y list

pub replacing_none : (x y L before : List ℕ) (k : ℕ) → Replacing x y L L before before k k
replacing_none x y L before k = record { list = []; cutting = cutting_none x L k; glue = sym (append-nil before) }

pub replacing_more : (x y L rest front back before out one two : List ℕ) (k left n : ℕ) → 0 < length x → left ≡ suc n → one ≡ out ++ front → two ≡ one ++ y → IsAround x rest (first_in x rest 0 (length rest)) front back → Replacing x y L rest before out k left → Replacing x y L back before two k n
replacing_more x y L rest front back before out one two k left n some s p q cut r = record {
  list = r.list ++ front ∷ [];
  cutting = cutting_more x L rest front back r.list (r.list ++ front ∷ []) (split k x L) left n some s refl cut r.cutting;
  glue = q ∙ ap (λ t. t ++ y) (p ∙ ap (λ t. t ++ front) r.glue) ∙ ap (λ t. t ++ y) (append_assoc before (glued y r.list) front) ∙ append_assoc before (glued y r.list ++ front) y
      ∙ ap (λ t. before ++ t) (append_assoc (glued y r.list) front y ∙ sym (glued_more y r.list front));
}

replaced_by : (y rest before out new : List ℕ) (list total : List (List ℕ)) → new ≡ out ++ rest → out ≡ before ++ glued y list → list ++ rest ∷ [] ≡ total → new ≡ before ++ join y total
replaced_by y rest before out new list total p g t =
    p ∙ ap (λ r. r ++ rest) g ∙ append_assoc before (glued y list) rest ∙ ap (λ r. before ++ r) (sym (joined_last y list rest) ∙ ap (join y) t)

pub replacing_stops : (x y L rest before out new : List ℕ) (k left : ℕ) → first_in x rest 0 (length rest) ≡ None → new ≡ out ++ rest → Replacing x y L rest before out k left → new ≡ before ++ replace k x y L
replacing_stops x y L rest before out new k left h p r = replaced_by y rest before out new r.list (split k x L) p r.glue (cutting_stops x L rest r.list (split k x L) left h r.cutting)

pub replacing_ends : (x y L rest before out new : List ℕ) (k left : ℕ) → left ≡ 0 → new ≡ out ++ rest → Replacing x y L rest before out k left → new ≡ before ++ replace k x y L
replacing_ends x y L rest before out new k left h p r = replaced_by y rest before out new r.list (split k x L) p r.glue (cutting_ends x L rest r.list (split k x L) left h r.cutting)

-- y is in out before each code point up to rest
pub record Spreading (y L rest before out : List ℕ) (k left : ℕ) : Type 0 where
  pub list : List (List ℕ)
  pub from : ℕ
  pub place : ℕ
  pub order : from ≤ place
  pub inside : place ≤ length L
  pub rest_is : rest ≡ drop place L
  pub so_far : list ++ pieces L 0 from (occurrences left [] L place (length L)) ≡ split k [] L
  pub glue : out ≡ before ++ (glued y list ++ slice_range L from place)

pub spreading_none : (y L before : List ℕ) (k : ℕ) → Spreading y L L before before k k
spreading_none y L before k = record { list = []; from = 0; place = 0; order = omega arith; inside = omega arith; rest_is = refl; so_far = refl; glue = sym (append-nil before) }

-- the next y is put
pub record Spread (y L rest before out : List ℕ) (k n : ℕ) : Type 0 where
  pub list : List (List ℕ)
  pub place : ℕ
  pub inside : place ≤ length L
  pub rest_is : rest ≡ drop place L
  pub so_far : list ++ pieces L 0 place (occurrences n [] L (place + 1) (length L)) ≡ split k [] L
  pub glue : out ≡ before ++ glued y list

pub spreading_put : (y L rest before out one : List ℕ) (k left n : ℕ) → left ≡ suc n → one ≡ out ++ y → Spreading y L rest before out k left → Spread y L rest before one k n
spreading_put y L rest before out one k left n s p r =
    let here : r.place + 0 ≡ r.place = omega arith in
    let cut : occurrences left [] L r.place (length L) ≡ r.place ∷ occurrences n [] L (r.place + 1) (length L) = ap (λ m. occurrences m [] L r.place (length L)) s ∙ cuts_some n [] L r.place (length L) r.place (empty_first L r.place (length L) r.inside) in
    let all : pieces L 0 r.from (occurrences left [] L r.place (length L)) ≡ slice_range L r.from r.place ∷ pieces L 0 r.place (occurrences n [] L (r.place + 1) (length L)) =
    ap (pieces L 0 r.from) cut ∙ ap (λ q. slice_range L r.from r.place ∷ pieces L 0 q (occurrences n [] L (r.place + 1) (length L))) here in
    record {
      list = r.list ++ slice_range L r.from r.place ∷ [];
      place = r.place;
      inside = r.inside;
      rest_is = r.rest_is;
      so_far = append_assoc r.list (slice_range L r.from r.place ∷ []) (pieces L 0 r.place (occurrences n [] L (r.place + 1) (length L))) ∙ ap (λ t. r.list ++ t) (sym all) ∙ r.so_far;
      glue = p ∙ ap (λ t. t ++ y) r.glue ∙ append_assoc before (glued y r.list ++ slice_range L r.from r.place) y ∙ ap (λ t. before ++ t) (append_assoc (glued y r.list) (slice_range L r.from r.place) y ∙ sym (glued_more y r.list (slice_range L r.from r.place)));
    }

pub spread_stops : (y L rest before out : List ℕ) (k n : ℕ) → rest ≡ [] → Spread y L rest before out k n → out ≡ before ++ replace k [] y L
spread_stops y L rest before out k n e r =
    let gone : drop r.place L ≡ [] = sym r.rest_is ∙ e in
    let last : r.place ≡ length L = omega (arith, r.inside, ap length gone, length-drop r.place L) in
    let none : occurrences n [] L (r.place + 1) (length L) ≡ [] = cuts_none n [] L (r.place + 1) (length L) (first_outside [] L (r.place + 1) (length L) (omega (arith, last))) in
    let total : r.list ++ [] ∷ [] ≡ split k [] L = ap (λ t. r.list ++ t ∷ []) (sym gone) ∙ ap (λ t. r.list ++ pieces L 0 r.place t) (sym none) ∙ r.so_far in
    r.glue ∙ ap (λ t. before ++ t) (sym (append-nil (glued y r.list)) ∙ sym (joined_last y r.list []) ∙ ap (join y) total)

pub spread_on : (y L rest one after before out new : List ℕ) (k n : ℕ) → 0 < length rest → one ≡ take 1 rest → after ≡ drop 1 rest → new ≡ out ++ one → Spread y L rest before out k n → Spreading y L after before new k n
spread_on y L rest one after before out new k n some o b p r =
    let width : r.place + 1 - r.place ≡ 1 = omega arith in
    let there : r.place + 1 ≤ length L = omega (arith, some, ap length r.rest_is, length-drop r.place L) in
    record {
      list = r.list;
      from = r.place;
      place = r.place + 1;
      order = omega arith;
      inside = there;
      rest_is = b ∙ ap (drop 1) r.rest_is ∙ drop-drop 1 r.place L;
      so_far = r.so_far;
      glue = p ∙ ap (λ t. t ++ one) r.glue ∙ append_assoc before (glued y r.list) one ∙ ap (λ t. before ++ (glued y r.list ++ t)) (o ∙ ap (take 1) r.rest_is ∙ sym (ap (λ m. take m (drop r.place L)) width));
    }

pub spreading_ends : (y L rest before out new : List ℕ) (k left : ℕ) → left ≡ 0 → new ≡ out ++ rest → Spreading y L rest before out k left → new ≡ before ++ replace k [] y L
spreading_ends y L rest before out new k left h p r =
    let total : r.list ++ drop r.from L ∷ [] ≡ split k [] L = ap (λ m. r.list ++ pieces L 0 r.from (occurrences m [] L r.place (length L))) (sym h) ∙ r.so_far in
    let at : r.from + (r.place - r.from) ≡ r.place = omega (arith, r.order) in
    let whole : slice_range L r.from r.place ++ rest ≡ drop r.from L =
    ap (λ t. slice_range L r.from r.place ++ t) (r.rest_is ∙ sym (drop-drop (r.place - r.from) r.from L ∙ ap (λ m. drop m L) at)) ∙ take-append-drop (r.place - r.from) (drop r.from L) in
    p ∙ ap (λ t. t ++ rest) r.glue ∙ append_assoc before (glued y r.list ++ slice_range L r.from r.place) rest
    ∙ ap (λ t. before ++ t) (append_assoc (glued y r.list) (slice_range L r.from r.place) rest ∙ ap (λ t. glued y r.list ++ t) whole ∙ sym (joined_last y r.list (drop r.from L)) ∙ ap (join y) total)

pub on_ok : {T E : Type 0} {P Q : Type 0} (r : Result T E) → (P → Q) → OnOk r P → OnOk r Q
on_ok (Ok v) f h = f h
on_ok (Err e) f h = tt

-- the item at a place
item_at : (items : List (List ℕ)) (i : ℕ) (q : List ℕ) → slice_get items i ≡ Some q → get_or items i [] ≡ q
item_at [] i q h = absurd (cc)
item_at (x ∷ xs) zero q h = cc
item_at (x ∷ xs) (suc i) q h = item_at xs i q h

pub item_there : (items : List (List ℕ)) (i : ℕ) → i < length items → slice_get items i ≡ None → ⊥
item_there [] i l h = absurd (omega arith)
item_there (x ∷ xs) zero l h = cc
item_there (x ∷ xs) (suc i) l h = item_there xs i (omega arith) h

taken_item : (items : List (List ℕ)) (i : ℕ) (q : List ℕ) → i < length items → slice_get items i ≡ Some q → take (i + 1) items ≡ take i items ++ q ∷ []
taken_item items i q l h = take_more items i [] l ∙ ap (λ r. take i items ++ r ∷ []) (item_at items i q h)

pub joined_on : (x : List ℕ) (ps : List (List ℕ)) (q : List ℕ) → 0 < length ps → join x (ps ++ q ∷ []) ≡ join x ps ++ (x ++ q)
joined_on x [] q h = absurd (omega arith)
joined_on x (p ∷ ps) q h = joined_more x p ps q

-- one item more is joined: the first, or one after others
pub first_item : (x out new q : List ℕ) (items : List (List ℕ)) (i : ℕ) → i ≡ 0 → i < length items → slice_get items i ≡ Some q → out ≡ join x (take i items) → new ≡ out ++ q → new ≡ join x (take (i + 1) items)
first_item x out new q items i z l h o n =
    let none : out ≡ [] = o ∙ ap (λ k. join x (take k items)) z in
    n ∙ ap (λ r. r ++ q) none ∙ sym (ap (join x) (taken_item items i q l h) ∙ ap (λ k. join x (take k items ++ q ∷ [])) z)

pub next_item : (x out one new q : List ℕ) (items : List (List ℕ)) (i : ℕ) → 0 < i → i < length items → slice_get items i ≡ Some q → out ≡ join x (take i items) → one ≡ out ++ x → new ≡ one ++ q → new ≡ join x (take (i + 1) items)
next_item x out one new q items i z l h o p n =
    n ∙ ap (λ r. r ++ q) (p ∙ ap (λ r. r ++ x) o) ∙ append_assoc (join x (take i items)) x q
    ∙ sym (ap (join x) (taken_item items i q l h) ∙ joined_on x (take i items) q (omega (arith, length-take-le i items (le_of_lt l))))
