-- Each match ends where it begins or later, and inside the subject.
use Rattle.std.proofs.Common.{◌≡◌, refl, ℕ, zero, suc, ◌+◌, ◌-◌, ◌≤◌, Bool, true, false, List, [], ◌∷◌, ◌++◌, arith, length, drop}
use Rattle.std.proofs.lemmas.List.{length-drop}
use Rattle.std.specs.Prelude.{Option, Some, None, nat_eq, slice_range, ◌&&◌}
use Rattle.std.specs.List.{starts_with}
use Rattle.sre_code.specs.declared.tree.RepeatKind.TheVariants.{Greedy, Lazy, Possessive}
use Rattle.sre_code.specs.PlainTree.{PlainNode, PlainTree, PlainTrees, fail, any, any_all, lit, not_lit, one_of, at, group, ref, exists, exists_else, branch, repeat, atomic, look, nothing, ◌then◌, only, ◌or◌}
use Rattle.sre_match.specs.Anchors.{met_at}
use Rattle.sre_match.specs.Attempts.{Attempt, failed, passed, Marks, Next, stay, charge, after, cut, captured_from, back_to, negated, span_of}
use Rattle.sre_match.specs.Repeats.{is_past, in_turn, optional, repeat_paths, room}
use Rattle.sre_match.specs.Paths.{attempt, unit, back_reference, node_paths, paths, all_paths}
use Rattle.sre_match.proofs.RoomLemmas.{EndsIn, Inside}

later_ends : (low next n : ℕ) (xs : List Attempt) → low ≤ next → EndsIn next n xs → EndsIn low n xs
later_ends low next n [] l h = tt
later_ends low next n (failed c ∷ xs) l h = later_ends low next n xs l h
later_ends low next n (passed c e m ∷ xs) l h = (omega (arith, l, h.0), h.1, later_ends low next n xs l h.2)

append_ends : (low n : ℕ) (xs ys : List Attempt) → EndsIn low n xs → EndsIn low n ys → EndsIn low n (xs ++ ys)
append_ends low n [] ys h k = k
append_ends low n (failed c ∷ xs) ys h k = append_ends low n xs ys h k
append_ends low n (passed c e m ∷ xs) ys h k = (h.0, h.1, append_ends low n xs ys h.2 k)

charge_ends : (low n c : ℕ) (xs : List Attempt) → EndsIn low n xs → EndsIn low n (charge c xs)
charge_ends low n c [] h = h
charge_ends low n c (failed d ∷ xs) h = h
charge_ends low n c (passed d e m ∷ xs) h = h

after_ends : (low n : ℕ) (xs : List Attempt) (f : Next) → EndsIn low n xs → Inside n f → EndsIn low n (after xs f)
after_ends low n [] f h k = tt
after_ends low n (failed c ∷ xs) f h k = after_ends low n xs f h k
after_ends low n (passed c e m ∷ xs) f h k = append_ends low n (charge c (f e m)) (after xs f) (charge_ends low n c (f e m) (later_ends low e n (f e m) h.0 (k e m h.1))) (after_ends low n xs f h.2 k)

pub cut_ends : (low n : ℕ) (xs : List Attempt) → EndsIn low n xs → EndsIn low n (cut xs)
cut_ends low n [] h = h
cut_ends low n (failed c ∷ xs) h = cut_ends low n xs h
cut_ends low n (passed c e m ∷ xs) h = (h.0, h.1, tt)

pub captured_ends : (low n g p : ℕ) (xs : List Attempt) → EndsIn low n xs → EndsIn low n (captured_from g p xs)
captured_ends low n g p [] h = h
captured_ends low n g p (failed c ∷ xs) h = captured_ends low n g p xs h
captured_ends low n g p (passed c e m ∷ xs) h = (h.0, h.1, captured_ends low n g p xs h.2)

-- one that ends where it begins
pub stay_ends : (p n : ℕ) (m : Marks) → p ≤ n → EndsIn p n (stay p m)
stay_ends p n m h = (omega arith, h, tt)

pub back_ends : (n p : ℕ) (xs : List Attempt) → p ≤ n → EndsIn p n (back_to p xs)
back_ends n p [] h = tt
back_ends n p (failed c ∷ xs) h = back_ends n p xs h
back_ends n p (passed c e m ∷ xs) h = (omega arith, h, back_ends n p xs h)

pub negated_ends : (n p : ℕ) (m : Marks) (xs : List Attempt) → p ≤ n → EndsIn p n (negated p m xs)
negated_ends n p m [] h = stay_ends p n m h
negated_ends n p m (failed c ∷ xs) h = negated_ends n p m xs h
negated_ends n p m (passed c e l ∷ xs) h = tt

pub attempt_ends : (low n : ℕ) (b : Bool) (c e : ℕ) (m : Marks) → low ≤ e → (b ≡ true → e ≤ n) → EndsIn low n (attempt b c e m)
attempt_ends low n true c e m l h = (l, h refl, tt)
attempt_ends low n false c e m l h = tt

pub met_inside : (test : ℕ → Bool) (s : List ℕ) (p : ℕ) → met_at test s p ≡ true → p + 1 ≤ length s
met_inside test [] p h = let f : ⊥ = cc h in absurd f
met_inside test (x ∷ s) zero h = omega arith
met_inside test (x ∷ s) (suc p) h = omega (arith, met_inside test s p h)

unit_inside : (test : ℕ → Bool) (s : List ℕ) → Inside (length s) (unit test s)
unit_inside test s p m h = attempt_ends p (length s) (met_at test s p) 1 (p + 1) m (omega arith) (met_inside test s p)

and_right : (a b : Bool) → a && b ≡ true → b ≡ true
and_right true b h = h
and_right false b h = let f : ⊥ = cc h in absurd f

pub starts_inside : (xs ys : List ℕ) → starts_with nat_eq xs ys ≡ true → length ys ≤ length xs
starts_inside xs [] h = omega arith
starts_inside [] (y ∷ ys) h = let f : ⊥ = cc h in absurd f
starts_inside (x ∷ xs) (y ∷ ys) h = omega (arith, starts_inside xs ys (and_right _ _ h))

pub choice_ends : (low n : ℕ) (b : Bool) (xs ys : List Attempt) → EndsIn low n xs → EndsIn low n ys → EndsIn low n (elim b as (λ _. List Attempt) [ true ↦ xs | false ↦ ys ])
choice_ends low n true xs ys h k = h
choice_ends low n false xs ys h k = k

turn_ends : (low n : ℕ) (greedy : Bool) (more stays : List Attempt) → EndsIn low n more → EndsIn low n stays → EndsIn low n (in_turn greedy more stays)
turn_ends low n true more stays h k = append_ends low n more stays h k
turn_ends low n false more stays h k = append_ends low n stays more k h

pub optional_inside : (n : ℕ) (body : Next) (greedy : Bool) (j : ℕ) (q : Option ℕ) → Inside n body → Inside n (optional body greedy j q)
optional_inside n body greedy zero q t p m h = stay_ends p n m h
optional_inside n body greedy (suc j) q t p m h =
    let f : Next = optional body greedy j (Some p) in
    let more : List Attempt = after (body p m) f in
    let k : EndsIn p n more = after_ends p n (body p m) f (t p m h) (optional_inside n body greedy j (Some p) t) in
    choice_ends p n (is_past q p) (in_turn greedy more (stay p m)) (stay p m) (turn_ends p n greedy more (stay p m) k (stay_ends p n m h)) (stay_ends p n m h)

pub repeat_inside : (n : ℕ) (body : Next) (greedy : Bool) (k j : ℕ) → Inside n body → Inside n (repeat_paths body greedy k j)
repeat_inside n body greedy zero j t p m h = optional_inside n body greedy j None t p m h
repeat_inside n body greedy (suc k) j t p m h = after_ends p n (body p m) (repeat_paths body greedy k j) (t p m h) (repeat_inside n body greedy k j t)

pub back_reference_inside : (o : Option (ℕ × ℕ)) (s : List ℕ) → Inside (length s) (back_reference o s)
back_reference_inside None s p m h = tt
back_reference_inside (Some x) s p m h =
    attempt_ends p (length s) _ _ _ m (omega arith) (λ e. omega (arith, starts_inside (drop p s) (slice_range s x.0 x.1) e, length-drop p s, h))

mutual
  pub node_inside : (n : PlainNode) (s : List ℕ) → Inside (length s) (node_paths n s)
  node_inside fail s p m h = tt
  node_inside any s p m h = unit_inside _ s p m h
  node_inside any_all s p m h = unit_inside _ s p m h
  node_inside (lit x) s p m h = unit_inside _ s p m h
  node_inside (not_lit x) s p m h = unit_inside _ s p m h
  node_inside (one_of true items) s p m h = unit_inside _ s p m h
  node_inside (one_of false items) s p m h = unit_inside _ s p m h
  node_inside (at k) s p m h = attempt_ends p (length s) _ _ p m (omega arith) (λ e. h)
  node_inside (group g b) s p m h = captured_ends p (length s) g p (paths b s p m) (inside b s p m h)
  node_inside (ref g) s p m h = back_reference_inside (span_of m g) s p m h
  node_inside (exists g y) s p m h = choice_ends p (length s) _ (paths y s p m) (stay p m) (inside y s p m h) (stay_ends p (length s) m h)
  node_inside (exists_else g y n) s p m h = choice_ends p (length s) _ (paths y s p m) (paths n s p m) (inside y s p m h) (inside n s p m h)
  node_inside (branch alternatives) s p m h = all_inside alternatives s p m h
  node_inside (repeat Greedy one_wide lo hi b) s p m h = repeat_inside (length s) (paths b s) true lo (room s lo hi) (inside b s) p m h
  node_inside (repeat Lazy one_wide lo hi b) s p m h = repeat_inside (length s) (paths b s) false lo (room s lo hi) (inside b s) p m h
  node_inside (repeat Possessive one_wide lo hi b) s p m h = cut_ends p (length s) (repeat_paths (paths b s) true lo (room s lo hi) p m) (repeat_inside (length s) (paths b s) true lo (room s lo hi) (inside b s) p m h)
  node_inside (atomic b) s p m h = cut_ends p (length s) (paths b s p m) (inside b s p m h)
  node_inside (look true k b) s p m h = choice_ends p (length s) _ (failed 0 ∷ []) (back_to p (cut (paths b s (p - k) m))) tt (back_ends (length s) p (cut (paths b s (p - k) m)) h)
  node_inside (look false k b) s p m h = choice_ends p (length s) _ (stay p m) (negated p m (cut (paths b s (p - k) m))) (stay_ends p (length s) m h) (negated_ends (length s) p m (cut (paths b s (p - k) m)) h)

  pub inside : (t : PlainTree) (s : List ℕ) → Inside (length s) (paths t s)
  inside nothing s p m h = stay_ends p (length s) m h
  inside (n then t) s p m h = after_ends p (length s) (node_paths n s p m) (paths t s) (node_inside n s p m h) (inside t s)

  pub all_inside : (ts : PlainTrees) (s : List ℕ) → Inside (length s) (all_paths ts s)
  all_inside (only t) s p m h = inside t s p m h
  all_inside (t or ts) s p m h = append_ends p (length s) (paths t s p m) (all_paths ts s p m) (inside t s p m h) (all_inside ts s p m h)
