-- Trees whose first attempt pays for a read.
use Rattle.std.proofs.Common.{◌≡◌, refl, sym, ap, subst, ◌∙◌, ℕ, zero, suc, ◌+◌, ◌-◌, ◌<◌, ◌≤◌, Bool, true, false, List, [], ◌∷◌, ◌++◌, arith}
use Rattle.std.specs.Prelude.{nat_lt}
use Rattle.std.proofs.lemmas.Bool.{le-ltb}
use Rattle.sre_code.specs.declared.tree.RepeatKind.{RepeatKind}
use Rattle.sre_code.specs.declared.tree.RepeatKind.TheVariants.{Greedy, Lazy, Possessive}
use Rattle.sre_code.specs.PlainTree.{PlainNode, PlainTree, PlainTrees, fail, any, any_all, lit, not_lit, one_of, at, group, ref, exists, exists_else, branch, repeat, atomic, look, nothing, ◌then◌, only, ◌or◌}
use Rattle.sre_match.specs.Attempts.{Attempt, failed, passed, Marks, Next, charge, after, cut, captured_from, back_to, cost_of}
use Rattle.sre_match.specs.Paths.{paths, node_paths, all_paths, attempt}
use Rattle.sre_match.specs.Anchors.{met_at}
use Rattle.sre_match.specs.Repeats.{repeat_paths, room}
use Rattle.sre_match.specs.Singles.{is_single, meets}
use Rattle.sre_match.specs.FirstUnit.{node_reads_first, reads_first, all_read_first}
use Rattle.sre_match.specs.Laws.{FirstUnitCostsARead}
use Rattle.sre_match.proofs.AfterLemmas.{IsTotal, IsFull}
use Rattle.sre_match.proofs.BranchLemmas.{single_paths}
use Rattle.sre_match.proofs.FullLemmas.{full, rep_full}

-- the first attempt costs a read at least
abbrev pub Paid : List Attempt → Type 0
Paid [] = ⊥
Paid (failed c ∷ xs) = 1 ≤ c
Paid (passed c e m ∷ xs) = 1 ≤ c

paid_is : (xs ys : List Attempt) → ys ≡ xs → Paid xs → Paid ys
paid_is xs ys e h = let P : List Attempt → Type 0 = Paid in subst P (sym e) h

paid_charge : (c : ℕ) (xs ys : List Attempt) → IsFull xs → 1 ≤ c → Paid (charge c xs ++ ys)
paid_charge c [] ys h l = absurd h
paid_charge c (failed d ∷ xs) ys h l = omega (arith, l)
paid_charge c (passed d e m ∷ xs) ys h l = omega (arith, l)

paid_after : (xs : List Attempt) (f : Next) → IsTotal f → Paid xs → Paid (after xs f)
paid_after [] f t h = absurd h
paid_after (failed c ∷ xs) f t h = h
paid_after (passed c e m ∷ xs) f t h = paid_charge c (f e m) (after xs f) (t e m) h

paid_cut : (xs : List Attempt) → Paid xs → Paid (cut xs)
paid_cut [] h = absurd h
paid_cut (failed c ∷ xs) h = h
paid_cut (passed c e m ∷ xs) h = h

paid_back : (p : ℕ) (xs : List Attempt) → Paid xs → Paid (back_to p xs)
paid_back p [] h = absurd h
paid_back p (failed c ∷ xs) h = h
paid_back p (passed c e m ∷ xs) h = h

paid_captured : (g p : ℕ) (xs : List Attempt) → Paid xs → Paid (captured_from g p xs)
paid_captured g p [] h = absurd h
paid_captured g p (failed c ∷ xs) h = h
paid_captured g p (passed c e m ∷ xs) h = h

paid_append : (xs ys : List Attempt) → Paid xs → Paid (xs ++ ys)
paid_append [] ys h = absurd h
paid_append (failed c ∷ xs) ys h = h
paid_append (passed c e m ∷ xs) ys h = h

cost_first : (b : Bool) (c n : ℕ) → 1 ≤ c → 1 ≤ (elim b as (λ _. ℕ) [ true ↦ c | false ↦ c + n ])
cost_first true c n h = h
cost_first false c n h = omega (arith, h)

paid_cost : (ok : ℕ → Bool) (xs : List Attempt) → Paid xs → 1 ≤ cost_of ok xs
paid_cost ok [] h = absurd h
paid_cost ok (failed c ∷ xs) h = omega (arith, h)
paid_cost ok (passed c e m ∷ xs) h = cost_first (ok e) c (cost_of ok xs) h

paid_attempt : (b : Bool) (e : ℕ) (m : Marks) → Paid (attempt b 1 e m)
paid_attempt true e m = omega arith
paid_attempt false e m = omega arith

single_paid : (n : PlainNode) (s : List ℕ) (p : ℕ) (m : Marks) → is_single n ≡ true → Paid (node_paths n s p m)
single_paid n s p m h = paid_is (attempt (met_at (meets n) s p) 1 (p + 1) m) (node_paths n s p m) (single_paths n s p m h) (paid_attempt (met_at (meets n) s p) (p + 1) m)

rep_paid : (body : Next) (greedy : Bool) (lo j p : ℕ) (m : Marks) → IsTotal body → 1 ≤ lo → Paid (body p m) → Paid (repeat_paths body greedy lo j p m)
rep_paid body greedy zero j p m t l h = let f : ⊥ = omega (arith, l) in absurd f
rep_paid body greedy (suc k) j p m t l h = paid_after (body p m) (repeat_paths body greedy k j) (rep_full body greedy k j t) h

kind_paid : (kind : RepeatKind) (one_wide : Bool) (lo hi : ℕ) (b : PlainTree) (s : List ℕ) (p : ℕ) (m : Marks) → 1 ≤ lo → Paid (paths b s p m) → Paid (node_paths (repeat kind one_wide lo hi b) s p m)
kind_paid Greedy one_wide lo hi b s p m l h = rep_paid (paths b s) true lo (room s lo hi) p m (full b s) l h
kind_paid Lazy one_wide lo hi b s p m l h = rep_paid (paths b s) false lo (room s lo hi) p m (full b s) l h
kind_paid Possessive one_wide lo hi b s p m l h = paid_cut (repeat_paths (paths b s) true lo (room s lo hi) p m) (rep_paid (paths b s) true lo (room s lo hi) p m (full b s) l h)

look_paid : (j : ℕ) (b : PlainTree) (s : List ℕ) (p : ℕ) (m : Marks) → j ≤ p → Paid (paths b s (p - j) m) → Paid (node_paths (look true j b) s p m)
look_paid j b s p m l h =
    let xs : List Attempt = paths b s (p - j) m in
    paid_is (back_to p (cut xs)) _ (ap (λ (x : Bool). elim x as (λ _. List Attempt) [ true ↦ failed 0 ∷ [] | false ↦ back_to p (cut (paths b s (p - j) m)) ]) (le-ltb p j l)) (paid_back p (cut xs) (paid_cut xs h))

mutual
  node_paid : (n : PlainNode) (k : ℕ) (f : ℕ → Bool) (s : List ℕ) (p : ℕ) (m : Marks) → node_reads_first n k f → k ≤ p → Paid (node_paths n s p m)
  node_paid fail k f s p m h l = absurd h
  node_paid any k f s p m h l = single_paid any s p m refl
  node_paid any_all k f s p m h l = single_paid any_all s p m refl
  node_paid (lit x) k f s p m h l = single_paid (lit x) s p m refl
  node_paid (not_lit x) k f s p m h l = single_paid (not_lit x) s p m refl
  node_paid (one_of negated items) k f s p m h l = single_paid (one_of negated items) s p m refl
  node_paid (at j) k f s p m h l = absurd h
  node_paid (group g b) k f s p m h l = paid_captured g p (paths b s p m) (paid b k f s p m h l)
  node_paid (ref g) k f s p m h l = absurd h
  node_paid (exists g y) k f s p m h l = absurd h
  node_paid (exists_else g y n) k f s p m h l = absurd h
  node_paid (branch ts) k f s p m h l = all_paid ts k f s p m h l
  node_paid (repeat kind one_wide lo hi b) k f s p m h l = kind_paid kind one_wide lo hi b s p m h.0 (paid b k f s p m h.1 l)
  node_paid (atomic b) k f s p m h l = paid_cut (paths b s p m) (paid b k f s p m h l)
  node_paid (look true j b) k f s p m h l = look_paid j b s p m (omega (arith, h.1, l)) (paid b h.0 f s (p - j) m h.2 (omega (arith, h.1, l)))
  node_paid (look false j b) k f s p m h l = absurd h

  -- a tree that reads a unit first pays for that read
  pub paid : (t : PlainTree) (k : ℕ) (f : ℕ → Bool) (s : List ℕ) (p : ℕ) (m : Marks) → reads_first t k f → k ≤ p → Paid (paths t s p m)
  paid nothing k f s p m h l = absurd h
  paid (n then t) k f s p m h l = paid_after (node_paths n s p m) (paths t s) (full t s) (node_paid n k f s p m h l)

  all_paid : (ts : PlainTrees) (k : ℕ) (f : ℕ → Bool) (s : List ℕ) (p : ℕ) (m : Marks) → all_read_first ts k f → k ≤ p → Paid (all_paths ts s p m)
  all_paid (only t) k f s p m h l = paid t k f s p m h l
  all_paid (t or ts) k f s p m h l = paid_append (paths t s p m) (all_paths ts s p m) (paid t k f s p m h.0 l)

pub first_unit_costs_a_read : FirstUnitCostsARead
first_unit_costs_a_read t k f s p m ok h l = paid_cost ok (paths t s p m) (paid t k f s p m h l)
