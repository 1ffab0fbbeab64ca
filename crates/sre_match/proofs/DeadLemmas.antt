-- Places where a tree fails at the first read.
use Rattle.std.proofs.Common.{◌≡◌, refl, sym, ap, subst, ◌∙◌, ℕ, zero, suc, ◌+◌, ◌-◌, ◌<◌, ◌≤◌, Bool, true, false, List, [], ◌∷◌, ◌++◌, arith}
use Rattle.std.specs.Prelude.{Option, Some, None, slice_get, nat_lt}
use Rattle.std.proofs.lemmas.Bool.{false≢true, le-ltb, ltb-false}
use Rattle.sre_code.specs.declared.tree.RepeatKind.{RepeatKind}
use Rattle.sre_code.specs.declared.tree.RepeatKind.TheVariants.{Greedy, Lazy, Possessive}
use Rattle.sre_code.specs.PlainTree.{PlainNode, PlainTree, PlainTrees, fail, any, any_all, lit, not_lit, one_of, at, group, ref, exists, exists_else, branch, repeat, atomic, look, nothing, ◌then◌, only, ◌or◌}
use Rattle.sre_match.specs.Attempts.{Attempt, failed, passed, Marks, Next, after, cut, captured_from, back_to, chosen, cost_of}
use Rattle.sre_match.specs.Paths.{paths, node_paths, all_paths, attempt}
use Rattle.sre_match.specs.Anchors.{is_met, met_at}
use Rattle.sre_match.specs.Repeats.{repeat_paths, room}
use Rattle.sre_match.specs.Singles.{is_single, meets}
use Rattle.sre_match.specs.FirstUnit.{MeetsOnly, node_reads_first, reads_first, all_read_first}
use Rattle.sre_match.specs.Laws.{UnmetFirstUnitFails, EarlyPlacesFail, RuledOut}
use Rattle.sre_match.specs.Matches.{is_allowed}
use Rattle.sre_match.proofs.NextSpanLemmas.{first_within, reads_there}
use Rattle.sre_match.proofs.BranchLemmas.{single_paths}

-- all of them fail
abbrev pub AllFail : List Attempt → Type 0
AllFail [] = Unit {0}
AllFail (failed c ∷ xs) = AllFail xs
AllFail (passed c e m ∷ xs) = ⊥

-- what they cost together
abbrev pub spent : List Attempt → ℕ
spent [] = 0
spent (failed c ∷ xs) = c + spent xs
spent (passed c e m ∷ xs) = c + spent xs

-- all fail, and cost n at least
abbrev pub Dead : ℕ → List Attempt → Type 0
Dead n xs = AllFail xs × (n ≤ spent xs)

fail_after : (xs : List Attempt) (f : Next) → AllFail xs → after xs f ≡ xs
fail_after [] f h = refl
fail_after (failed c ∷ xs) f h = ap (λ l. failed c ∷ l) (fail_after xs f h)
fail_after (passed c e m ∷ xs) f h = absurd h

fail_captured : (g p : ℕ) (xs : List Attempt) → AllFail xs → captured_from g p xs ≡ xs
fail_captured g p [] h = refl
fail_captured g p (failed c ∷ xs) h = ap (λ l. failed c ∷ l) (fail_captured g p xs h)
fail_captured g p (passed c e m ∷ xs) h = absurd h

fail_cut : (xs : List Attempt) → AllFail xs → cut xs ≡ xs
fail_cut [] h = refl
fail_cut (failed c ∷ xs) h = ap (λ l. failed c ∷ l) (fail_cut xs h)
fail_cut (passed c e m ∷ xs) h = absurd h

fail_back : (p : ℕ) (xs : List Attempt) → AllFail xs → back_to p xs ≡ xs
fail_back p [] h = refl
fail_back p (failed c ∷ xs) h = ap (λ l. failed c ∷ l) (fail_back p xs h)
fail_back p (passed c e m ∷ xs) h = absurd h

fail_append : (xs ys : List Attempt) → AllFail xs → AllFail ys → AllFail (xs ++ ys)
fail_append [] ys h k = k
fail_append (failed c ∷ xs) ys h k = fail_append xs ys h k
fail_append (passed c e m ∷ xs) ys h k = absurd h

spent_append : (xs ys : List Attempt) → spent xs ≤ spent (xs ++ ys)
spent_append [] ys = omega arith
spent_append (failed c ∷ xs) ys = omega (arith, spent_append xs ys)
spent_append (passed c e m ∷ xs) ys = omega (arith, spent_append xs ys)

fail_chosen : (ok : ℕ → Bool) (xs : List Attempt) → AllFail xs → chosen ok xs ≡ None
fail_chosen ok [] h = refl
fail_chosen ok (failed c ∷ xs) h = fail_chosen ok xs h
fail_chosen ok (passed c e m ∷ xs) h = absurd h

fail_cost : (ok : ℕ → Bool) (xs : List Attempt) → AllFail xs → cost_of ok xs ≡ spent xs
fail_cost ok [] h = refl
fail_cost ok (failed c ∷ xs) h = ap (λ n. c + n) (fail_cost ok xs h)
fail_cost ok (passed c e m ∷ xs) h = absurd h

dead_is : (n : ℕ) (xs ys : List Attempt) → ys ≡ xs → Dead n xs → Dead n ys
dead_is n xs ys e h = let P : List Attempt → Type 0 = λ l. Dead n l in subst P (sym e) h

not_both : (a b : Bool) → (a ≡ true → b ≡ true) → b ≡ false → a ≡ false
not_both true b h e = absurd (false≢true (sym e ∙ h refl))
not_both false b h e = refl

-- a test that passes each unit of another one and not this unit
outside : (test f : ℕ → Bool) (u : Option ℕ) → ((c : ℕ) → test c ≡ true → f c ≡ true) → is_met f u ≡ false → is_met test u ≡ false
outside test f None h e = refl
outside test f (Some c) h e = not_both (test c) (f c) (h c) e

single_dead : (n : PlainNode) (k : ℕ) (f : ℕ → Bool) (s : List ℕ) (p : ℕ) (m : Marks) → is_single n ≡ true → (k ≡ 0) × MeetsOnly n f → is_met f (slice_get s (p - k)) ≡ false → Dead 1 (node_paths n s p m)
single_dead n k f s p m h w e =
    let here : p - k ≡ p = omega (arith, w.0) in
    let o : met_at (meets n) s p ≡ false = outside (meets n) f (slice_get s p) w.1 (ap (λ q. is_met f (slice_get s q)) (sym here) ∙ e) in
    dead_is 1 (failed 1 ∷ []) (node_paths n s p m) (single_paths n s p m h ∙ ap (λ b. attempt b 1 (p + 1) m) o) (tt, omega arith)

rep_dead : (n : ℕ) (body : Next) (greedy : Bool) (lo j p : ℕ) (m : Marks) → 1 ≤ lo → Dead n (body p m) → Dead n (repeat_paths body greedy lo j p m)
rep_dead n body greedy zero j p m l h = let f : ⊥ = omega (arith, l) in absurd f
rep_dead n body greedy (suc k) j p m l h = dead_is n (body p m) _ (fail_after (body p m) (repeat_paths body greedy k j) h.0) h

kind_dead : (n : ℕ) (kind : RepeatKind) (one_wide : Bool) (lo hi : ℕ) (b : PlainTree) (s : List ℕ) (p : ℕ) (m : Marks) → 1 ≤ lo → Dead n (paths b s p m) → Dead n (node_paths (repeat kind one_wide lo hi b) s p m)
kind_dead n Greedy one_wide lo hi b s p m l h = rep_dead n (paths b s) true lo (room s lo hi) p m l h
kind_dead n Lazy one_wide lo hi b s p m l h = rep_dead n (paths b s) false lo (room s lo hi) p m l h
kind_dead n Possessive one_wide lo hi b s p m l h =
    let r : Dead n (repeat_paths (paths b s) true lo (room s lo hi) p m) = rep_dead n (paths b s) true lo (room s lo hi) p m l h in
    dead_is n _ _ (fail_cut _ r.0) r

look_dead : (n j : ℕ) (b : PlainTree) (s : List ℕ) (p : ℕ) (m : Marks) → j ≤ p → Dead n (paths b s (p - j) m) → Dead n (node_paths (look true j b) s p m)
look_dead n j b s p m l h =
    let e : nat_lt p j ≡ false = le-ltb p j l in
    let xs : List Attempt = paths b s (p - j) m in
    dead_is n xs _
    (ap (λ (x : Bool). elim x as (λ _. List Attempt) [ true ↦ failed 0 ∷ [] | false ↦ back_to p (cut (paths b s (p - j) m)) ]) e
    ∙ ap (back_to p) (fail_cut xs h.0) ∙ fail_back p xs h.0)
    h

mutual
  node_dead : (n : PlainNode) (k : ℕ) (f : ℕ → Bool) (s : List ℕ) (p : ℕ) (m : Marks) → node_reads_first n k f → k ≤ p → is_met f (slice_get s (p - k)) ≡ false → Dead 1 (node_paths n s p m)
  node_dead fail k f s p m h l e = absurd h
  node_dead any k f s p m h l e = single_dead any k f s p m refl h e
  node_dead any_all k f s p m h l e = single_dead any_all k f s p m refl h e
  node_dead (lit x) k f s p m h l e = single_dead (lit x) k f s p m refl h e
  node_dead (not_lit x) k f s p m h l e = single_dead (not_lit x) k f s p m refl h e
  node_dead (one_of negated items) k f s p m h l e = single_dead (one_of negated items) k f s p m refl h e
  node_dead (at j) k f s p m h l e = absurd h
  node_dead (group g b) k f s p m h l e =
      let d : Dead 1 (paths b s p m) = dead b k f s p m h l e in
      dead_is 1 (paths b s p m) _ (fail_captured g p (paths b s p m) d.0) d
  node_dead (ref g) k f s p m h l e = absurd h
  node_dead (exists g y) k f s p m h l e = absurd h
  node_dead (exists_else g y n) k f s p m h l e = absurd h
  node_dead (branch ts) k f s p m h l e = all_dead ts k f s p m h l e
  node_dead (repeat kind one_wide lo hi b) k f s p m h l e = kind_dead 1 kind one_wide lo hi b s p m h.0 (dead b k f s p m h.1 l e)
  node_dead (atomic b) k f s p m h l e =
      let d : Dead 1 (paths b s p m) = dead b k f s p m h l e in
      dead_is 1 (paths b s p m) _ (fail_cut (paths b s p m) d.0) d
  node_dead (look true j b) k f s p m h l e =
      let i : ℕ = h.0 in
      let here : p - j - i ≡ p - k = omega (arith, h.1) in
      look_dead 1 j b s p m (omega (arith, h.1, l)) (dead b i f s (p - j) m h.2 (omega (arith, h.1, l)) (ap (λ q. is_met f (slice_get s q)) here ∙ e))
  node_dead (look false j b) k f s p m h l e = absurd h

  -- a tree fails where the unit that it reads first fails the test
  pub dead : (t : PlainTree) (k : ℕ) (f : ℕ → Bool) (s : List ℕ) (p : ℕ) (m : Marks) → reads_first t k f → k ≤ p → is_met f (slice_get s (p - k)) ≡ false → Dead 1 (paths t s p m)
  dead nothing k f s p m h l e = absurd h
  dead (n then t) k f s p m h l e =
      let d : Dead 1 (node_paths n s p m) = node_dead n k f s p m h l e in
      dead_is 1 (node_paths n s p m) _ (fail_after (node_paths n s p m) (paths t s) d.0) d

  all_dead : (ts : PlainTrees) (k : ℕ) (f : ℕ → Bool) (s : List ℕ) (p : ℕ) (m : Marks) → all_read_first ts k f → k ≤ p → is_met f (slice_get s (p - k)) ≡ false → Dead 1 (all_paths ts s p m)
  all_dead (only t) k f s p m h l e = dead t k f s p m h l e
  all_dead (t or ts) k f s p m h l e =
      let d : Dead 1 (paths t s p m) = dead t k f s p m h.0 l e in
      let r : Dead 1 (all_paths ts s p m) = all_dead ts k f s p m h.1 l e in
      (fail_append (paths t s p m) (all_paths ts s p m) d.0 r.0, omega (arith, d.1, spent_append (paths t s p m) (all_paths ts s p m)))

look_early : (j : ℕ) (b : PlainTree) (k : ℕ) (f : ℕ → Bool) (s : List ℕ) (p : ℕ) (m : Marks) (x : Bool) → nat_lt p j ≡ x → (h : (i : ℕ) × (k ≡ j + i) × reads_first b i f) → p < k → (p - j < h.0 → Dead 0 (paths b s (p - j) m)) → Dead 0 (node_paths (look true j b) s p m)
look_early j b k f s p m true e h l d =
    dead_is 0 (failed 0 ∷ []) _ (ap (λ (x : Bool). elim x as (λ _. List Attempt) [ true ↦ failed 0 ∷ [] | false ↦ back_to p (cut (paths b s (p - j) m)) ]) e) (tt, omega arith)
look_early j b k f s p m false e h l d =
    let w : j ≤ p = ltb-false p j e in
    look_dead 0 j b s p m w (d (omega (arith, h.1, l, w)))

mutual
  node_early : (n : PlainNode) (k : ℕ) (f : ℕ → Bool) (s : List ℕ) (p : ℕ) (m : Marks) → node_reads_first n k f → p < k → Dead 0 (node_paths n s p m)
  node_early fail k f s p m h l = absurd h
  node_early any k f s p m h l = let x : ⊥ = omega (arith, h.0, l) in absurd x
  node_early any_all k f s p m h l = let x : ⊥ = omega (arith, h.0, l) in absurd x
  node_early (lit x) k f s p m h l = let x : ⊥ = omega (arith, h.0, l) in absurd x
  node_early (not_lit x) k f s p m h l = let x : ⊥ = omega (arith, h.0, l) in absurd x
  node_early (one_of negated items) k f s p m h l = let x : ⊥ = omega (arith, h.0, l) in absurd x
  node_early (at j) k f s p m h l = absurd h
  node_early (group g b) k f s p m h l =
      let d : Dead 0 (paths b s p m) = early b k f s p m h l in
      dead_is 0 (paths b s p m) _ (fail_captured g p (paths b s p m) d.0) d
  node_early (ref g) k f s p m h l = absurd h
  node_early (exists g y) k f s p m h l = absurd h
  node_early (exists_else g y n) k f s p m h l = absurd h
  node_early (branch ts) k f s p m h l = all_early ts k f s p m h l
  node_early (repeat kind one_wide lo hi b) k f s p m h l = kind_dead 0 kind one_wide lo hi b s p m h.0 (early b k f s p m h.1 l)
  node_early (atomic b) k f s p m h l =
      let d : Dead 0 (paths b s p m) = early b k f s p m h l in
      dead_is 0 (paths b s p m) _ (fail_cut (paths b s p m) d.0) d
  node_early (look true j b) k f s p m h l = look_early j b k f s p m (nat_lt p j) refl h l (λ x. early b h.0 f s (p - j) m h.2 x)
  node_early (look false j b) k f s p m h l = absurd h

  -- and where that is before the subject
  pub early : (t : PlainTree) (k : ℕ) (f : ℕ → Bool) (s : List ℕ) (p : ℕ) (m : Marks) → reads_first t k f → p < k → Dead 0 (paths t s p m)
  early nothing k f s p m h l = absurd h
  early (n then t) k f s p m h l =
      let d : Dead 0 (node_paths n s p m) = node_early n k f s p m h l in
      dead_is 0 (node_paths n s p m) _ (fail_after (node_paths n s p m) (paths t s) d.0) d

  all_early : (ts : PlainTrees) (k : ℕ) (f : ℕ → Bool) (s : List ℕ) (p : ℕ) (m : Marks) → all_read_first ts k f → p < k → Dead 0 (all_paths ts s p m)
  all_early (only t) k f s p m h l = early t k f s p m h l
  all_early (t or ts) k f s p m h l =
      let d : Dead 0 (paths t s p m) = early t k f s p m h.0 l in
      let r : Dead 0 (all_paths ts s p m) = all_early ts k f s p m h.1 l in
      (fail_append (paths t s p m) (all_paths ts s p m) d.0 r.0, omega arith)

pub unmet_first_unit_fails : UnmetFirstUnitFails
unmet_first_unit_fails t k f s p m ok h l e =
    let d : Dead 1 (paths t s p m) = dead t k f s p m h l e in
    (fail_chosen ok (paths t s p m) d.0, omega (arith, d.1, fail_cost ok (paths t s p m) d.0))

pub early_places_fail : EarlyPlacesFail
early_places_fail t k f s p m ok h l = fail_chosen ok (paths t s p m) (early t k f s p m h l).0

pub ruled_out : RuledOut
ruled_out t k f s i a h l le e =
    let r = unmet_first_unit_fails t k f s i [] (is_allowed s i a) h l e in
    (first_within t s i a le ∙ r.0, omega (arith, r.1, reads_there t s i a le))
