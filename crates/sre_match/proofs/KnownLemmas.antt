-- A tree at a place whose unit is known.
use Rattle.sre_match.specs.Captures.{captures}
use Rattle.std.proofs.Common.{◌≡◌, sym, ap, ◌∙◌, ℕ, ◌+◌, ◌≤◌, true, List, [], ◌∷◌, length, arith}
use Rattle.std.proofs.lemmas.List.{append-nil}
use Rattle.std.specs.Prelude.{Some, slice_get}
use Rattle.sre_match.specs.declared.matcher.first_unit.FirstUnit.{FirstUnit}
use Rattle.sre_match.specs.declared.matcher.trail.Current.{Current}
use Rattle.sre_match.specs.declared.matcher.trail.Trail.{Trail}
use Rattle.sre_code.specs.PlainTree.{PlainNode, PlainTree, ◌then◌}
use Rattle.sre_match.specs.Attempts.{Attempt, Marks, Next, after, charge}
use Rattle.sre_match.specs.Anchors.{met_at}
use Rattle.sre_match.specs.FirstUnit.{first_unit_tree, Begins, meets_first}
use Rattle.sre_match.specs.Machine.{onward, run, to_try, pile, trying, Leaves}
use Rattle.sre_match.specs.Matches.{Allowed, reads, is_allowed}
use Rattle.sre_match.specs.Paths.{paths, attempt}
use Rattle.sre_match.specs.Singles.{is_single, meets}
use Rattle.sre_match.proofs.AfterLemmas.{after_full, after-charge, after_stay}
use Rattle.sre_match.proofs.BranchLemmas.{single_paths}
use Rattle.sre_match.proofs.FullLemmas.{full}
use Rattle.sre_match.proofs.LessLemmas.{leaves_charge}
use Rattle.sre_match.proofs.NextSpanLemmas.{reads_there}
use Rattle.sre_match.proofs.PaidLemmas.{first_unit_costs_a_read}
use Rattle.sre_match.proofs.ScanLemmas.{tree_reads_first_unit}
use Rattle.sre_match.proofs.TurnLemmas.{run_full, to_try_charge}

-- a first node that is met costs its read
pub met_first : (n : PlainNode) (more : PlainTree) (s : List ℕ) (t : Trail) (i p : ℕ) (m : Marks) (k : ℕ) → is_single n ≡ true → met_at (meets n) s p ≡ true
    → Leaves k (k + 1) (to_try s t (after (paths (n then more) s p m) (run t.frames.items i s))) (to_try s t (after (paths more s (p + 1) m) (run t.frames.items i s)))
met_first n more s t i p m k h o =
    let xs : List Attempt = paths more s (p + 1) m in
    let f : Next = run t.frames.items i s in
    let e : paths (n then more) s p m ≡ charge 1 xs = ap (λ l. after l (paths more s)) (single_paths n s p m h ∙ ap (λ b. attempt b 1 (p + 1) m) o) ∙ append-nil (charge 1 xs) in
    let out = to_try_charge s t 1 (after xs f) (after_full xs f (full more s (p + 1) m) (run_full t.frames.items i s)) in
    leaves_charge k (k + 1) 1 _ _ (omega arith) out.1
    (ap (λ l. to_try s t (after l f)) e ∙ ap (to_try s t) (after-charge 1 xs f (run_full t.frames.items i s)) ∙ out.0)

pile_none : (s : List ℕ) (t : Trail) (xs : List Attempt) → t.choices.items ≡ [] → to_try s t xs ≡ xs
pile_none s t xs e = ap (λ cs. pile s t.frames.items (captures t.marks.items) cs xs) e

-- an empty trail has only this to try
pub begins_with : (f : Next) (a : Current) (s : List ℕ) (t : Trail) → (captures t.marks.items) ≡ [] → t.frames.items ≡ [] → t.choices.items ≡ [] → a.rest ≡ 0 → trying f a s t ≡ f a.cursor.place []
begins_with f a s t mm ff cc r =
    pile_none s t (onward t.frames.items f a.rest s a.cursor.place (captures t.marks.items)) cc
    ∙ (λ x. onward (ff x) f (r x) s a.cursor.place (mm x))
    ∙ after_stay (f a.cursor.place [])

-- the first read is paid for
pub first_read_paid : (l : FirstUnit) (s : List ℕ) (i : ℕ) (a : Allowed) → Begins l → i ≤ length s → 1 ≤ reads (first_unit_tree l) s i a
first_read_paid l s i a h le =
    omega (arith, first_unit_costs_a_read (first_unit_tree l) 0 (meets_first l) s i [] (is_allowed s i a) (tree_reads_first_unit l h) (omega arith), reads_there (first_unit_tree l) s i a le)
