-- The tree of a text means the text.
use Rattle.std.proofs.Common.{◌≡◌, refl, sym, ◌∙◌, ap, subst, ℕ, ◌+◌, ◌-◌, ◌*◌, ◌≤◌, Bool, true, false, not, List, [], ◌∷◌, ◌++◌, length, drop, arith}
use Rattle.std.specs.Prelude.{Option, Some, None, is_some, nat_lt, nat_eq, slice_range, ◌||◌}
use Rattle.std.specs.List.{starts_with, list_any}
use Rattle.std.proofs.lemmas.Bool.{le-ltb, ltb-false}
use Rattle.sre_code.specs.PlainTree.{PlainNode, PlainTree, branch, look, nothing, ◌then◌}
use Rattle.sre_match.specs.Attempts.{Attempt, failed, Marks, stay, after, cut, back_to, negated, span_of}
use Rattle.sre_match.specs.Members.{is_member, is_in_item}
use Rattle.sre_match.specs.Anchors.{met_at, is_at_anchor}
use Rattle.sre_match.specs.Repeats.{repeat_paths, room_in}
use Rattle.sre_match.specs.Paths.{back_reference, node_paths, paths, all_paths}
use Rattle.sre_match.proofs.AfterLemmas.{after_stay, stay_after, after_after}
use Rattle.sre_match.proofs.FullLemmas.{full}
use Rattle.sre_match.proofs.EndLemmas.{inside}
use Rattle.re_tree.specs.declared.tree.CountMode.{CountMode}
use Rattle.re_tree.specs.declared.tree.CountMode.TheVariants.{Greedy, Lazy, Possessive}
use Rattle.re_tree.specs.declared.unit.UnitItem.{UnitItem}
use Rattle.re_tree.specs.declared.unit.UnitItem.TheVariants.{Literal, Span, Category}
use Rattle.re_tree.specs.PlainText.{PlainTest, dot, dot_all, literal, set, PlainText, PlainTexts, unit, anchor, reference, conditional, conditional_else, sequence, alternation, counted, capture, plain, atomic_text, look_text, done, ◌also◌, Names, number_of}
use Rattle.re_text.specs.Outcomes.{Outcome, Onward, here, only_if, each_then, closing, first_of_all, looked, ending_at, from_behind, in_mode, optional_count, unit_item_holds, test_holds, once_more, outcomes, outcomes_in_turn, outcomes_of_each}
use Rattle.re_tree.specs.Widths.{width}
use Rattle.re_text.specs.Trees.{set_item, set_items, test_node, kind_of_mode, greatest, back_of, is_one_unit, join, tree_of_text, tree_of_parts, trees_of_branches}
use Rattle.re_text.specs.Fits.{count_fits, back_fits, text_fits, texts_fit}
use Rattle.re_text.specs.Laws.{passes, AllEndAt}
use Rattle.re_text.proofs.PassingLemmas.{Alike, passes_append, passes_after, passes_cut, passes_captured, passes_back, passes_negated, passes_attempt, passes_choice, passes_repeat}
use Rattle.re_text.proofs.RoomLemmas.{room_is_count}
use Rattle.re_text.proofs.WidthLemmas.{width_ends, all_kept}

-- a tree of one node, and one after another
single : (x : PlainNode) (s : List ℕ) (p : ℕ) (m : Marks) → paths (x then nothing) s p m ≡ node_paths x s p m
single x s p m = after_stay (node_paths x s p m)

joined : (t u : PlainTree) (s : List ℕ) (p : ℕ) (m : Marks) → paths (join t u) s p m ≡ after (paths t s p m) (paths u s)
joined nothing u s p m = sym (stay_after p m (paths u s))
joined (x then t) u s p m =
    ap (after (node_paths x s p m)) (λ i e l. joined t u s e l i) ∙ sym (after_after (node_paths x s p m) (paths t s) (paths u s) (full u s))

append_nil : (xs : List Outcome) → xs ++ [] ≡ xs
append_nil [] = refl
append_nil (x ∷ xs) = ap (λ l. x ∷ l) (append_nil xs)

-- units
same_item : (item : UnitItem) (c : ℕ) → is_in_item (set_item item) c ≡ unit_item_holds item c
same_item (Literal x) c = refl
same_item (Span lo hi) c = refl
same_item (Category k) c = refl

same_set : (items : List UnitItem) (c : ℕ) → is_member (set_items items) c ≡ list_any (λ item. unit_item_holds item c) items
same_set [] c = refl
same_set (item ∷ items) c = λ i. same_item item c i || same_set items c i

unit_means : (test : PlainTest) (s : List ℕ) (p : ℕ) (m : Marks) → passes (node_paths (test_node test) s p m) ≡ only_if (met_at (test_holds test) s p) (p + 1) m
unit_means dot s p m = passes_attempt (met_at (test_holds dot) s p) 1 (p + 1) m
unit_means dot_all s p m = passes_attempt (met_at (test_holds dot_all) s p) 1 (p + 1) m
unit_means (literal c) s p m = passes_attempt (met_at (test_holds (literal c)) s p) 1 (p + 1) m
unit_means (set false items) s p m =
    passes_attempt (met_at (is_member (set_items items)) s p) 1 (p + 1) m
    ∙ ap (λ test. only_if (met_at test s p) (p + 1) m) (λ i c. same_set items c i)
unit_means (set true items) s p m =
    passes_attempt (met_at (λ c. not (is_member (set_items items) c)) s p) 1 (p + 1) m
    ∙ ap (λ test. only_if (met_at test s p) (p + 1) m) (λ i c. not (same_set items c i))

reference_means : (o : Option (ℕ × ℕ)) (s : List ℕ) (p : ℕ) (m : Marks) → passes (back_reference o s p m) ≡ once_more o s p m
reference_means None s p m = refl
reference_means (Some x) s p m =
    passes_attempt (starts_with nat_eq (drop p s) (slice_range s x.0 x.1)) (2 * length (slice_range s x.0 x.1)) (p + length (slice_range s x.0 x.1)) m

-- a lookaround, which has too few units before it or not
look_paths : Bool → Bool → ℕ → Marks → List Attempt → List Attempt
look_paths true short p m xs = elim short as (λ _. List Attempt) [ true ↦ failed 0 ∷ [] | false ↦ back_to p (cut xs) ]
look_paths false short p m xs = elim short as (λ _. List Attempt) [ true ↦ stay p m | false ↦ negated p m (cut xs) ]

look_is : (positive : Bool) (k : ℕ) (b : PlainTree) (s : List ℕ) (p : ℕ) (m : Marks) → node_paths (look positive k b) s p m ≡ look_paths positive (nat_lt p k) p m (paths b s (p - k) m)
unfolding look_paths
look_is true k b s p m = refl
look_is false k b s p m = refl

none_if : Bool → List Outcome → List Outcome
none_if short us = elim short as (λ _. List Outcome) [ true ↦ [] | false ↦ us ]

look_means : (positive short : Bool) (p : ℕ) (m : Marks) (xs : List Attempt) (us : List Outcome) → (short ≡ false → passes xs ≡ us)
    → passes (look_paths positive short p m xs) ≡ looked positive p m (none_if short us)
unfolding look_paths none_if
look_means true true p m xs us h = refl
look_means true false p m xs us h = passes_back p m xs ∙ ap (looked true p m) (h refl)
look_means false true p m xs us h = refl
look_means false false p m xs us h = passes_negated p m xs ∙ ap (looked false p m) (h refl)

ahead_means : (positive : Bool) (b : PlainTree) (s : List ℕ) (p : ℕ) (m : Marks) (us : List Outcome) → passes (paths b s p m) ≡ us
    → passes (node_paths (look positive 0 b) s p m) ≡ looked positive p m us
unfolding none_if
ahead_means positive b s p m us h =
    let e : p ≡ p - 0 = omega arith in
    ap passes (look_is positive 0 b s p m)
    ∙ look_means positive (nat_lt p 0) p m (paths b s (p - 0) m) us (λ _. subst (λ q. passes (paths b s q m) ≡ us) e h)
    ∙ ap (λ short. looked positive p m (none_if short us)) (le-ltb p 0 (omega arith))

-- the outcomes of a body of a width, so many units back, all end here
behind_means : (positive : Bool) (w : Option ℕ) (b : PlainTree) (f : Onward) (s : List ℕ) (p : ℕ) (m : Marks) → back_fits true w → p ≤ length s
    → ((k : ℕ) → w ≡ Some k → (q : ℕ) → AllEndAt (q + k) (f q m))
    → ((q : ℕ) → q ≤ length s → passes (paths b s q m) ≡ f q m)
    → passes (node_paths (look positive (back_of true w) b) s p m) ≡ looked positive p m (from_behind w p m f)
unfolding none_if
behind_means positive None b f s p m fits le ends same = absurd fits
behind_means positive (Some k) b f s p m fits le ends same =
    ap passes (look_is positive k b s p m)
    ∙ look_means positive (nat_lt p k) p m (paths b s (p - k) m) (ending_at p (f (p - k) m)) (λ long. back long)
  where
    back : nat_lt p k ≡ false → passes (paths b s (p - k) m) ≡ ending_at p (f (p - k) m)
    back long =
        let far : k ≤ p = ltb-false p k long in
        let e : p - k + k ≡ p = omega (arith, far) in
        same (p - k) (omega (arith, le))
        ∙ sym (all_kept p (f (p - k) m) (subst (λ q. AllEndAt q (f (p - k) m)) e (ends k refl (p - k))))

-- a count, in each mode
count_means : (mode : CountMode) (one_wide : Bool) (least : ℕ) (most : Option ℕ) (b : PlainTree) (f : Onward) (n : ℕ) (s : List ℕ)
    → count_fits least most → length s + 2 ≤ n → Alike (length s) (paths b s) f
    → (p : ℕ) (m : Marks) → p ≤ length s
    → passes (node_paths (PlainNode.repeat (kind_of_mode mode) one_wide least (greatest most) b) s p m) ≡ in_mode mode f least (optional_count n least most) p m
count_means Greedy one_wide least most b f n s fits enough same p m le =
    ap passes (room_is_count (paths b s) true (length s) n least most (inside b s) fits enough p m le)
    ∙ passes_repeat (paths b s) f true (length s) (inside b s) same least (optional_count n least most) p m le
count_means Lazy one_wide least most b f n s fits enough same p m le =
    ap passes (room_is_count (paths b s) false (length s) n least most (inside b s) fits enough p m le)
    ∙ passes_repeat (paths b s) f false (length s) (inside b s) same least (optional_count n least most) p m le
count_means Possessive one_wide least most b f n s fits enough same p m le =
    passes_cut (repeat_paths (paths b s) true least (room_in (length s) least (greatest most)) p m)
    ∙ ap first_of_all (ap passes (room_is_count (paths b s) true (length s) n least most (inside b s) fits enough p m le)
    ∙ passes_repeat (paths b s) f true (length s) (inside b s) same least (optional_count n least most) p m le)

mutual
  pub means : (names : Names) (groups : ℕ) (r : PlainText) → text_fits names groups r → (n : ℕ) (s : List ℕ) → length s + 2 ≤ n → Alike (length s) (paths (tree_of_text names r) s) (outcomes n names r s)
  means names groups (unit test) h n s enough p m le = ap passes (single (test_node test) s p m) ∙ unit_means test s p m
  means names groups (anchor k) h n s enough p m le = ap passes (single (PlainNode.at k) s p m) ∙ passes_attempt (is_at_anchor k s p) 2 p m
  means names groups (reference at id) h n s enough p m le =
      ap passes (single (PlainNode.ref (number_of names id)) s p m) ∙ reference_means (span_of m (number_of names id)) s p m
  means names groups (conditional at id met) h n s enough p m le =
      ap passes (single (PlainNode.exists (number_of names id) (tree_of_text names met)) s p m)
      ∙ passes_choice (is_some (span_of m (number_of names id))) (paths (tree_of_text names met) s p m) (stay p m) (outcomes n names met s p m) (here p m)
      (means names groups met h.1 n s enough p m le) refl
  means names groups (conditional_else at id met other) h n s enough p m le =
      ap passes (single (PlainNode.exists_else (number_of names id) (tree_of_text names met) (tree_of_text names other)) s p m)
      ∙ passes_choice (is_some (span_of m (number_of names id))) (paths (tree_of_text names met) s p m) (paths (tree_of_text names other) s p m)
      (outcomes n names met s p m) (outcomes n names other s p m) (means names groups met h.1 n s enough p m le) (means names groups other h.2 n s enough p m le)
  means names groups (sequence parts) h n s enough p m le = parts_mean names groups parts h n s enough p m le
  means names groups (alternation branches) h n s enough p m le =
      ap passes (single (branch (trees_of_branches names branches)) s p m) ∙ branches_mean names groups branches h n s enough p m le
  means names groups (counted at least most mode body) h n s enough p m le =
      ap passes (single (PlainNode.repeat (kind_of_mode mode) (is_one_unit body) least (greatest most) (tree_of_text names body)) s p m)
      ∙ count_means mode (is_one_unit body) least most (tree_of_text names body) (outcomes n names body s) n s h.0 enough (means names groups body h.1 n s enough) p m le
  means names groups (capture at number name body) h n s enough p m le =
      ap passes (single (PlainNode.group number (tree_of_text names body)) s p m)
      ∙ passes_captured number p (paths (tree_of_text names body) s p m) ∙ ap (closing number p) (means names groups body h.1 n s enough p m le)
  means names groups (plain at body) h n s enough p m le = means names groups body h n s enough p m le
  means names groups (atomic_text at body) h n s enough p m le =
      ap passes (single (PlainNode.atomic (tree_of_text names body)) s p m)
      ∙ passes_cut (paths (tree_of_text names body) s p m) ∙ ap first_of_all (means names groups body h n s enough p m le)
  means names groups (look_text at positive false body) h n s enough p m le =
      ap passes (single (look positive 0 (tree_of_text names body)) s p m)
      ∙ ahead_means positive (tree_of_text names body) s p m (outcomes n names body s p m) (means names groups body h.1 n s enough p m le)
  means names groups (look_text at positive true body) h n s enough p m le =
      ap passes (single (look positive (back_of true (width body)) (tree_of_text names body)) s p m)
      ∙ behind_means positive (width body) (tree_of_text names body) (outcomes n names body s) s p m h.0 le
      (λ k w q. width_ends n names body s q k m w) (λ q l. means names groups body h.1 n s enough q m l)

  parts_mean : (names : Names) (groups : ℕ) (rs : PlainTexts) → texts_fit names groups rs → (n : ℕ) (s : List ℕ) → length s + 2 ≤ n → Alike (length s) (paths (tree_of_parts names rs) s) (outcomes_in_turn n names rs s)
  parts_mean names groups done h n s enough p m le = refl
  parts_mean names groups (r also rs) h n s enough p m le =
      ap passes (joined (tree_of_text names r) (tree_of_parts names rs) s p m)
      ∙ passes_after p (length s) (paths (tree_of_text names r) s p m) (paths (tree_of_parts names rs) s) (outcomes_in_turn n names rs s)
      (inside (tree_of_text names r) s p m le) (parts_mean names groups rs h.1 n s enough)
      ∙ ap (λ l. each_then l (outcomes_in_turn n names rs s)) (means names groups r h.0 n s enough p m le)

  branches_mean : (names : Names) (groups : ℕ) (rs : PlainTexts) → texts_fit names groups rs → (n : ℕ) (s : List ℕ) → length s + 2 ≤ n → Alike (length s) (all_paths (trees_of_branches names rs) s) (outcomes_of_each n names rs s)
  branches_mean names groups done h n s enough p m le = refl
  branches_mean names groups (r also done) h n s enough p m le = means names groups r h.0 n s enough p m le ∙ sym (append_nil (outcomes n names r s p m))
  branches_mean names groups (r also q also rs) h n s enough p m le =
      passes_append (paths (tree_of_text names r) s p m) (all_paths (trees_of_branches names (q also rs)) s p m)
      ∙ (λ i. means names groups r h.0 n s enough p m le i ++ branches_mean names groups (q also rs) h.1 n s enough p m le i)
