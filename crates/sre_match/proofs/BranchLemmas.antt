-- Lists without some of their failed attempts, and alternatives that the unit here rules out.
use Rattle.sre_match.specs.Captures.{captures}
use Rattle.std.proofs.Math.Seq.{take-length}
use Rattle.std.proofs.Common.{take, drop, get_or, ◌-◌, ◌<◌, ◌≡◌, refl, sym, ap, subst, ◌∙◌, ℕ, ◌+◌, ◌≤◌, Bool, true, false, List, [], ◌∷◌, ◌++◌, arith, length, inl, inr}
use Rattle.std.specs.Prelude.{not, ◌&&◌, Option, Some, slice_get}
use Rattle.std.proofs.lemmas.List.{append-nil}
use Rattle.std.proofs.lemmas.Bool.{false≢true, and_parts}
use Rattle.sre_match.specs.declared.matcher.trail.ChoiceKind.{ChoiceKind}
use Rattle.sre_match.specs.declared.matcher.trail.ChoiceKind.TheVariants.{Try, Atomic, Ahead, Not}
use Rattle.sre_match.specs.declared.matcher.trail.Choice.{Choice}
use Rattle.sre_match.specs.declared.matcher.trail.Trail.{Trail}
use Rattle.sre_code.specs.PlainTree.{PlainNode, PlainTree, fail, any, any_all, lit, not_lit, one_of, at, group, ref, exists, exists_else, branch, repeat, atomic, look, nothing, ◌then◌}
use Rattle.sre_code.specs.declared.tree.Node.{Node}
use Rattle.sre_code.specs.TreeView.{trees_of, tree_of, node_of}
use Rattle.sre_match.specs.Attempts.{Attempt, failed, passed, Marks, Next, charge, after, cut, back_to, negated, chosen, cost_of}
use Rattle.sre_match.specs.Paths.{paths, node_paths, all_paths, attempt}
use Rattle.sre_match.specs.Anchors.{is_met, met_at}
use Rattle.sre_match.specs.Singles.{is_single, meets}
use Rattle.sre_match.specs.Branches.{each_paths, begins_single, is_out, left_of, Thin}
use Rattle.sre_match.specs.Machine.{part_next, onward, Frames, wrap, pile, to_try, Leaves}
use Rattle.sre_match.proofs.AfterLemmas.{IsFull, IsTotal, append_full, after_full, after-append, after-charge, charge_append}
use Rattle.sre_match.proofs.FullLemmas.{full}
use Rattle.sre_match.proofs.LessLemmas.{cost_charge}
use Rattle.sre_match.proofs.TurnLemmas.{to_try_charge}

pub thin_refl : (xs : List Attempt) → Thin xs xs
thin_refl [] = refl
thin_refl (failed c ∷ xs) = inr (xs, refl, thin_refl xs)
thin_refl (passed c e m ∷ xs) = (xs, refl, thin_refl xs)

thin_chosen : (ok : ℕ → Bool) (xs ys : List Attempt) → Thin xs ys → chosen ok xs ≡ chosen ok ys
thin_chosen ok [] ys h = ap (chosen ok) (sym h)
thin_chosen ok (failed c ∷ xs) ys (inl h) = thin_chosen ok xs ys h
thin_chosen ok (failed c ∷ xs) ys (inr h) = thin_chosen ok xs h.0 h.2 ∙ ap (chosen ok) (sym h.1)
thin_chosen ok (passed c e m ∷ xs) ys h =
    ap (λ (o : Option (ℕ × Marks)). elim (ok e) as (λ _. Option (ℕ × Marks)) [ true ↦ Some (e, m) | false ↦ o ]) (thin_chosen ok xs h.0 h.2) ∙ ap (chosen ok) (sym h.1)

cost_within : (b : Bool) (c x y : ℕ) → y ≤ x → (elim b as (λ _. ℕ) [ true ↦ c | false ↦ c + y ]) ≤ (elim b as (λ _. ℕ) [ true ↦ c | false ↦ c + x ])
cost_within true c x y h = omega arith
cost_within false c x y h = omega (arith, h)

thin_cost : (ok : ℕ → Bool) (xs ys : List Attempt) → Thin xs ys → cost_of ok ys ≤ cost_of ok xs
thin_cost ok [] ys h = omega (arith, ap (cost_of ok) h)
thin_cost ok (failed c ∷ xs) ys (inl h) = omega (arith, thin_cost ok xs ys h)
thin_cost ok (failed c ∷ xs) ys (inr h) = omega (arith, thin_cost ok xs h.0 h.2, ap (cost_of ok) h.1)
thin_cost ok (passed c e m ∷ xs) ys h = omega (arith, cost_within (ok e) c (cost_of ok xs) (cost_of ok h.0) (thin_cost ok xs h.0 h.2), ap (cost_of ok) h.1)

pub thin_left : (before xs ys : List Attempt) → Thin xs ys → Thin (before ++ xs) (before ++ ys)
thin_left [] xs ys h = h
thin_left (failed c ∷ before) xs ys h = inr (before ++ ys, refl, thin_left before xs ys h)
thin_left (passed c e m ∷ before) xs ys h = (before ++ ys, refl, thin_left before xs ys h)

thin_right : (xs ys zs : List Attempt) → Thin xs ys → Thin (xs ++ zs) (ys ++ zs)
thin_right [] ys zs h = let P : List Attempt → Type 0 = λ l. Thin zs (l ++ zs) in subst P (sym h) (thin_refl zs)
thin_right (failed c ∷ xs) ys zs (inl h) = inl (thin_right xs ys zs h)
thin_right (failed c ∷ xs) ys zs (inr h) = inr (h.0 ++ zs, ap (λ l. l ++ zs) h.1, thin_right xs h.0 zs h.2)
thin_right (passed c e m ∷ xs) ys zs h = (h.0 ++ zs, ap (λ l. l ++ zs) h.1, thin_right xs h.0 zs h.2)

pub thin_after : (xs ys : List Attempt) (f : Next) → Thin xs ys → Thin (after xs f) (after ys f)
thin_after [] ys f h = ap (λ l. after l f) h
thin_after (failed c ∷ xs) ys f (inl h) = inl (thin_after xs ys f h)
thin_after (failed c ∷ xs) ys f (inr h) = inr (after h.0 f, ap (λ l. after l f) h.1, thin_after xs h.0 f h.2)
thin_after (passed c e m ∷ xs) ys f h =
    let P : List Attempt → Type 0 = λ l. Thin (charge c (f e m) ++ after xs f) (after l f) in
    subst P (sym h.1) (thin_left (charge c (f e m)) (after xs f) (after h.0 f) (thin_after xs h.0 f h.2))

thin_cut : (xs ys : List Attempt) → Thin xs ys → Thin (cut xs) (cut ys)
thin_cut [] ys h = ap cut h
thin_cut (failed c ∷ xs) ys (inl h) = inl (thin_cut xs ys h)
thin_cut (failed c ∷ xs) ys (inr h) = inr (cut h.0, ap cut h.1, thin_cut xs h.0 h.2)
thin_cut (passed c e m ∷ xs) ys h = ([], ap cut h.1, refl)

thin_back : (p : ℕ) (xs ys : List Attempt) → Thin xs ys → Thin (back_to p xs) (back_to p ys)
thin_back p [] ys h = ap (back_to p) h
thin_back p (failed c ∷ xs) ys (inl h) = inl (thin_back p xs ys h)
thin_back p (failed c ∷ xs) ys (inr h) = inr (back_to p h.0, ap (back_to p) h.1, thin_back p xs h.0 h.2)
thin_back p (passed c e m ∷ xs) ys h = (back_to p h.0, ap (back_to p) h.1, thin_back p xs h.0 h.2)

thin_negated : (p : ℕ) (m : Marks) (xs ys : List Attempt) → Thin xs ys → Thin (negated p m xs) (negated p m ys)
thin_negated p m [] ys h = ([], ap (negated p m) h, refl)
thin_negated p m (failed c ∷ xs) ys (inl h) = inl (thin_negated p m xs ys h)
thin_negated p m (failed c ∷ xs) ys (inr h) = inr (negated p m h.0, ap (negated p m) h.1, thin_negated p m xs h.0 h.2)
thin_negated p m (passed c e n ∷ xs) ys h = inr ([], ap (negated p m) h.1, refl)

thin_wrap : (k : ChoiceKind) (f : Next) (p : ℕ) (m : Marks) (xs ys : List Attempt) → Thin xs ys → Thin (wrap k f p m xs) (wrap k f p m ys)
thin_wrap Try f p m xs ys h = thin_right xs ys (f p m) h
thin_wrap Atomic f p m xs ys h = thin_after (cut xs) (cut ys) f (thin_cut xs ys h)
thin_wrap Ahead f p m xs ys h = thin_after (back_to p (cut xs)) (back_to p (cut ys)) f (thin_back p (cut xs) (cut ys) (thin_cut xs ys h))
thin_wrap Not f p m xs ys h = thin_after (negated p m (cut xs)) (negated p m (cut ys)) f (thin_negated p m (cut xs) (cut ys) (thin_cut xs ys h))

thin_pile : (s : List ℕ) (fs : Frames) (m : Marks) (cs : List Choice) (xs ys : List Attempt) → Thin xs ys → Thin (pile s fs m cs xs) (pile s fs m cs ys)
thin_pile s fs m [] xs ys h = h
thin_pile s fs m (c ∷ cs) xs ys h =
    thin_wrap c.kind (onward fs (part_next c.part s) c.rest s) c.cursor.place _ (pile s fs m cs xs) (pile s fs m cs ys) (thin_pile s fs m cs xs ys h)

-- whatever the choices mean, failed attempts may be left out of what is tried now
pub leaves_thin : (s : List ℕ) (t : Trail) (n : ℕ) (xs ys : List Attempt) → Thin xs ys → Leaves n n (to_try s t xs) (to_try s t ys)
leaves_thin s t n xs ys h ok =
    let k = thin_pile s t.frames.items (captures t.marks.items) t.choices.items xs ys h in
    record { same = thin_chosen ok (to_try s t xs) (to_try s t ys) k; cost = omega (arith, thin_cost ok (to_try s t xs) (to_try s t ys) k) }

-- a node that is one unit
pub single_paths : (n : PlainNode) (s : List ℕ) (p : ℕ) (m : Marks) → is_single n ≡ true → node_paths n s p m ≡ attempt (met_at (meets n) s p) 1 (p + 1) m
single_paths fail s p m h = absurd (false≢true h)
single_paths any s p m h = refl
single_paths any_all s p m h = refl
single_paths (lit x) s p m h = refl
single_paths (not_lit x) s p m h = refl
single_paths (one_of true items) s p m h = refl
single_paths (one_of false items) s p m h = refl
single_paths (at k) s p m h = absurd (false≢true h)
single_paths (group g b) s p m h = absurd (false≢true h)
single_paths (ref g) s p m h = absurd (false≢true h)
single_paths (exists g y) s p m h = absurd (false≢true h)
single_paths (exists_else g y n) s p m h = absurd (false≢true h)
single_paths (branch ts) s p m h = absurd (false≢true h)
single_paths (repeat kind one_wide lo hi b) s p m h = absurd (false≢true h)
single_paths (atomic b) s p m h = absurd (false≢true h)
single_paths (look positive back b) s p m h = absurd (false≢true h)

not_true : (b : Bool) → not b ≡ true → b ≡ false
not_true true h = absurd (false≢true h)
not_true false h = refl

met_from : (a b : Bool) → a ≡ true → (a && not b) ≡ false → b ≡ true
met_from true true h o = refl
met_from true false h o = sym o
met_from false b h o = absurd (false≢true h)

no_cons : (t : PlainTree) (ts : List PlainTree) → t ∷ ts ≡ [] → ⊥
no_cons t ts e = let f : ⊥ = omega (arith, ap length e) in absurd f

-- an alternative that is out fails at its first unit
pub out_paths : (t : PlainTree) (s : List ℕ) (p : ℕ) (m : Marks) (unit : Option ℕ) → unit ≡ slice_get s p → is_out t unit ≡ true → paths t s p m ≡ failed 1 ∷ []
out_paths nothing s p m unit e h = absurd (false≢true h)
out_paths (n then t) s p m unit e h =
    let both = and_parts (is_single n) (not (is_met (meets n) unit)) h in
    let met : met_at (meets n) s p ≡ false = ap (is_met (meets n)) (sym e) ∙ not_true (is_met (meets n) unit) both.1 in
    ap (λ l. after l (paths t s)) (single_paths n s p m both.0 ∙ ap (λ b. attempt b 1 (p + 1) m) met)

left_step : (b : Bool) (t : PlainTree) (ts : List PlainTree) (s : List ℕ) (p : ℕ) (m : Marks) (unit : Option ℕ) → unit ≡ slice_get s p → is_out t unit ≡ b → Thin (each_paths ts s p m) (each_paths (left_of ts unit) s p m)
    → Thin (each_paths (t ∷ ts) s p m) (each_paths (elim b as (λ _. List PlainTree) [ true ↦ left_of ts unit | false ↦ t ∷ ts ]) s p m)
left_step true t ts s p m unit e h k =
    let P : List Attempt → Type 0 = λ l. Thin (l ++ each_paths ts s p m) (each_paths (left_of ts unit) s p m) in
    subst P (sym (out_paths t s p m unit e h)) (inl k)
left_step false t ts s p m unit e h k = thin_refl (each_paths (t ∷ ts) s p m)

-- those before the first one that is not out fail
pub left_thin : (ts : List PlainTree) (s : List ℕ) (p : ℕ) (m : Marks) (unit : Option ℕ) → unit ≡ slice_get s p → Thin (each_paths ts s p m) (each_paths (left_of ts unit) s p m)
left_thin [] s p m unit e = refl
left_thin (t ∷ ts) s p m unit e = left_step (is_out t unit) t ts s p m unit e refl (left_thin ts s p m unit e)

pub all_each : (ts : List PlainTree) (s : List ℕ) (p : ℕ) (m : Marks) → (ts ≡ [] → ⊥) → all_paths (trees_of ts) s p m ≡ each_paths ts s p m
all_each [] s p m h = absurd (h refl)
all_each (t ∷ []) s p m h = sym (append-nil (paths t s p m))
all_each (t ∷ u ∷ ts) s p m h = ap (λ l. paths t s p m ++ l) (all_each (u ∷ ts) s p m (λ e. no_cons u ts e))

-- an alternative whose first unit is met
pub met_paths : (n : PlainNode) (t : PlainTree) (s : List ℕ) (p : ℕ) (m : Marks) (unit : Option ℕ) → unit ≡ slice_get s p → is_single n ≡ true → is_out (n then t) unit ≡ false → paths (n then t) s p m ≡ charge 1 (paths t s (p + 1) m)
met_paths n t s p m unit e h o =
    let met : met_at (meets n) s p ≡ true = ap (is_met (meets n)) (sym e) ∙ met_from (is_single n) (is_met (meets n) unit) h o in
    ap (λ l. after l (paths t s)) (single_paths n s p m h ∙ ap (λ b. attempt b 1 (p + 1) m) met) ∙ append-nil (charge 1 (paths t s (p + 1) m))

-- an alternative that begins with a unit that is met has an attempt after it
pub met_some : (t : PlainTree) (s : List ℕ) (p : ℕ) (m : Marks) (unit : Option ℕ) → unit ≡ slice_get s p → begins_single t ≡ true → is_out t unit ≡ false → (xs : List Attempt) × (paths t s p m ≡ charge 1 xs) × IsFull xs
met_some nothing s p m unit e h o = absurd (false≢true h)
met_some (n then t) s p m unit e h o = (paths t s (p + 1) m, met_paths n t s p m unit e h o, full t s (p + 1) m)

pub met_nodes : (ns : List Node) (t : PlainTree) (s : List ℕ) (p : ℕ) (m : Marks) (unit : Option ℕ) → 1 ≤ length ns → tree_of ns ≡ t → unit ≡ slice_get s p → begins_single t ≡ true → is_out t unit ≡ false
    → paths t s p m ≡ charge 1 (paths (tree_of (take (length ns - 1) (drop 1 ns))) s (p + 1) m)
met_nodes [] t s p m unit l q e h o = let f : ⊥ = omega (arith, l) in absurd f
met_nodes (n ∷ ns) t s p m unit l q e h o =
    let k : length (n ∷ ns) - 1 ≡ length ns = omega arith in
    ap (λ x. paths x s p m) (sym q)
    ∙ met_paths (node_of n) (tree_of ns) s p m unit e (ap begins_single q ∙ h) (ap (λ x. is_out x unit) q ∙ o)
    ∙ ap (λ xs. charge 1 (paths (tree_of xs) s (p + 1) m)) (sym (ap (λ i. take i ns) k ∙ take-length ns))

-- its cost before all that is to be tried
pub charge_out : (s : List ℕ) (t : Trail) (xs ys : List Attempt) (f : Next) → IsTotal f → IsFull xs → (to_try s t (after (charge 1 xs ++ ys) f) ≡ charge 1 (to_try s t (after xs f ++ after ys f))) × IsFull (to_try s t (after xs f ++ after ys f))
charge_out s t xs ys f k h =
    let more = after_full xs f h k in
    let both = append_full (after xs f) (after ys f) more in
    let out = to_try_charge s t 1 (after xs f ++ after ys f) both in
    (ap (to_try s t) (after-append (charge 1 xs) ys f ∙ ap (λ l. l ++ after ys f) (after-charge 1 xs f k) ∙ sym (charge_append 1 (after xs f) (after ys f) more)) ∙ out.0, out.1)

-- so its read is paid for
pub met_paid : (ok : ℕ → Bool) (s : List ℕ) (t : Trail) (x : PlainTree) (p : ℕ) (m : Marks) (ys : List Attempt) (f : Next) → IsTotal f → begins_single x ≡ true → is_out x (slice_get s p) ≡ false
    → 1 ≤ cost_of ok (to_try s t (after (paths x s p m ++ ys) f))
met_paid ok s t x p m ys f k h o =
    let some = met_some x s p m (slice_get s p) refl h o in
    let out = charge_out s t some.0 ys f k some.2 in
    omega (arith, ap (λ l. cost_of ok (to_try s t (after (l ++ ys) f))) some.1, ap (cost_of ok) out.0, cost_charge ok 1 (to_try s t (after some.0 f ++ after ys f)) out.1)

-- such an alternative has a node
pub begins_some : (ns : List Node) (t : PlainTree) → tree_of ns ≡ t → begins_single t ≡ true → 1 ≤ length ns
begins_some [] t e h = absurd (false≢true (ap begins_single e ∙ h))
begins_some (n ∷ ns) t e h = omega arith

-- a list by its first item and the rest
pub list_split : (ts : List PlainTree) (t : PlainTree) → 1 ≤ length ts → t ≡ get_or ts 0 t → ts ≡ t ∷ take (length ts - 1) (drop 1 ts)
list_split [] t h e = let f : ⊥ = omega (arith, h) in absurd f
list_split (x ∷ xs) t h e =
    let k : length (x ∷ xs) - 1 ≡ length xs = omega arith in
    ap (λ y. y ∷ xs) (sym e) ∙ ap (λ ys. t ∷ ys) (sym (ap (λ i. take i xs) k ∙ take-length xs))

pub is_nil : {X : Type 0} (xs : List X) → length xs < 1 → xs ≡ []
is_nil [] h = refl
is_nil (x ∷ xs) h = let f : ⊥ = omega (arith, h) in absurd f

pub is_cons : {X : Type 0} (xs : List X) → 1 ≤ length xs → xs ≡ [] → ⊥
is_cons xs h e = let f : ⊥ = omega (arith, h, ap length e) in f
