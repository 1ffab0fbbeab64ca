-- One turn of the machine: what has an attempt, and nodes and trees one after another.
use Rattle.sre_match.specs.Captures.{captures}
use Rattle.std.proofs.Math.Seq.{take-length}
use Rattle.sre_code.specs.declared.tree.Node.{Node}
use Rattle.std.proofs.Common.{◌≤◌, ◌-◌, take, drop, length, get_or, arith, ◌≡◌, refl, sym, ap, ◌∙◌, ℕ, zero, suc, true, false, List, [], ◌∷◌, ◌++◌}
use Rattle.std.specs.Prelude.{Some}
use Rattle.std.proofs.lemmas.List.{append-nil}
use Rattle.sre_match.specs.declared.matcher.trail.Part.{Part}
use Rattle.sre_match.specs.declared.matcher.trail.Part.TheVariants.{Skip, Nodes, Trees, Back, Once}
use Rattle.sre_match.specs.declared.matcher.trail.Task.{Task}
use Rattle.sre_match.specs.declared.matcher.trail.Task.TheVariants.{Then, Mandatory, Again, EndGroup}
use Rattle.sre_match.specs.declared.matcher.trail.Trail.{Trail}
use Rattle.sre_code.specs.PlainTree.{PlainNode, PlainTree, nothing, ◌then◌, only, ◌or◌}
use Rattle.sre_code.specs.TreeView.{tree_of, trees_of, node_of}
use Rattle.sre_match.specs.Attempts.{Attempt, failed, passed, Marks, Next, stay, charge, after, captured_from}
use Rattle.sre_match.specs.Paths.{paths, node_paths, attempt}
use Rattle.sre_match.specs.Repeats.{optional}
use Rattle.sre_match.specs.Machine.{passes_down, part_next, task_next, run, onward, Frames, following, built, to_try}
use Rattle.sre_match.proofs.AfterLemmas.{IsTotal, IsFull, after_full, after_after, after_stay, stay_after}
use Rattle.sre_match.proofs.FullLemmas.{full, all_full, rep_full, optional_full}
use Rattle.sre_match.proofs.ChoiceLemmas.{pile_charge}

down_full : (n : ℕ) → IsTotal (passes_down n)
down_full zero p m = tt
down_full (suc n) p m = tt

pub part_full : (part : Part) (s : List ℕ) → IsTotal (part_next part s)
part_full Skip s p m = tt
part_full (Nodes ns) s p m = full (tree_of ns.now) s p m
part_full (Trees ts) s p m = all_full (trees_of ts.now) s p m
part_full (Back n) s p m = down_full n p m
part_full (Once body j) s p m = after_full (paths body.now s p m) (optional (paths body.now s) false j (Some p)) (full body.now s p m) (optional_full (paths body.now s) false j (Some p) (full body.now s))

pub task_full : (task : Task) (s : List ℕ) → IsTotal (task_next task s)
task_full (Then ns) s p m = full (tree_of ns.now) s p m
task_full (Mandatory greedy k body j) s p m = rep_full (paths body.now s) greedy k j (full body.now s) p m
task_full (Again greedy body j q) s p m = optional_full (paths body.now s) greedy j (Some q) (full body.now s) p m
task_full (EndGroup g q) s p m = tt

last_full : (xs : List Next) (f : Next) → ((i : ℕ) → IsTotal (following xs i)) → IsTotal f → (i : ℕ) → IsTotal (following (xs ++ f ∷ []) i)
last_full [] f h k zero = k
last_full [] f h k (suc i) = λ p m. tt
last_full (x ∷ xs) f h k zero = h 0
last_full (x ∷ xs) f h k (suc i) = last_full xs f (λ j. h (suc j)) k i

built_full : (s : List ℕ) (done : List Next) (fs : Frames) → ((i : ℕ) → IsTotal (following done i)) → (i : ℕ) → IsTotal (following (built s done fs) i)
built_full s done [] h = h
built_full s done (f ∷ fs) h =
    let g : Next = λ p m. after (task_next f.task s p m) (following done f.rest) in
    let k : IsTotal g = λ p m. after_full (task_next f.task s p m) (following done f.rest) (task_full f.task s p m) (h f.rest) in
    built_full s (done ++ g ∷ []) fs (last_full done g h k)

stay_full : (i : ℕ) → IsTotal (following (stay ∷ []) i)
stay_full zero p m = tt
stay_full (suc i) p m = tt

pub run_full : (fs : Frames) (i : ℕ) (s : List ℕ) → IsTotal (run fs i s)
run_full fs i s = built_full s (stay ∷ []) fs stay_full i

pub onward_full : (fs : Frames) (f : Next) (i : ℕ) (s : List ℕ) → IsTotal f → IsTotal (onward fs f i s)
onward_full fs f i s h p m = after_full (f p m) (run fs i s) (h p m) (run_full fs i s)

pub part_onward : (fs : Frames) (part : Part) (i : ℕ) (s : List ℕ) → IsTotal (onward fs (part_next part s) i s)
part_onward fs part i s = onward_full fs (part_next part s) i s (part_full part s)

-- a cost before all that is to be tried
pub to_try_charge : (s : List ℕ) (t : Trail) (c : ℕ) (xs : List Attempt) → IsFull xs → (to_try s t (charge c xs) ≡ charge c (to_try s t xs)) × IsFull (to_try s t xs)
to_try_charge s t c xs h = pile_charge s t.frames.items (captures t.marks.items) t.choices.items c xs h (λ d. part_onward t.frames.items d.part d.rest s)

-- a node and the rest of its tree
pub node_first : (n : PlainNode) (t : PlainTree) (s : List ℕ) (p : ℕ) (m : Marks) (r f : Next) → IsTotal r → ((e : ℕ) (l : Marks) → f e l ≡ after (paths t s e l) r)
    → after (paths (n then t) s p m) r ≡ after (node_paths n s p m) f
node_first n t s p m r f k h =
    after_after (node_paths n s p m) (paths t s) r k ∙ ap (λ (g : Next). after (node_paths n s p m) g) (λ i e l. sym (h e l) i)

-- one attempt
pub passed_on : (c e : ℕ) (m : Marks) (f : Next) → after (attempt true c e m) f ≡ charge c (f e m)
passed_on c e m f = append-nil (charge c (f e m))

-- a group
pub close_later : (g p : ℕ) (xs : List Attempt) (f h : Next) → ((e : ℕ) (m : Marks) → h e m ≡ after (passed 0 e (m ++ record { group = g; start = p; stop = e } ∷ []) ∷ []) f)
    → after (captured_from g p xs) f ≡ after xs h
close_later g p [] f h e = refl
close_later g p (failed c ∷ xs) f h e = ap (λ ys. failed c ∷ ys) (close_later g p xs f h e)
close_later g p (passed c stop m ∷ xs) f h e =
    λ i. charge c ((sym (stay_after stop (m ++ record { group = g; start = p; stop = stop } ∷ []) f) ∙ sym (e stop m)) i) ++ close_later g p xs f h e i

-- a list of nodes that has one
pub tree_split : (ns : List Node) (n : Node) → 1 ≤ length ns → n ≡ get_or ns 0 n → tree_of ns ≡ node_of n then tree_of (take (length ns - 1) (drop 1 ns))
tree_split [] n h e = let f : ⊥ = omega arith in absurd f
tree_split (x ∷ xs) n h e =
    let l : length (x ∷ xs) - 1 ≡ length xs = omega arith in
    ap (λ y. node_of y then tree_of xs) (sym e) ∙ ap (λ ys. node_of n then tree_of ys) (sym (ap (λ k. take k xs) l ∙ take-length xs))

-- an iteration, and then the rest of the repeat
pub once_more : (body f g : Next) (h : Next) (k : Next) (p : ℕ) (m : Marks) → IsTotal k → ((e : ℕ) (l : Marks) → h e l ≡ after (g e l) k) → after (after (body p m) g) k ≡ after (body p m) h
once_more body f g h k p m t e = after_after (body p m) g k t ∙ ap (λ (x : Next). after (body p m) x) (λ i a b. sym (e a b) i)

pub trees_cons : (t : PlainTree) (ts : List PlainTree) → (ts ≡ [] → ⊥) → trees_of (t ∷ ts) ≡ t or trees_of ts
trees_cons t [] h = absurd (h refl)
trees_cons t (u ∷ ts) h = refl

-- one alternative alone
pub alone : (ts : List PlainTree) (t : PlainTree) → length ts ≡ 1 → t ≡ get_or ts 0 t → trees_of ts ≡ only t
alone [] t h e = let f : ⊥ = omega (arith, h) in absurd f
alone (x ∷ []) t h e = ap (λ y. only y) (sym e)
alone (x ∷ y ∷ ts) t h e = let f : ⊥ = omega (arith, h) in absurd f

-- the last node
pub tree_last : (ns : List Node) (n : Node) → length ns ≡ 1 → n ≡ get_or ns 0 n → tree_of ns ≡ node_of n then nothing
tree_last [] n h e = let f : ⊥ = omega (arith, h) in absurd f
tree_last (x ∷ []) n h e = ap (λ y. node_of y then nothing) (sym e)
tree_last (x ∷ y ∷ xs) n h e = let f : ⊥ = omega (arith, h) in absurd f

pub node_last : (n : PlainNode) (s : List ℕ) (p : ℕ) (m : Marks) (f : Next) → after (paths (n then nothing) s p m) f ≡ after (node_paths n s p m) f
node_last n s p m f = ap (λ l. after l f) (after_stay (node_paths n s p m))
