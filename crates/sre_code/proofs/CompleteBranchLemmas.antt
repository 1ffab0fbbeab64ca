-- A branch or a conditional that is spelled is read.
use Rattle.std.proofs.Common.{◌≡◌, refl, sym, ap, ◌∙◌, ℕ, zero, suc, ◌+◌, ◌-◌, ◌≤◌, true, List, [], ◌∷◌, ◌++◌, length, append_assoc, arith, length-append}
use Rattle.std.specs.Prelude.{Option, Some, None, ◌==◌, ◌&&◌, nat_lt, nat_le, Ok}
use Rattle.std.proofs.lemmas.Bool.{eq-eqb, ne_eqb, le-leb, lt-leb, le-ltb, and_from, or_from}
use Rattle.std.proofs.lemmas.List.{append-nil}
use Rattle.py_base.specs.Reading.{is_next}
use Rattle.py_base.proofs.GivesLemmas.{Gives, it, done, reads, passes, skips, spelled, many_again}
use Rattle.sre_code.specs.declared.opcodes.TheConstants.{FAILURE, JUMP}
use Rattle.sre_code.specs.PlainTree.{PlainTree, PlainTrees, exists, exists_else, branch, only, ◌or◌}
use Rattle.sre_code.specs.TreeView.{trees_of}
use Rattle.sre_code.specs.Spelling.{spell}
use Rattle.sre_code.specs.Decoding.Decoder.{Body}
use Rattle.sre_code.specs.Decoding.Words.{read_words, is_end}
use Rattle.sre_code.specs.Decoding.Bodies.{read_part}
use Rattle.sre_code.specs.Decoding.Branches.{read_alternative, read_alternatives, read_branch}
use Rattle.sre_code.specs.Decoding.Conditionals.{read_second, exists_of, read_choice, read_exists}
use Rattle.sre_code.proofs.ListLemmas.{split_jump}
use Rattle.sre_code.proofs.CompleteBodyLemmas.{Knows, part_again}
use Rattle.sre_code.proofs.SoundBranchLemmas.{rest_words, first_words, jump_words, second_words}

-- branches
alternative_again : (body : Body) (t : PlainTree) (jump : ℕ) (x : List ℕ) → Knows body t → jump ≤ length x + 1 → Gives (read_alternative body ((length (spell t) + 3) ∷ (spell t ++ JUMP ∷ jump ∷ x))) (t, length x + 1 - jump) x
alternative_again body t jump x k h =
    reads _ (spelled (read_part body JUMP (length (spell t) + 3) 2) (sym (append_assoc (spell t) (JUMP ∷ []) (jump ∷ x))) (part_again body t JUMP (length (spell t) + 3) 2 (jump ∷ x) k refl (omega arith)))
    (passes _ (le-leb jump (length x + 1) h) done)

abbrev pub AllKnown : Body → List PlainTree → Type 0
AllKnown body [] = Unit {0}
AllKnown body (t ∷ ts) = Knows body t × AllKnown body ts

-- the words of an alternative and of those after it
words_of : (t : PlainTree) (ts : List PlainTree) (x : List ℕ) → rest_words (t ∷ ts) ++ x ≡ (length (spell t) + 3) ∷ (spell t ++ JUMP ∷ (length (rest_words ts) + 1) ∷ (rest_words ts ++ x))
words_of t ts x = ap (λ v. v ++ x) (first_words t ts) ∙ ap (λ v. (length (spell t) + 3) ∷ v) (append_assoc (spell t) (JUMP ∷ (length (rest_words ts) + 1) ∷ rest_words ts) x)

one_again : (body : Body) (t : PlainTree) (ts : List PlainTree) (x : List ℕ) → Knows body t → Gives (read_alternative body (rest_words (t ∷ ts) ++ x)) (t, length x) (rest_words ts ++ x)
one_again body t ts x k =
    let jump : ℕ = length (rest_words ts) + 1 in
    let left : length (rest_words ts ++ x) + 1 - jump ≡ length x = omega (arith, length-append (rest_words ts) x) in
    it (ap (read_alternative body) (words_of t ts x)
    ∙ (alternative_again body t jump (rest_words ts ++ x) k (omega (arith, length-append (rest_words ts) x))).is
    ∙ ap (λ n. Ok ((t, n), rest_words ts ++ x)) left)

alternatives_again : (n : ℕ) (body : Body) (ts : List PlainTree) (x : List ℕ) → AllKnown body ts → length (rest_words ts) ≤ n → Gives (read_alternatives n body (length x) (rest_words ts ++ x)) ts x
alternatives_again zero body [] x k l = let f : ⊥ = omega (arith, l) in absurd f
alternatives_again zero body (t ∷ ts) x k l = let f : ⊥ = omega (arith, l, ap length (first_words t ts)) in absurd f
alternatives_again (suc n) body [] x k l = passes _ (eq-eqb (length x) (length x) refl) done
alternatives_again (suc n) body (t ∷ ts) x k l =
    let long = length-append (spell t) (JUMP ∷ (length (rest_words ts) + 1) ∷ rest_words ts) in
    skips {b = is_next FAILURE (rest_words (t ∷ ts) ++ x)} _ (ap (is_next FAILURE) (words_of t ts x) ∙ ne_eqb (length (spell t) + 3) 0 (λ e. omega (arith, e)))
    (reads _ (one_again body t ts x k.0)
    (passes _ (eq-eqb (length x) (length x) refl)
    (reads _ (alternatives_again n body ts x k.1 (omega (arith, l, long, ap length (first_words t ts)))) done)))

pub branch_again : (body : Body) (t : PlainTree) (ts : List PlainTree) (x : List ℕ) → AllKnown body (t ∷ ts) → Gives (read_branch body (rest_words (t ∷ ts) ++ x)) (branch (trees_of (t ∷ ts))) x
branch_again body t ts x k =
    reads _ (one_again body t ts x k.0)
    (reads _ (alternatives_again (suc (length (rest_words ts ++ x))) body ts x k.1 (omega (arith, length-append (rest_words ts) x))) done)

abbrev pub first_of : PlainTrees → PlainTree
first_of (only t) = t
first_of (t or ts) = t

abbrev pub more_of : PlainTrees → List PlainTree
more_of (only t) = []
more_of (t or ts) = first_of ts ∷ more_of ts

pub trees_back : (ts : PlainTrees) → trees_of (first_of ts ∷ more_of ts) ≡ ts
trees_back (only t) = refl
trees_back (t or ts) = ap (λ us. t or us) (trees_back ts)

-- conditionals
second_some : (body : Body) (z : PlainTree) (x : List ℕ) → Knows body z → Gives (read_second body (jump_words (Some z)) (spell z ++ x)) (Some z) x
second_some body z x k =
    let jump : ℕ = length (spell z) + 1 in
    passes _ (and_from (JUMP == JUMP && nat_le 1 jump) true (and_from true (nat_le 1 jump) refl (le-leb 1 jump (omega arith))) refl)
    (reads _ (many_again _ (jump - 1) (spell z) x (omega arith))
    (reads _ (spelled body (sym (append-nil (spell z))) (k [] refl)) done))

choice_again : (g n : ℕ) (body : Body) (y : PlainTree) (z : Option PlainTree) (ws x : List ℕ) → Knows body y → n ≡ length (spell y ++ jump_words z) → is_end (jump_words z) ≡ true → ws ≡ (spell y ++ jump_words z) ++ (second_words z ++ x) → Gives (read_second body (jump_words z) (second_words z ++ x)) z x → Gives (read_choice g body n ws) (exists_of g y z) x
choice_again g n body y z ws x k l end e s =
    reads _ (spelled (read_words n) e (many_again _ n (spell y ++ jump_words z) (second_words z ++ x) (sym l)))
    (reads _ (k (jump_words z) end) (reads _ s done))

exists_again : (groups g n : ℕ) (body : Body) (y : PlainTree) (z : Option PlainTree) (ws x : List ℕ) → (1 ≤ g) × (g ≤ groups) → Gives (read_choice g body n ws) (exists_of g y z) x → Gives (read_exists groups body ((g - 1) ∷ (n + 2) ∷ ws)) (exists_of g y z) x
exists_again groups g n body y z ws x h c =
    let same : g - 1 + 1 ≡ g = omega (arith, h.0) in
    let count : n + 2 - 2 ≡ n = omega arith in
    skips _ (or_from (nat_le groups (g - 1)) (nat_lt (n + 2) 2) (lt-leb groups (g - 1) (omega (arith, h.0, h.1))) (le-ltb (n + 2) 2 (omega arith)))
    (it ((λ i. read_choice (same i) body (count i) ws) ∙ c.is))

pub without_else : (groups g : ℕ) (body : Body) (y : PlainTree) (x : List ℕ) → (1 ≤ g) × (g ≤ groups) → Knows body y → Gives (read_exists groups body ((g - 1) ∷ (length (spell y) + 2) ∷ (spell y ++ x))) (exists g y) x
without_else groups g body y x h k =
    exists_again groups g (length (spell y)) body y None (spell y ++ x) x h
    (choice_again g (length (spell y)) body y None (spell y ++ x) x k (ap length (sym (append-nil (spell y)))) refl (ap (λ v. v ++ x) (sym (append-nil (spell y)))) (it refl))

pub with_else : (groups g : ℕ) (body : Body) (y z : PlainTree) (x : List ℕ) → (1 ≤ g) × (g ≤ groups) → Knows body y → Knows body z → Gives (read_exists groups body ((g - 1) ∷ (length (spell y) + 4) ∷ ((spell y ++ JUMP ∷ (length (spell z) + 1) ∷ spell z) ++ x))) (exists_else g y z) x
with_else groups g body y z x h k l =
    let ws : List ℕ = (spell y ++ JUMP ∷ (length (spell z) + 1) ∷ spell z) ++ x in
    let count : length (spell y) + 4 ≡ length (spell y) + 2 + 2 = omega arith in
    it (ap (λ n. read_exists groups body ((g - 1) ∷ n ∷ ws)) count
    ∙ (exists_again groups g (length (spell y) + 2) body y (Some z) ws x h
    (choice_again g (length (spell y) + 2) body y (Some z) ws x k (omega (arith, length-append (spell y) (jump_words (Some z)))) refl (split_jump (spell y) (spell z) x JUMP (length (spell z) + 1)) (second_some body z x l))).is)
