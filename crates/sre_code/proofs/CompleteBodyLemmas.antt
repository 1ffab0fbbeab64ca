-- A node with one body, or a repeat, that is spelled is read.
use Rattle.std.proofs.Common.{◌≡◌, refl, ap, ℕ, ◌+◌, ◌-◌, ◌*◌, ◌/◌, ◌%◌, ◌≤◌, Bool, true, false, List, [], ◌∷◌, ◌++◌, length, append_assoc, arith, length-append}
use Rattle.std.specs.Prelude.{◌==◌, nat_le, Ok, if◌then◌else◌, IsTrue}
use Rattle.std.proofs.lemmas.Bool.{eq-eqb, ne_eqb, le-leb, lt-leb, and_from, or_from}
use Rattle.py_base.proofs.GivesLemmas.{Gives, it, done, reads, passes, skips, spelled}
use Rattle.sre_code.specs.declared.opcodes.TheConstants.{SUCCESS, MARK, MAX_UNTIL, MIN_UNTIL}
use Rattle.sre_code.specs.declared.tree.RepeatKind.{RepeatKind}
use Rattle.sre_code.specs.declared.tree.RepeatKind.TheVariants.{Greedy, Lazy, Possessive}
use Rattle.sre_code.specs.PlainTree.{PlainTree, group, repeat, atomic, look, ◌then◌, is_unit}
use Rattle.sre_code.specs.Spelling.{spell}
use Rattle.sre_code.specs.Decoding.Decoder.{Body, invalid}
use Rattle.sre_code.specs.Decoding.Words.{is_odd, is_end}
use Rattle.sre_code.specs.Decoding.Bodies.{read_skipped, read_part, read_atomic, read_assert, read_mark}
use Rattle.sre_code.specs.Decoding.Repeats.{read_counts, read_repeat, read_possessive, read_repeat_one}

-- a reader of bodies reads this one
abbrev pub Knows : Body → PlainTree → Type 0
Knows body b = (x : List ℕ) → is_end x ≡ true → Gives (body (spell b ++ x)) b x

skipped_again : (body : Body) (b : PlainTree) (until skip more : ℕ) (x : List ℕ) → Knows body b → is_end (until ∷ x) ≡ true → skip ≡ length (spell b) + 1 + more → Gives (read_skipped body skip more ((spell b ++ until ∷ []) ++ x)) (b, until) x
skipped_again body b until skip more x k end l =
    let ws : List ℕ = (spell b ++ until ∷ []) ++ x in
    reads _ (spelled body (append_assoc (spell b) (until ∷ []) x) (k (until ∷ x) end))
    (passes _ (eq-eqb (skip + length x) (length ws + more) (omega (arith, l, length-append (spell b ++ until ∷ []) x, length-append (spell b) (until ∷ [])))) done)

pub part_again : (body : Body) (b : PlainTree) (until skip more : ℕ) (x : List ℕ) → Knows body b → is_end (until ∷ x) ≡ true → skip ≡ length (spell b) + 1 + more → Gives (read_part body until skip more ((spell b ++ until ∷ []) ++ x)) b x
part_again body b until skip more x k end l = reads _ (skipped_again body b until skip more x k end l) (passes _ (eq-eqb until until refl) done)

pub atomic_again : (body : Body) (b : PlainTree) (x : List ℕ) → Knows body b → Gives (read_atomic body ((length (spell b) + 2) ∷ ((spell b ++ SUCCESS ∷ []) ++ x))) (atomic b) x
atomic_again body b x k = reads _ (part_again body b SUCCESS (length (spell b) + 2) 1 x k refl (omega arith)) done

pub look_again : (positive : Bool) (back : ℕ) (body : Body) (b : PlainTree) (x : List ℕ) → Knows body b → Gives (read_assert positive body ((length (spell b) + 3) ∷ back ∷ ((spell b ++ SUCCESS ∷ []) ++ x))) (look positive back b) x
look_again positive back body b x k = reads _ (part_again body b SUCCESS (length (spell b) + 3) 2 x k refl (omega arith)) done

pub odd_last : (k : ℕ) → is_odd (2 * k + 1) ≡ true
odd_last k = eq-eqb ((2 * k + 1) % 2) 1 (omega arith)

pub even_first : (k : ℕ) → is_odd (2 * k) ≡ false
even_first k = ne_eqb ((2 * k) % 2) 1 (λ e. omega (arith, e))

pub mark_again : (groups g : ℕ) (body : Body) (b : PlainTree) (x : List ℕ) → (1 ≤ g) × (g ≤ groups) → Knows body b → Gives (read_mark groups body ((2 * (g - 1)) ∷ ((spell b ++ MARK ∷ (2 * (g - 1) + 1) ∷ []) ++ x))) (group g b) x
mark_again groups g body b x h k =
    let mark : ℕ = 2 * (g - 1) in
    let same : mark / 2 + 1 ≡ g = omega (arith, h.0) in
    skips _ (or_from (is_odd mark) (nat_le groups (mark / 2)) (even_first (g - 1)) (lt-leb groups (mark / 2) (omega (arith, h.0, h.1))))
    (reads _ (spelled body (append_assoc (spell b) (MARK ∷ (mark + 1) ∷ []) x) (k (MARK ∷ (mark + 1) ∷ x) (odd_last (g - 1))))
    (passes _ (and_from true (mark + 1 == mark + 1) refl (eq-eqb (mark + 1) (mark + 1) refl))
    (it (ap (λ n. Ok (group n b, x)) same))))

-- repeats
counts_again : (skip lo hi : ℕ) (x : List ℕ) → lo ≤ hi → Gives (read_counts (skip ∷ lo ∷ hi ∷ x)) (record { skip = skip; least = lo; greatest = hi }) x
counts_again skip lo hi x h = passes _ (le-leb lo hi h) done

pub repeat_again : (lo hi until : ℕ) (body : Body) (b : PlainTree) (x : List ℕ) (kind : RepeatKind) → lo ≤ hi → Knows body b → is_end (until ∷ x) ≡ true
    → Gives (if until == MAX_UNTIL then Ok (repeat Greedy false lo hi b, x) else if until == MIN_UNTIL then Ok (repeat Lazy false lo hi b, x) else invalid) (repeat kind false lo hi b) x
    → Gives (read_repeat body ((length (spell b) + 3) ∷ lo ∷ hi ∷ ((spell b ++ until ∷ []) ++ x))) (repeat kind false lo hi b) x
repeat_again lo hi until body b x kind h k end e =
    reads _ (counts_again (length (spell b) + 3) lo hi ((spell b ++ until ∷ []) ++ x) h)
    (reads _ (skipped_again body b until (length (spell b) + 3) 2 x k end (omega arith)) e)

pub possessive_again : (lo hi : ℕ) (body : Body) (b : PlainTree) (x : List ℕ) → lo ≤ hi → Knows body b → Gives (read_possessive body ((length (spell b) + 3) ∷ lo ∷ hi ∷ ((spell b ++ SUCCESS ∷ []) ++ x))) (repeat Possessive false lo hi b) x
possessive_again lo hi body b x h k =
    reads _ (counts_again (length (spell b) + 3) lo hi ((spell b ++ SUCCESS ∷ []) ++ x) h)
    (reads _ (part_again body b SUCCESS (length (spell b) + 3) 2 x k refl (omega arith)) done)

pub repeat_one_again : (kind : RepeatKind) (lo hi : ℕ) (body : Body) (b : PlainTree) (x : List ℕ) → lo ≤ hi → IsTrue (is_unit b) → Knows body b → Gives (read_repeat_one kind body ((length (spell b) + 4) ∷ lo ∷ hi ∷ ((spell b ++ SUCCESS ∷ []) ++ x))) (repeat kind true lo hi b) x
repeat_one_again kind lo hi body b x h u k =
    reads _ (counts_again (length (spell b) + 4) lo hi ((spell b ++ SUCCESS ∷ []) ++ x) h)
    (reads _ (part_again body b SUCCESS (length (spell b) + 4) 3 x k refl (omega arith)) (passes _ u done))
