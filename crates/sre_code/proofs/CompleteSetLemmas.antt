-- A set that is spelled is read.
use Rattle.std.proofs.Common.{◌≡◌, refl, ap, ◌∙◌, ℕ, zero, suc, ◌+◌, ◌*◌, ◌/◌, ◌%◌, ◌≤◌, ◌<◌, Bool, true, false, List, [], ◌∷◌, ◌++◌, length, append_assoc, arith, length-append}
use Rattle.std.specs.Prelude.{Ok, if◌then◌else◌}
use Rattle.std.proofs.lemmas.Bool.{eq-eqb}
use Rattle.py_base.specs.Reading.{◌and_then◌, is_next}
use Rattle.py_base.proofs.GivesLemmas.{Gives, it, done, reads, passes, skips, spelled, many_again}
use Rattle.sre_code.specs.declared.opcodes.TheConstants.{FAILURE, NEGATE}
use Rattle.sre_code.specs.declared.set.SetItem.{SetItem}
use Rattle.sre_code.specs.declared.set.SetItem.TheVariants.{Literal, Span, Category, Bits, Blocks}
use Rattle.sre_code.specs.PlainTree.{one_of, ◌then◌}
use Rattle.sre_code.specs.Spelling.{item_words, item_fits, items_words, items_fit, node_words}
use Rattle.sre_code.specs.Decoding.Decoder.{Body, invalid}
use Rattle.sre_code.specs.Decoding.Words.{read_words}
use Rattle.sre_code.specs.Decoding.Sets.{read_bigcharset, read_item, read_items, read_negate, read_in}
use Rattle.sre_code.specs.Decoding.Nodes.{read_node}

-- sets
bigcharset_again : (map blocks x : List ℕ) → (length map ≡ 64) × (length blocks % 8 ≡ 0) → Gives (read_bigcharset ((length blocks / 8) ∷ ((map ++ blocks) ++ x))) (Blocks map blocks) x
bigcharset_again map blocks x h =
    reads _ (spelled (read_words 64) (append_assoc map blocks x) (many_again _ 64 map (blocks ++ x) h.0))
    (reads _ (many_again _ (8 * (length blocks / 8)) blocks x (omega (arith, h.1))) done)

item_again : (i : SetItem) (x : List ℕ) → item_fits i → Gives (read_item (item_words i ++ x)) i x
item_again (Literal c) x h = it refl
item_again (Span lo hi) x h = it refl
item_again (Category k) x h = it (ap (λ b. if b then Ok (Category k, x) else invalid) h)
item_again (Bits bits) x h = it (ap (λ r. r and_then λ bits rest. Ok (Bits bits, rest)) (many_again _ 8 bits x h).is)
item_again (Blocks map blocks) x h = it (bigcharset_again map blocks x h).is

no_last : (i : SetItem) (x : List ℕ) → (is_next FAILURE (item_words i ++ x) ≡ false) × (is_next NEGATE (item_words i ++ x) ≡ false)
no_last (Literal c) x = (refl, refl)
no_last (Span lo hi) x = (refl, refl)
no_last (Category k) x = (refl, refl)
no_last (Bits bits) x = (refl, refl)
no_last (Blocks map blocks) x = (refl, refl)

pub some_item : (i : SetItem) → 1 ≤ length (item_words i)
some_item (Literal c) = omega arith
some_item (Span lo hi) = omega arith
some_item (Category k) = omega arith
some_item (Bits bits) = omega arith
some_item (Blocks map blocks) = omega arith

items_again : (n : ℕ) (is : List SetItem) (x : List ℕ) → length (items_words is) < n → items_fit is → Gives (read_items n (items_words is ++ FAILURE ∷ x)) is x
items_again zero is x l h = let f : ⊥ = omega (arith, l) in absurd f
items_again (suc n) [] x l h = it refl
items_again (suc n) (i ∷ is) x l h =
    spelled (read_items (suc n)) (append_assoc (item_words i) (items_words is) (FAILURE ∷ x))
    (skips _ (no_last i (items_words is ++ FAILURE ∷ x)).0
    (reads _ (item_again i (items_words is ++ FAILURE ∷ x) h.0)
    (reads _ (items_again n is x (omega (arith, l, some_item i, length-append (item_words i) (items_words is))) h.1) done)))

no_negate : (is : List SetItem) (x : List ℕ) → is_next NEGATE (items_words is ++ FAILURE ∷ x) ≡ false
no_negate [] x = refl
no_negate (i ∷ is) x = ap (is_next NEGATE) (append_assoc (item_words i) (items_words is) (FAILURE ∷ x)) ∙ (no_last i (items_words is ++ FAILURE ∷ x)).1

in_again : (negated : Bool) (is : List SetItem) (skip : ℕ) (set x : List ℕ) → Gives (read_negate set) negated (items_words is ++ FAILURE ∷ x) → items_fit is → skip + length x ≡ length set + 1 → Gives (read_in (skip ∷ set)) (one_of negated is) x
in_again negated is skip set x e h l =
    reads _ e
    (reads _ (items_again (suc (length (items_words is ++ FAILURE ∷ x))) is x (omega (arith, length-append (items_words is) (FAILURE ∷ x))) h)
    (passes _ (eq-eqb (skip + length x) (length set + 1) l) done))

pub set_again : (negated : Bool) (is : List SetItem) (x : List ℕ) (groups : ℕ) (body : Body) → items_fit is → Gives (read_node groups body (node_words (one_of negated is) ++ x)) (one_of negated is) x
set_again true is x groups body h =
    let all : (items_words is ++ FAILURE ∷ []) ++ x ≡ items_words is ++ FAILURE ∷ x = append_assoc (items_words is) (FAILURE ∷ []) x in
    it (spelled (λ ws. read_in ((length (NEGATE ∷ items_words is) + 2) ∷ NEGATE ∷ ws)) all
    (in_again true is (length (NEGATE ∷ items_words is) + 2) (NEGATE ∷ (items_words is ++ FAILURE ∷ x)) x (it refl) h (omega (arith, length-append (items_words is) (FAILURE ∷ x))))).is
set_again false is x groups body h =
    let all : (items_words is ++ FAILURE ∷ []) ++ x ≡ items_words is ++ FAILURE ∷ x = append_assoc (items_words is) (FAILURE ∷ []) x in
    it (spelled (λ ws. read_in ((length (items_words is) + 2) ∷ ws)) all
    (in_again false is (length (items_words is) + 2) (items_words is ++ FAILURE ∷ x) x (skips _ (no_negate is x) done) h (omega (arith, length-append (items_words is) (FAILURE ∷ x))))).is
