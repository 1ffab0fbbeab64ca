-- What is read as a set is spelled so.
use Rattle.std.proofs.Common.{◌≡◌, refl, sym, ap, ◌∙◌, ℕ, zero, suc, ◌+◌, ◌*◌, ◌/◌, ◌≤◌, Bool, true, false, List, [], ◌∷◌, ◌++◌, length, append_assoc, arith, length-append}
use Rattle.std.specs.Prelude.{◌==◌}
use Rattle.std.proofs.lemmas.Bool.{eqb-true}
use Rattle.py_base.specs.Chars.Categories.{is_category}
use Rattle.py_base.specs.Reading.{is_next}
use Rattle.py_base.proofs.HoldsLemmas.{◌also◌, Holds, ok, bad, check, then_holds, if_holds, one_holds, many_hold, next_is, weaker, table_holds}
use Rattle.sre_code.specs.declared.opcodes.TheConstants.{FAILURE, CATEGORY, CHARSET, BIGCHARSET, IN, LITERAL, NEGATE, RANGE}
use Rattle.sre_code.specs.declared.set.SetItem.{SetItem}
use Rattle.sre_code.specs.PlainTree.{PlainNode, node_depth}
use Rattle.sre_code.specs.Spelling.{item_words, item_fits, items_words, items_fit, set_words, node_words, node_fits}
use Rattle.sre_code.specs.Decoding.Sets.{read_unit, read_range, read_category, read_charset, read_bigcharset, item_readers, read_item, read_items, read_negate, read_in}

-- the word op and these are the item's words, and then x
pub record IsItem (op : ℕ) (ws : List ℕ) (i : SetItem) (x : List ℕ) : Type 0 where
  pub are : op ∷ ws ≡ item_words i ++ x
  pub fits : item_fits i

a_unit : (ws : List ℕ) → Holds (IsItem LITERAL ws) (read_unit ws)
a_unit ws = then_holds (one_holds _ ws) λ c x e. ok (record { are = ap (λ v. LITERAL ∷ v) e; fits = tt })

a_range : (ws : List ℕ) → Holds (IsItem RANGE ws) (read_range ws)
a_range ws = then_holds (one_holds _ ws) λ lo x e. then_holds (one_holds _ x) λ hi y f. ok (record { are = ap (λ v. RANGE ∷ v) (e ∙ ap (λ v. lo ∷ v) f); fits = tt })

a_category : (ws : List ℕ) → Holds (IsItem CATEGORY ws) (read_category ws)
a_category ws = then_holds (one_holds _ ws) λ k x e. check (is_category k) _ _ _ λ t. record { are = ap (λ v. CATEGORY ∷ v) e; fits = t }

a_charset : (ws : List ℕ) → Holds (IsItem CHARSET ws) (read_charset ws)
a_charset ws = then_holds (many_hold _ 8 ws) λ bits x e. ok (record { are = ap (λ v. CHARSET ∷ v) e.0; fits = e.1 })

a_bigcharset : (ws : List ℕ) → Holds (IsItem BIGCHARSET ws) (read_bigcharset ws)
a_bigcharset ws =
    then_holds (one_holds _ ws) λ n x e.
    then_holds (many_hold _ 64 x) λ map y f.
    then_holds (many_hold _ (8 * n) y) λ blocks z g.
    let count : n ≡ length blocks / 8 = omega (arith, g.1) in
    let whole : x ≡ (map ++ blocks) ++ z = f.0 ∙ ap (λ v. map ++ v) g.0 ∙ sym (append_assoc map blocks z) in
    ok (record { are = ap (λ v. BIGCHARSET ∷ v) e ∙ (λ i. BIGCHARSET ∷ count i ∷ whole i); fits = (f.1, omega (arith, g.1)) })

abbrev AnItem : List ℕ → SetItem → List ℕ → Type 0
AnItem ws i x = (ws ≡ item_words i ++ x) × item_fits i

pub an_item : (ws : List ℕ) → Holds (AnItem ws) (read_item ws)
an_item ws =
    then_holds (one_holds _ ws) λ op rest e.
    weaker (table_holds (λ key. IsItem key rest) _ item_readers op rest (a_category rest also a_charset rest also a_bigcharset rest also a_unit rest also a_range rest also tt))
    λ i x p. (e ∙ p.are, p.fits)

some_items : (n : ℕ) (ws : List ℕ) → Holds (λ is x. (ws ≡ items_words is ++ FAILURE ∷ x) × items_fit is) (read_items n ws)
some_items zero ws = bad
some_items (suc n) ws =
    if_holds (is_next FAILURE ws) (λ b. ok (next_is FAILURE ws b, tt)) λ _.
    then_holds (an_item ws) λ i x e.
    then_holds (some_items n x) λ is y f.
    ok (e.0 ∙ ap (λ v. item_words i ++ v) f.0 ∙ sym (append_assoc (item_words i) (items_words is) (FAILURE ∷ y)), (e.1, f.1))

-- the word op and these are the node's words, and then x
pub record IsNode (op groups levels : ℕ) (ws : List ℕ) (n : PlainNode) (x : List ℕ) : Type 0 where
  pub are : op ∷ ws ≡ node_words n ++ x
  pub fits : node_fits n groups
  pub nesting : node_depth n ≤ levels

abbrev sign_words : Bool → List ℕ → List ℕ
sign_words true ws = NEGATE ∷ ws
sign_words false ws = ws

a_sign : (ws : List ℕ) → Holds (λ negated x. ws ≡ sign_words negated x) (read_negate ws)
a_sign ws = if_holds (is_next NEGATE ws) (λ b. ok (next_is NEGATE ws b)) (λ _. ok refl)

signed : (negated : Bool) (is : List SetItem) (set rest x : List ℕ) → set ≡ sign_words negated rest → rest ≡ items_words is ++ FAILURE ∷ x → set ≡ set_words negated is ++ FAILURE ∷ x
signed true is set rest x e f = e ∙ ap (λ v. NEGATE ∷ v) f
signed false is set rest x e f = e ∙ f

pub a_set : (groups levels : ℕ) (ws : List ℕ) → Holds (IsNode IN groups levels ws) (read_in ws)
a_set groups levels ws =
    then_holds (one_holds _ ws) λ skip set e.
    then_holds (a_sign set) λ negated rest f.
    then_holds (some_items (suc (length rest)) rest) λ is x g.
    check (skip + length x == length set + 1) _ _ _ λ t.
    let words : List ℕ = set_words negated is in
    let all : set ≡ words ++ FAILURE ∷ x = signed negated is set rest x f g.0 in
    let long : skip ≡ length words + 2 = omega (arith, eqb-true (skip + length x) (length set + 1) t, ap length all, length-append words (FAILURE ∷ x)) in
    record { are = ap (λ v. IN ∷ v) e ∙ (λ i. IN ∷ long i ∷ (all ∙ sym (append_assoc words (FAILURE ∷ []) x)) i); fits = g.1; nesting = omega arith }
