-- What is read as a branch or a conditional is spelled so.
use Rattle.std.proofs.Common.{◌≡◌, refl, sym, ap, ◌∙◌, ℕ, zero, suc, ◌+◌, ◌-◌, ◌≤◌, true, List, [], ◌∷◌, ◌++◌, length, drop, append_assoc, arith, length-append}
use Rattle.std.specs.Prelude.{Option, Some, None, ◌==◌, ◌&&◌, ◌||◌, nat_lt, nat_le}
use Rattle.std.proofs.lemmas.Bool.{eqb-true, leb-true, leb-false, ltb-false, and_parts, or_parts}
use Rattle.std.proofs.lemmas.List.{append-nil}
use Rattle.py_base.specs.Reading.{is_next}
use Rattle.py_base.proofs.HoldsLemmas.{Holds, ok, bad, check, guard, then_holds, if_holds, one_holds, many_hold, next_is, weaker}
use Rattle.sre_code.specs.declared.opcodes.TheConstants.{FAILURE, BRANCH, GROUPREF_EXISTS, JUMP}
use Rattle.sre_code.specs.PlainTree.{PlainTree, depth, trees_depth}
use Rattle.sre_code.specs.TreeView.{trees_of}
use Rattle.sre_code.specs.Spelling.{spell, alternatives_words, tree_fits, alternatives_fit}
use Rattle.sre_code.specs.Decoding.Decoder.{Body}
use Rattle.sre_code.specs.Decoding.Branches.{read_alternative, read_alternatives, read_branch}
use Rattle.sre_code.specs.Decoding.Conditionals.{read_second, exists_of, read_choice, read_exists}
use Rattle.sre_code.proofs.ListLemmas.{split_jump}
use Rattle.sre_code.proofs.SoundSetLemmas.{IsNode}
use Rattle.sre_code.proofs.SoundBodyLemmas.{IsBody, IsSound, a_part}

-- an alternative, whose jump leads to where so many words are left
pub record IsAlternative (groups levels : ℕ) (ws : List ℕ) (t : PlainTree) (left : ℕ) (x : List ℕ) : Type 0 where
  pub jump : ℕ
  pub are : ws ≡ (length (spell t) + 3) ∷ (spell t ++ JUMP ∷ jump ∷ x)
  pub leads : jump + left ≡ length x + 1
  pub fits : tree_fits t groups
  pub nesting : depth t + 1 ≤ levels

pub an_alternative : (groups levels : ℕ) (body : Body) (ws : List ℕ) → IsSound groups levels body → Holds (λ t x. IsAlternative groups levels ws t.0 t.1 x) (read_alternative body ws)
an_alternative groups levels body ws h =
    then_holds (one_holds _ ws) λ skip r1 e.
    then_holds (a_part groups levels JUMP skip 2 body r1 h) λ t r2 p.
    then_holds (one_holds _ r2) λ jump x f.
    check (nat_le jump (length x + 1)) _ _ _ λ c.
    let long : skip ≡ length (spell t) + 3 = omega (arith, p.long) in
    let all : r1 ≡ spell t ++ JUMP ∷ jump ∷ x = p.are ∙ append_assoc (spell t) (JUMP ∷ []) r2 ∙ ap (λ v. spell t ++ JUMP ∷ v) f in
    record { jump = jump; are = e ∙ (λ i. long i ∷ all i); leads = omega (arith, leb-true jump (length x + 1) c); fits = p.fits; nesting = p.nesting }

-- the alternatives after one, up to the last word of a branch
abbrev pub rest_words : List PlainTree → List ℕ
rest_words [] = FAILURE ∷ []
rest_words (t ∷ ts) = alternatives_words (trees_of (t ∷ ts))

pub first_words : (t : PlainTree) (ts : List PlainTree) → alternatives_words (trees_of (t ∷ ts)) ≡ (length (spell t) + 3) ∷ (spell t ++ JUMP ∷ (length (rest_words ts) + 1) ∷ rest_words ts)
first_words t [] = refl
first_words t (u ∷ ts) = refl

abbrev pub all_fit : List PlainTree → ℕ → ℕ → Type 0
all_fit [] groups levels = Unit {0}
all_fit (t ∷ ts) groups levels = tree_fits t groups × (depth t + 1 ≤ levels) × all_fit ts groups levels

with_first : (groups levels : ℕ) (ws : List ℕ) (t : PlainTree) (ts : List PlainTree) (left : ℕ) (x y : List ℕ) → IsAlternative groups levels ws t left x → x ≡ rest_words ts ++ y → length y ≡ left → ws ≡ rest_words (t ∷ ts) ++ y
with_first groups levels ws t ts left x y p e l =
    let jump : p.jump ≡ length (rest_words ts) + 1 = omega (arith, p.leads, l, ap length e, length-append (rest_words ts) y) in
    p.are ∙ (λ i. (length (spell t) + 3) ∷ (spell t ++ JUMP ∷ jump i ∷ e i))
    ∙ ap (λ v. (length (spell t) + 3) ∷ v) (sym (append_assoc (spell t) (JUMP ∷ (length (rest_words ts) + 1) ∷ rest_words ts) y))
    ∙ ap (λ v. v ++ y) (sym (first_words t ts))

some_alternatives : (n : ℕ) (groups levels : ℕ) (body : Body) (left : ℕ) (ws : List ℕ) → IsSound groups levels body → Holds (λ ts x. (ws ≡ rest_words ts ++ x) × (length x ≡ left) × all_fit ts groups levels) (read_alternatives n body left ws)
some_alternatives zero groups levels body left ws h = bad
some_alternatives (suc n) groups levels body left ws h =
    if_holds (is_next FAILURE ws)
    (λ b. check (length (drop 1 ws) == left) _ _ _ λ t. (next_is FAILURE ws b, eqb-true (length (drop 1 ws)) left t, tt)) λ _.
    then_holds (an_alternative groups levels body ws h) λ t x p.
    if_holds (t.1 == left)
    (λ same. then_holds (some_alternatives n groups levels body left x h) λ ts y q.
    ok (with_first groups levels ws t.0 ts t.1 x y p q.0 (q.1 ∙ sym (eqb-true t.1 left same)), q.1, (p.fits, p.nesting, q.2)))
    λ _. bad

pub fit_back : (t : PlainTree) (ts : List PlainTree) (groups d : ℕ) → all_fit (t ∷ ts) groups d → alternatives_fit (trees_of (t ∷ ts)) groups × (trees_depth (trees_of (t ∷ ts)) ≤ d)
fit_back t [] groups d h = (h.0, h.1)
fit_back t (u ∷ ts) groups d h = let r = fit_back u ts groups d h.2 in ((h.0, r.0), omega (arith, h.1, r.1))

pub a_branch : (groups levels : ℕ) (body : Body) (ws : List ℕ) → IsSound groups levels body → Holds (IsNode BRANCH groups levels ws) (read_branch body ws)
a_branch groups levels body ws h =
    then_holds (an_alternative groups levels body ws h) λ t x p.
    then_holds (some_alternatives (suc (length x)) groups levels body t.1 x h) λ ts y q.
    let fit = fit_back t.0 ts groups levels (p.fits, p.nesting, q.2) in
    ok (record { are = ap (λ v. BRANCH ∷ v) (with_first groups levels ws t.0 ts t.1 x y p q.0 q.1); fits = fit.0; nesting = fit.1 })

-- the second body of a conditional, after the words that are left of the first
abbrev pub jump_words : Option PlainTree → List ℕ
jump_words None = []
jump_words (Some z) = JUMP ∷ (length (spell z) + 1) ∷ []

abbrev pub second_words : Option PlainTree → List ℕ
second_words None = []
second_words (Some z) = spell z

abbrev second_fits : Option PlainTree → ℕ → ℕ → Type 0
second_fits None groups levels = Unit {0}
second_fits (Some z) groups levels = tree_fits z groups × (depth z + 1 ≤ levels)

pub record IsSecond (groups levels : ℕ) (left ws : List ℕ) (z : Option PlainTree) (x : List ℕ) : Type 0 where
  pub jumps : left ≡ jump_words z
  pub are : ws ≡ second_words z ++ x
  pub fit : second_fits z groups levels

pub none_left : (ws : List ℕ) → (length ws == 0) ≡ true → ws ≡ []
none_left [] h = refl
none_left (w ∷ ws) h = absurd (omega (arith, eqb-true (length (w ∷ ws)) 0 h))

a_second : (groups levels : ℕ) (body : Body) (left ws : List ℕ) → IsSound groups levels body → Holds (IsSecond groups levels left ws) (read_second body left ws)
a_second groups levels body left ws h =
    if_holds (length left == 0) (λ n. ok (record { jumps = none_left left n; are = refl; fit = tt })) λ _.
    then_holds (one_holds _ left) λ op more e.
    then_holds (one_holds _ more) λ jump end f.
    if_holds (op == JUMP && nat_le 1 jump && length end == 0)
    (λ c.
    let c1 = and_parts (op == JUMP && nat_le 1 jump) (length end == 0) c in
    let c2 = and_parts (op == JUMP) (nat_le 1 jump) c1.0 in
    let o : op ≡ JUMP = eqb-true op JUMP c2.0 in
    then_holds (many_hold _ (jump - 1) ws) λ part rest p.
    then_holds (h part) λ z last q.
    check (length last == 0) _ _ _ λ l.
    let all : part ≡ spell z = q.are ∙ ap (λ v. spell z ++ v) (none_left last l) ∙ append-nil (spell z) in
    let j : jump ≡ length (spell z) + 1 = omega (arith, p.1, ap length all, leb-true 1 jump c2.1) in
    record {
      jumps = e ∙ ap (λ v. op ∷ v) (f ∙ ap (λ v. jump ∷ v) (none_left end c1.1)) ∙ (λ i. o i ∷ j i ∷ []);
      are = p.0 ∙ ap (λ v. v ++ rest) all;
      fit = (q.fits, q.nesting);
    })
    λ _. bad

a_choice_of : (groups levels g n : ℕ) (ws part r left : List ℕ) (y : PlainTree) (z : Option PlainTree) (x : List ℕ) → (ws ≡ part ++ r) × (length part ≡ n) → (1 ≤ g) × (g ≤ groups) → IsBody groups levels part y left → IsSecond groups levels left r z x → IsNode GROUPREF_EXISTS groups levels ((g - 1) ∷ (n + 2) ∷ ws) (exists_of g y z) x
a_choice_of groups levels g n ws part r left y None x p in_groups b s =
    let whole : part ≡ spell y = b.are ∙ ap (λ v. spell y ++ v) s.jumps ∙ append-nil (spell y) in
    let long : n + 2 ≡ length (spell y) + 2 = omega (arith, p.1, ap length whole) in
    let all : ws ≡ spell y ++ x = p.0 ∙ (λ i. whole i ++ s.are i) in
    record { are = λ i. GROUPREF_EXISTS ∷ (g - 1) ∷ long i ∷ all i; fits = (in_groups, b.fits); nesting = b.nesting }
a_choice_of groups levels g n ws part r left y (Some z) x p in_groups b s =
    let jump : List ℕ = JUMP ∷ (length (spell z) + 1) ∷ [] in
    let whole : part ≡ spell y ++ jump = b.are ∙ ap (λ v. spell y ++ v) s.jumps in
    let long : n + 2 ≡ length (spell y) + 4 = omega (arith, p.1, ap length whole, length-append (spell y) jump) in
    let all : ws ≡ (spell y ++ JUMP ∷ (length (spell z) + 1) ∷ spell z) ++ x = p.0 ∙ (λ i. whole i ++ s.are i) ∙ sym (split_jump (spell y) (spell z) x JUMP (length (spell z) + 1)) in
    record { are = λ i. GROUPREF_EXISTS ∷ (g - 1) ∷ long i ∷ all i; fits = (in_groups, b.fits, s.fit.0); nesting = omega (arith, b.nesting, s.fit.1) }

a_choice : (groups levels g n : ℕ) (body : Body) (ws : List ℕ) → (1 ≤ g) × (g ≤ groups) → IsSound groups levels body → Holds (IsNode GROUPREF_EXISTS groups levels ((g - 1) ∷ (n + 2) ∷ ws)) (read_choice g body n ws)
a_choice groups levels g n body ws in_groups h =
    then_holds (many_hold _ n ws) λ part r p.
    then_holds (h part) λ y left b.
    then_holds (a_second groups levels body left r h) λ z x s.
    ok (a_choice_of groups levels g n ws part r left y z x p in_groups b s)

pub an_exists : (groups levels : ℕ) (body : Body) (ws : List ℕ) → IsSound groups levels body → Holds (IsNode GROUPREF_EXISTS groups levels ws) (read_exists groups body ws)
an_exists groups levels body ws h =
    then_holds (one_holds _ ws) λ g r1 e.
    then_holds (one_holds _ r1) λ skip r2 f.
    guard (nat_le groups g || nat_lt skip 2) _ λ c.
    let c1 = or_parts (nat_le groups g) (nat_lt skip 2) c in
    let same : g ≡ g + 1 - 1 = omega arith in
    let long : skip ≡ skip - 2 + 2 = omega (arith, ltb-false skip 2 c1.1) in
    weaker (a_choice groups levels (g + 1) (skip - 2) body r2 (omega arith, omega (arith, leb-false groups g c1.0)) h)
    λ n x p. record { are = ap (λ v. GROUPREF_EXISTS ∷ v) (e ∙ ap (λ v. g ∷ v) f ∙ (λ i. same i ∷ long i ∷ r2)) ∙ p.are; fits = p.fits; nesting = p.nesting }
