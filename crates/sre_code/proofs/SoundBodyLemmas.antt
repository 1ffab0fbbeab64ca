-- What is read as a node without a body, with one body or as a repeat is spelled so.
use Rattle.std.proofs.Common.{◌≡◌, refl, sym, ap, subst, ◌∙◌, ℕ, ◌+◌, ◌-◌, ◌*◌, ◌/◌, ◌%◌, ◌≤◌, Bool, true, false, List, [], ◌∷◌, ◌++◌, length, append_assoc, arith, length-append}
use Rattle.std.specs.Prelude.{◌==◌, ◌&&◌, ◌||◌, nat_lt, nat_le}
use Rattle.std.proofs.lemmas.Bool.{eqb-true, leb-true, leb-false, ltb-true, eqb-false, and_parts, or_parts}
use Rattle.py_base.proofs.HoldsLemmas.{Holds, ok, check, guard, then_holds, if_holds, one_holds}
use Rattle.sre_code.specs.declared.opcodes.TheConstants.{SUCCESS, AT, GROUPREF, LITERAL, MARK, MAX_UNTIL, MIN_UNTIL, NOT_LITERAL, REPEAT, ATOMIC_GROUP, POSSESSIVE_REPEAT}
use Rattle.sre_code.specs.declared.tree.RepeatKind.{RepeatKind}
use Rattle.sre_code.specs.declared.tree.RepeatKind.TheVariants.{Greedy, Lazy, Possessive}
use Rattle.sre_code.specs.declared.decoding.repeats.Counts.{Counts}
use Rattle.sre_code.specs.PlainTree.{PlainTree, repeat, depth, is_unit}
use Rattle.sre_code.specs.Anchors.{is_anchor}
use Rattle.sre_code.specs.Spelling.{look_word, repeat_word, until_word, repeat_skip, spell, tree_fits, wide_fits}
use Rattle.sre_code.specs.Decoding.Decoder.{Body}
use Rattle.sre_code.specs.Decoding.Words.{is_odd}
use Rattle.sre_code.specs.Decoding.Leaves.{read_literal, read_not_literal, read_at, read_groupref}
use Rattle.sre_code.specs.Decoding.Bodies.{read_skipped, read_part, read_atomic, read_assert, read_mark}
use Rattle.sre_code.specs.Decoding.Repeats.{read_counts, read_repeat, read_possessive, read_repeat_one}
use Rattle.sre_code.proofs.SoundSetLemmas.{IsNode}

-- nodes without a body
pub a_literal : (groups levels : ℕ) (ws : List ℕ) → Holds (IsNode LITERAL groups levels ws) (read_literal ws)
a_literal groups levels ws = then_holds (one_holds _ ws) λ c x e. ok (record { are = ap (λ v. LITERAL ∷ v) e; fits = tt; nesting = omega arith })

pub a_not_literal : (groups levels : ℕ) (ws : List ℕ) → Holds (IsNode NOT_LITERAL groups levels ws) (read_not_literal ws)
a_not_literal groups levels ws = then_holds (one_holds _ ws) λ c x e. ok (record { are = ap (λ v. NOT_LITERAL ∷ v) e; fits = tt; nesting = omega arith })

pub an_anchor : (groups levels : ℕ) (ws : List ℕ) → Holds (IsNode AT groups levels ws) (read_at ws)
an_anchor groups levels ws = then_holds (one_holds _ ws) λ k x e. check (is_anchor k) _ _ _ λ t. record { are = ap (λ v. AT ∷ v) e; fits = t; nesting = omega arith }

pub a_groupref : (groups levels : ℕ) (ws : List ℕ) → Holds (IsNode GROUPREF groups levels ws) (read_groupref groups ws)
a_groupref groups levels ws =
    then_holds (one_holds _ ws) λ g x e. check (nat_lt g groups) _ _ _ λ t.
    let same : g ≡ g + 1 - 1 = omega arith in
    record { are = ap (λ v. GROUPREF ∷ v) e ∙ ap (λ k. GROUPREF ∷ k ∷ x) same; fits = (omega arith, omega (arith, ltb-true g groups t)); nesting = omega arith }

-- a body, and then x
pub record IsBody (groups levels : ℕ) (ws : List ℕ) (b : PlainTree) (x : List ℕ) : Type 0 where
  pub are : ws ≡ spell b ++ x
  pub fits : tree_fits b groups
  pub nesting : depth b + 1 ≤ levels

-- a body that a skip passes
pub record IsSkipped (groups levels skip more : ℕ) (ws : List ℕ) (b : PlainTree) (until : ℕ) (x : List ℕ) : Type 0 where
  pub are : ws ≡ (spell b ++ until ∷ []) ++ x
  pub long : skip ≡ length (spell b) + 1 + more
  pub fits : tree_fits b groups
  pub nesting : depth b + 1 ≤ levels

abbrev pub IsSound : ℕ → ℕ → Body → Type 0
IsSound groups levels body = (ws : List ℕ) → Holds (IsBody groups levels ws) (body ws)

a_skipped : (groups levels skip more : ℕ) (body : Body) (ws : List ℕ) → IsSound groups levels body → Holds (λ b x. IsSkipped groups levels skip more ws b.0 b.1 x) (read_skipped body skip more ws)
a_skipped groups levels skip more body ws h =
    then_holds (h ws) λ b rest p.
    then_holds (one_holds _ rest) λ until x e.
    check (skip + length x == length ws + more) _ _ _ λ t.
    let all : ws ≡ (spell b ++ until ∷ []) ++ x = p.are ∙ ap (λ v. spell b ++ v) e ∙ sym (append_assoc (spell b) (until ∷ []) x) in
    record {
      are = all;
      long = omega (arith, eqb-true (skip + length x) (length ws + more) t, ap length all, length-append (spell b ++ until ∷ []) x, length-append (spell b) (until ∷ []));
      fits = p.fits;
      nesting = p.nesting;
    }

pub a_part : (groups levels until skip more : ℕ) (body : Body) (ws : List ℕ) → IsSound groups levels body → Holds (λ b x. IsSkipped groups levels skip more ws b until x) (read_part body until skip more ws)
a_part groups levels until skip more body ws h =
    then_holds (a_skipped groups levels skip more body ws h) λ b x p. check (b.1 == until) _ _ _ λ t.
    let P : ℕ → Type 0 = λ u. IsSkipped groups levels skip more ws b.0 u x in subst P (eqb-true b.1 until t) p

pub an_atomic : (groups levels : ℕ) (body : Body) (ws : List ℕ) → IsSound groups levels body → Holds (IsNode ATOMIC_GROUP groups levels ws) (read_atomic body ws)
an_atomic groups levels body ws h =
    then_holds (one_holds _ ws) λ skip rest e.
    then_holds (a_part groups levels SUCCESS skip 1 body rest h) λ b x p.
    let long : skip ≡ length (spell b) + 2 = omega (arith, p.long) in
    ok (record { are = ap (λ v. ATOMIC_GROUP ∷ v) e ∙ (λ i. ATOMIC_GROUP ∷ long i ∷ p.are i); fits = p.fits; nesting = p.nesting })

pub a_look : (groups levels : ℕ) (positive : Bool) (body : Body) (ws : List ℕ) → IsSound groups levels body → Holds (IsNode (look_word positive) groups levels ws) (read_assert positive body ws)
a_look groups levels positive body ws h =
    then_holds (one_holds _ ws) λ skip more e.
    then_holds (one_holds _ more) λ back rest f.
    then_holds (a_part groups levels SUCCESS skip 2 body rest h) λ b x p.
    let long : skip ≡ length (spell b) + 3 = omega (arith, p.long) in
    ok (record { are = ap (λ v. look_word positive ∷ v) (e ∙ ap (λ v. skip ∷ v) f) ∙ (λ i. look_word positive ∷ long i ∷ back ∷ p.are i); fits = p.fits; nesting = p.nesting })

pub a_group : (groups levels : ℕ) (body : Body) (ws : List ℕ) → IsSound groups levels body → Holds (IsNode MARK groups levels ws) (read_mark groups body ws)
a_group groups levels body ws h =
    then_holds (one_holds _ ws) λ mark r1 e.
    guard (is_odd mark || nat_le groups (mark / 2)) _ λ c.
    let c1 = or_parts (is_odd mark) (nat_le groups (mark / 2)) c in
    then_holds (h r1) λ b r2 p.
    then_holds (one_holds _ r2) λ until r3 f.
    then_holds (one_holds _ r3) λ last x g.
    check (until == MARK && last == mark + 1) _ _ _ λ t.
    let t1 = and_parts (until == MARK) (last == mark + 1) t in
    let n : ℕ = mark / 2 + 1 in
    let m : mark ≡ 2 * (n - 1) = omega (arith, eqb-false (mark % 2) 1 c1.0) in
    let u : until ≡ MARK = eqb-true until MARK t1.0 in
    let l : last ≡ 2 * (n - 1) + 1 = omega (arith, eqb-true last (mark + 1) t1.1, m) in
    let end : r2 ≡ MARK ∷ (2 * (n - 1) + 1) ∷ x = f ∙ (λ i. u i ∷ g i) ∙ ap (λ v. MARK ∷ v ∷ x) l in
    let all : r1 ≡ (spell b ++ MARK ∷ (2 * (n - 1) + 1) ∷ []) ++ x = p.are ∙ ap (λ v. spell b ++ v) end ∙ sym (append_assoc (spell b) (MARK ∷ (2 * (n - 1) + 1) ∷ []) x) in
    record {
      are = ap (λ v. MARK ∷ v) e ∙ (λ i. MARK ∷ m i ∷ all i);
      fits = ((omega arith, omega (arith, leb-false groups (mark / 2) c1.1)), p.fits);
      nesting = p.nesting;
    }

-- repeats
some_counts : (ws : List ℕ) → Holds (λ c x. (ws ≡ c.skip ∷ c.least ∷ c.greatest ∷ x) × (c.least ≤ c.greatest)) (read_counts ws)
some_counts ws =
    then_holds (one_holds _ ws) λ skip x e.
    then_holds (one_holds _ x) λ least y f.
    then_holds (one_holds _ y) λ greatest z g.
    check (nat_le least greatest) _ _ _ λ t. (e ∙ ap (λ v. skip ∷ v) f ∙ ap (λ v. skip ∷ least ∷ v) g, leb-true least greatest t)

a_repeat_of : (kind : RepeatKind) (one_wide : Bool) (groups levels : ℕ) (ws rest : List ℕ) (c : Counts) (b : PlainTree) (more until : ℕ) (x : List ℕ) → (ws ≡ c.skip ∷ c.least ∷ c.greatest ∷ rest) × (c.least ≤ c.greatest) → IsSkipped groups levels c.skip more rest b until x → until ≡ until_word kind one_wide → length (spell b) + 1 + more ≡ repeat_skip one_wide (length (spell b)) → wide_fits one_wide b → IsNode (repeat_word kind one_wide) groups levels ws (repeat kind one_wide c.least c.greatest b) x
a_repeat_of kind one_wide groups levels ws rest c b more until x e p u s w =
    let long : c.skip ≡ repeat_skip one_wide (length (spell b)) = p.long ∙ s in
    let P : ℕ → Type 0 = λ v. rest ≡ (spell b ++ v ∷ []) ++ x in
    let all : rest ≡ (spell b ++ until_word kind one_wide ∷ []) ++ x = subst P u p.are in
    record {
      are = ap (λ v. repeat_word kind one_wide ∷ v) e.0 ∙ (λ i. repeat_word kind one_wide ∷ long i ∷ c.least ∷ c.greatest ∷ all i);
      fits = (e.1, w, p.fits);
      nesting = p.nesting;
    }

pub a_repeat : (groups levels : ℕ) (body : Body) (ws : List ℕ) → IsSound groups levels body → Holds (IsNode REPEAT groups levels ws) (read_repeat body ws)
a_repeat groups levels body ws h =
    then_holds (some_counts ws) λ c rest e.
    then_holds (a_skipped groups levels c.skip 2 body rest h) λ b x p.
    if_holds (b.1 == MAX_UNTIL)
    (λ t. ok (a_repeat_of Greedy false groups levels ws rest c b.0 2 b.1 x e p (eqb-true b.1 MAX_UNTIL t) (omega arith) tt))
    λ _. check (b.1 == MIN_UNTIL) _ _ _ λ t. a_repeat_of Lazy false groups levels ws rest c b.0 2 b.1 x e p (eqb-true b.1 MIN_UNTIL t) (omega arith) tt

pub a_possessive : (groups levels : ℕ) (body : Body) (ws : List ℕ) → IsSound groups levels body → Holds (IsNode POSSESSIVE_REPEAT groups levels ws) (read_possessive body ws)
a_possessive groups levels body ws h =
    then_holds (some_counts ws) λ c rest e.
    then_holds (a_part groups levels SUCCESS c.skip 2 body rest h) λ b x p.
    ok (a_repeat_of Possessive false groups levels ws rest c b 2 1 x e p refl (omega arith) tt)

pub a_repeat_one : (kind : RepeatKind) (groups levels : ℕ) (body : Body) (ws : List ℕ) → SUCCESS ≡ until_word kind true → IsSound groups levels body → Holds (IsNode (repeat_word kind true) groups levels ws) (read_repeat_one kind body ws)
a_repeat_one kind groups levels body ws u h =
    then_holds (some_counts ws) λ c rest e.
    then_holds (a_part groups levels SUCCESS c.skip 3 body rest h) λ b x p.
    check (is_unit b) _ _ _ λ t. a_repeat_of kind true groups levels ws rest c b 3 1 x e p u (omega arith) t
