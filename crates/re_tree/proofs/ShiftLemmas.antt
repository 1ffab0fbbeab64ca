-- The machine reads the tokens of a tree as that tree, and only those.
use Rattle.std.proofs.Common.{◌≡◌, refl, sym, ◌∙◌, ap, subst, ℕ, zero, suc, ◌+◌, Bool, true, false, List, [], ◌∷◌, ◌++◌, append_assoc, arith}
use Rattle.std.specs.Prelude.{Option, Some, None}
use Rattle.re_tree.specs.PlainText.{PlainText, PlainTexts, unit, anchor, reference, conditional, conditional_else, sequence, alternation, counted, capture, plain, atomic_text, look_text, done, ◌also◌, captures, all_captures}
use Rattle.re_tree.specs.Tokens.{Opening, capturing, non_capturing, atomic_opening, look_opening, conditional_opening, Token, unit_token, anchor_token, reference_token, count_token, open_token, bar, close, tokens_of, tokens_in_turn, tokens_between}
use Rattle.re_tree.specs.Grammar.{is_countable, IsRegex, IsBranch, IsPiece, ArePieces, AreBranches}
use Rattle.re_tree.specs.Machine.{snoc, Frame, frame, State, state, groups_begun, put_first, one_if, count_last, regex_of, part_of, counted_state, closed_state, close_frame, step, run, run_on, finish, tree_of_tokens}

abbrev pub append : PlainTexts → PlainTexts → PlainTexts
append done qs = qs
append (r also rs) qs = r also append rs qs

append_done : (rs : PlainTexts) → append rs done ≡ rs
append_done done = refl
append_done (r also rs) = ap (λ l. r also l) (append_done rs)

snoc_append : (rs : PlainTexts) (q : PlainText) (qs : PlainTexts) → append (snoc rs q) qs ≡ append rs (q also qs)
snoc_append done q qs = refl
snoc_append (r also rs) q qs = ap (λ l. r also l) (snoc_append rs q qs)

snoc_is : (rs : PlainTexts) (q : PlainText) → snoc rs q ≡ append rs (q also done)
snoc_is done q = refl
snoc_is (r also rs) q = ap (λ l. r also l) (snoc_is rs q)

append_nil : (xs : List Token) → xs ++ [] ≡ xs
append_nil [] = refl
append_nil (x ∷ xs) = ap (λ l. x ∷ l) (append_nil xs)

-- a count takes the last piece
count_pushed : (f : PlainText → PlainText) (ps : PlainTexts) (r : PlainText) → is_countable r ≡ true → count_last f (snoc ps r) ≡ Some (snoc ps (f r))
count_pushed f done r h = ap (λ b. one_if b (f r)) h
count_pushed f (p also done) r h = ap (put_first p) (count_pushed f done r h)
count_pushed f (p also q also ps) r h = ap (put_first p) (count_pushed f (q also ps) r h)

from_groups : (a b : ℕ) (outer : List Frame) (bs ps : PlainTexts) (x : List Token) → a ≡ b → run (state a outer bs ps) x ≡ run (state b outer bs ps) x
from_groups a b outer bs ps x e = ap (λ n. run (state n outer bs ps) x) e

-- where the branches and the last pieces of a regex are read
pub record Read (g : ℕ) (outer : List Frame) (r : PlainText) (x : List Token) : Type 0 where
  pub branches : PlainTexts
  pub pieces : PlainTexts
  pub whole : regex_of branches pieces ≡ r
  pub runs : run (state g outer done done) (tokens_of r ++ x) ≡ run (state (g + captures r) outer branches pieces) x

-- the pieces of a branch
pub record Pieces (g : ℕ) (outer : List Frame) (bs : PlainTexts) (r : PlainText) (x : List Token) : Type 0 where
  pub pieces : PlainTexts
  pub whole : sequence pieces ≡ r
  pub runs : run (state g outer bs done) (tokens_of r ++ x) ≡ run (state (g + captures r) outer bs pieces) x

-- after a first branch
pub record More (g : ℕ) (outer : List Frame) (b : PlainText) (bs qs : PlainTexts) (x : List Token) : Type 0 where
  pub branches : PlainTexts
  pub pieces : PlainTexts
  pub whole : snoc (b also branches) (sequence pieces) ≡ append (b also bs) qs
  pub runs : run (state g outer (b also bs) done) (tokens_between qs ++ x) ≡ run (state (g + all_captures qs) outer (b also branches) pieces) x

abbrev IsSome : PlainTexts → Type 0
IsSome done = ⊥
IsSome (r also rs) = Unit {0}

-- an opening, its inside and the parenthesis that closes it
inside_group : (g : ℕ) (outer : List Frame) (bs ps : PlainTexts) (at : ℕ) (o : Opening) (r p : PlainText) (x : List Token) (n : ℕ)
    → Read (g + groups_begun o) (frame at o (g + 1) bs ps ∷ outer) r (close ∷ x)
    → ((cs qs : PlainTexts) → regex_of cs qs ≡ r → part_of o at (g + 1) cs qs ≡ Some p)
    → g + groups_begun o + captures r ≡ n
    → run (state g outer bs ps) ((open_token at o ∷ (tokens_of r ++ close ∷ [])) ++ x) ≡ run (state n outer bs (snoc ps p)) x
inside_group g outer bs ps at o r p x n h f e =
    ap (run (state (g + groups_begun o) (frame at o (g + 1) bs ps ∷ outer) done done)) (append_assoc (tokens_of r) (close ∷ []) x)
    ∙ h.runs
    ∙ ap (λ c. run_on (closed_state (g + groups_begun o + captures r) outer bs ps c) x) (f h.branches h.pieces h.whole)
    ∙ from_groups (g + groups_begun o + captures r) n outer bs (snoc ps p) x e

mutual
  piece_runs : (r : PlainText) (g : ℕ) (outer : List Frame) (bs ps : PlainTexts) (x : List Token) → IsPiece g r
      → run (state g outer bs ps) (tokens_of r ++ x) ≡ run (state (g + captures r) outer bs (snoc ps r)) x
  piece_runs (unit test) g outer bs ps x h = from_groups g (g + 0) outer bs (snoc ps (unit test)) x (omega arith)
  piece_runs (anchor k) g outer bs ps x h = from_groups g (g + 0) outer bs (snoc ps (anchor k)) x (omega arith)
  piece_runs (reference at id) g outer bs ps x h = from_groups g (g + 0) outer bs (snoc ps (reference at id)) x (omega arith)
  piece_runs (conditional at id met) g outer bs ps x h =
      let f : Frame = frame at (conditional_opening id) (g + 1) bs ps in
      let m : Pieces (g + 0) (f ∷ outer) done met (close ∷ x) = branch_runs met (g + 0) (f ∷ outer) done (close ∷ x) (subst (λ n. IsBranch n met) (omega arith) h) in
      ap (run (state (g + 0) (f ∷ outer) done done)) (append_assoc (tokens_of met) (close ∷ []) x)
      ∙ m.runs
      ∙ ap (λ q. run (state (g + 0 + captures met) outer bs (snoc ps (conditional at id q))) x) m.whole
      ∙ from_groups (g + 0 + captures met) (g + captures met) outer bs (snoc ps (conditional at id met)) x (omega arith)
  piece_runs (conditional_else at id met other) g outer bs ps x h =
      let f : Frame = frame at (conditional_opening id) (g + 1) bs ps in
      let m : Pieces (g + 0) (f ∷ outer) done met (bar ∷ (tokens_of other ++ close ∷ x)) =
      branch_runs met (g + 0) (f ∷ outer) done (bar ∷ (tokens_of other ++ close ∷ x)) (subst (λ n. IsBranch n met) (omega arith) h.0) in
      let k : Pieces (g + 0 + captures met) (f ∷ outer) (met also done) other (close ∷ x) =
      branch_runs other (g + 0 + captures met) (f ∷ outer) (met also done) (close ∷ x) (subst (λ n. IsBranch n other) (omega arith) h.1) in
      ap (run (state (g + 0) (f ∷ outer) done done)) (append_assoc (tokens_of met) (bar ∷ (tokens_of other ++ close ∷ [])) x ∙ ap (λ l. tokens_of met ++ bar ∷ l) (append_assoc (tokens_of other) (close ∷ []) x))
      ∙ m.runs
      ∙ ap (λ q. run (state (g + 0 + captures met) (f ∷ outer) (q also done) done) (tokens_of other ++ close ∷ x)) m.whole
      ∙ k.runs
      ∙ ap (λ q. run (state (g + 0 + captures met + captures other) outer bs (snoc ps (conditional_else at id met q))) x) k.whole
      ∙ from_groups (g + 0 + captures met + captures other) (g + (captures met + captures other)) outer bs (snoc ps (conditional_else at id met other)) x (omega arith)
  piece_runs (counted at least most mode body) g outer bs ps x h =
      ap (run (state g outer bs ps)) (append_assoc (tokens_of body) (count_token at least most mode ∷ []) x)
      ∙ piece_runs body g outer bs ps (count_token at least most mode ∷ x) h.1
      ∙ ap (λ c. run_on (counted_state (g + captures body) outer bs c) x) (count_pushed (counted at least most mode) ps body h.0)
  piece_runs (capture at number name body) g outer bs ps x h =
      inside_group g outer bs ps at (capturing name) body (capture at number name body) x (g + (captures body + 1))
      (regex_runs body (g + 1) (frame at (capturing name) (g + 1) bs ps ∷ outer) (close ∷ x) h.1)
      (λ cs qs e. λ i. Some (capture at (sym h.0 i) name (e i))) (omega arith)
  piece_runs (plain at body) g outer bs ps x h =
      inside_group g outer bs ps at non_capturing body (plain at body) x (g + captures body)
      (regex_runs body (g + 0) (frame at non_capturing (g + 1) bs ps ∷ outer) (close ∷ x) (subst (λ n. IsRegex n body) (omega arith) h))
      (λ cs qs e. λ i. Some (plain at (e i))) (omega arith)
  piece_runs (atomic_text at body) g outer bs ps x h =
      inside_group g outer bs ps at atomic_opening body (atomic_text at body) x (g + captures body)
      (regex_runs body (g + 0) (frame at atomic_opening (g + 1) bs ps ∷ outer) (close ∷ x) (subst (λ n. IsRegex n body) (omega arith) h))
      (λ cs qs e. λ i. Some (atomic_text at (e i))) (omega arith)
  piece_runs (look_text at positive back body) g outer bs ps x h =
      inside_group g outer bs ps at (look_opening positive back) body (look_text at positive back body) x (g + captures body)
      (regex_runs body (g + 0) (frame at (look_opening positive back) (g + 1) bs ps ∷ outer) (close ∷ x) (subst (λ n. IsRegex n body) (omega arith) h))
      (λ cs qs e. λ i. Some (look_text at positive back (e i))) (omega arith)
  piece_runs (sequence parts) g outer bs ps x h = absurd h
  piece_runs (alternation branches) g outer bs ps x h = absurd h

  pieces_run : (rs : PlainTexts) (g : ℕ) (outer : List Frame) (bs ps : PlainTexts) (x : List Token) → ArePieces g rs
      → run (state g outer bs ps) (tokens_in_turn rs ++ x) ≡ run (state (g + all_captures rs) outer bs (append ps rs)) x
  pieces_run done g outer bs ps x h = from_groups g (g + 0) outer bs ps x (omega arith) ∙ ap (λ l. run (state (g + 0) outer bs l) x) (sym (append_done ps))
  pieces_run (r also rs) g outer bs ps x h =
      ap (run (state g outer bs ps)) (append_assoc (tokens_of r) (tokens_in_turn rs) x)
      ∙ piece_runs r g outer bs ps (tokens_in_turn rs ++ x) h.0
      ∙ pieces_run rs (g + captures r) outer bs (snoc ps r) x h.1
      ∙ ap (λ l. run (state (g + captures r + all_captures rs) outer bs l) x) (snoc_append ps r rs)
      ∙ from_groups (g + captures r + all_captures rs) (g + (captures r + all_captures rs)) outer bs (append ps (r also rs)) x (omega arith)

  branch_runs : (r : PlainText) (g : ℕ) (outer : List Frame) (bs : PlainTexts) (x : List Token) → IsBranch g r → Pieces g outer bs r x
  branch_runs (sequence parts) g outer bs x h = record { pieces = parts; whole = refl; runs = pieces_run parts g outer bs done x h }
  branch_runs _ g outer bs x h = absurd h

  branches_run : (qs : PlainTexts) (g : ℕ) (outer : List Frame) (b : PlainText) (bs : PlainTexts) (x : List Token) → IsSome qs → AreBranches g qs → More g outer b bs qs x
  branches_run done g outer b bs x some h = absurd some
  branches_run (r also done) g outer b bs x some h =
      let m : Pieces g outer (b also bs) r x = branch_runs r g outer (b also bs) x h.0 in
      record {
        branches = bs;
        pieces = m.pieces;
        whole = ap (λ l. b also l) (ap (snoc bs) m.whole ∙ snoc_is bs r);
        runs = m.runs ∙ from_groups (g + captures r) (g + (captures r + 0)) outer (b also bs) m.pieces x (omega arith);
      }
  branches_run (r also q also rs) g outer b bs x some h =
      let m : Pieces g outer (b also bs) r (bar ∷ (tokens_between (q also rs) ++ x)) = branch_runs r g outer (b also bs) (bar ∷ (tokens_between (q also rs) ++ x)) h.0 in
      let k : More (g + captures r) outer b (snoc bs r) (q also rs) x = branches_run (q also rs) (g + captures r) outer b (snoc bs r) x tt h.1 in
      record {
        branches = k.branches;
        pieces = k.pieces;
        whole = k.whole ∙ ap (λ l. b also l) (snoc_append bs r (q also rs));
        runs =
            ap (run (state g outer (b also bs) done)) (append_assoc (tokens_of r) (bar ∷ tokens_between (q also rs)) x)
            ∙ m.runs
            ∙ ap (λ p. run (state (g + captures r) outer (b also snoc bs p) done) (tokens_between (q also rs) ++ x)) m.whole
            ∙ k.runs
            ∙ from_groups (g + captures r + all_captures (q also rs)) (g + (captures r + all_captures (q also rs))) outer (b also k.branches) k.pieces x (omega arith);
      }

  regex_runs : (r : PlainText) (g : ℕ) (outer : List Frame) (x : List Token) → IsRegex g r → Read g outer r x
  regex_runs (sequence parts) g outer x h = record { branches = done; pieces = parts; whole = refl; runs = pieces_run parts g outer done done x h }
  regex_runs (alternation (r also q also rs)) g outer x h =
      let m : Pieces g outer done r (bar ∷ (tokens_between (q also rs) ++ x)) = branch_runs r g outer done (bar ∷ (tokens_between (q also rs) ++ x)) h.0 in
      let k : More (g + captures r) outer r done (q also rs) x = branches_run (q also rs) (g + captures r) outer r done x tt h.1 in
      record {
        branches = r also k.branches;
        pieces = k.pieces;
        whole = ap alternation k.whole;
        runs =
            ap (run (state g outer done done)) (append_assoc (tokens_of r) (bar ∷ tokens_between (q also rs)) x)
            ∙ m.runs
            ∙ ap (λ p. run (state (g + captures r) outer (p also done) done) (tokens_between (q also rs) ++ x)) m.whole
            ∙ k.runs
            ∙ from_groups (g + captures r + all_captures (q also rs)) (g + (captures r + all_captures (q also rs))) outer (r also k.branches) k.pieces x (omega arith);
      }
  regex_runs _ g outer x h = absurd h

-- the tokens of a regex are read as it
pub reads_back : (r : PlainText) → IsRegex 0 r → tree_of_tokens (tokens_of r) ≡ Some r
reads_back r h =
    let m : Read 0 [] r [] = regex_runs r 0 [] [] h in
    ap (λ ts. finish (run (state 0 [] done done) ts)) (sym (append_nil (tokens_of r)))
    ∙ ap finish m.runs
    ∙ ap Some m.whole

-- so no tokens are those of two
pub one_tree : (r q : PlainText) → IsRegex 0 r → IsRegex 0 q → tokens_of r ≡ tokens_of q → r ≡ q
one_tree r q h k e = let f : Some r ≡ Some q = sym (reads_back r h) ∙ ap tree_of_tokens e ∙ reads_back q k in cc f
