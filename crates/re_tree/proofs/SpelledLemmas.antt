-- What the machine answers has the tokens that it was given, and the shape of a regex.
use Rattle.std.proofs.Common.{◌≡◌, refl, sym, ◌∙◌, ap, subst, ℕ, zero, suc, ◌+◌, Bool, true, false, List, [], ◌∷◌, ◌++◌, append_assoc, add_assoc, zero-add, arith}
use Rattle.std.specs.Prelude.{Option, Some, None}
use Rattle.re_tree.specs.PlainText.{PlainText, PlainTexts, unit, anchor, reference, conditional, conditional_else, sequence, alternation, counted, capture, plain, atomic_text, look_text, done, ◌also◌, captures, all_captures}
use Rattle.re_tree.specs.Tokens.{Opening, capturing, non_capturing, atomic_opening, look_opening, conditional_opening, Token, unit_token, anchor_token, reference_token, count_token, open_token, bar, close, tokens_of, tokens_in_turn, tokens_between}
use Rattle.re_tree.specs.Grammar.{is_countable, IsRegex, IsBranch, IsPiece, ArePieces, AreBranches}
use Rattle.re_tree.specs.Machine.{snoc, Frame, frame, State, state, groups_begun, put_first, one_if, count_last, regex_of, part_of, counted_state, closed_state, close_frame, step, step_on, run, run_on, finish, tree_of_tokens}

append_nil : (xs : List Token) → xs ++ [] ≡ xs
append_nil [] = refl
append_nil (x ∷ xs) = ap (λ l. x ∷ l) (append_nil xs)

-- branches, each with a bar after it
abbrev pub bars : PlainTexts → List Token
bars done = []
bars (r also rs) = tokens_of r ++ bar ∷ bars rs

abbrev pub outer_tokens : List Frame → List Token
outer_tokens [] = []
outer_tokens (frame at o number bs ps ∷ outer) = outer_tokens outer ++ (bars bs ++ (tokens_in_turn ps ++ open_token at o ∷ []))

-- the tokens that the machine has read
abbrev pub spelled : State → List Token
spelled (state g outer bs ps) = outer_tokens outer ++ (bars bs ++ tokens_in_turn ps)

-- how many groups begin before the inside of the innermost opening
abbrev pub count_in : List Frame → ℕ
count_in [] = 0
count_in (frame at o number bs ps ∷ outer) = count_in outer + all_captures bs + all_captures ps + groups_begun o

abbrev pub AreFrames : List Frame → Type 0
AreFrames [] = Unit {0}
AreFrames (frame at o number bs ps ∷ outer) =
    AreFrames outer × AreBranches (count_in outer) bs × ArePieces (count_in outer + all_captures bs) ps × (number ≡ count_in outer + all_captures bs + all_captures ps + 1)

abbrev pub IsState : State → Type 0
IsState (state g outer bs ps) =
    AreFrames outer × AreBranches (count_in outer) bs × ArePieces (count_in outer + all_captures bs) ps × (g ≡ count_in outer + all_captures bs + all_captures ps)

-- one piece or branch more
tokens_snoc : (ps : PlainTexts) (r : PlainText) → tokens_in_turn (snoc ps r) ≡ tokens_in_turn ps ++ tokens_of r
tokens_snoc done r = append_nil (tokens_of r)
tokens_snoc (p also ps) r = ap (λ l. tokens_of p ++ l) (tokens_snoc ps r) ∙ sym (append_assoc (tokens_of p) (tokens_in_turn ps) (tokens_of r))

pub captures_snoc : (ps : PlainTexts) (r : PlainText) → all_captures (snoc ps r) ≡ all_captures ps + captures r
captures_snoc done r = omega arith
captures_snoc (p also ps) r = omega (arith, captures_snoc ps r)

pieces_snoc : (ps : PlainTexts) (g : ℕ) (r : PlainText) → ArePieces g ps → IsPiece (g + all_captures ps) r → ArePieces g (snoc ps r)
pieces_snoc done g r h k = (subst (λ n. IsPiece n r) (omega arith) k, tt)
pieces_snoc (p also ps) g r h k = (h.0, pieces_snoc ps (g + captures p) r h.1 (subst (λ n. IsPiece n r) (omega arith) k))

pieces_split : (ps : PlainTexts) (g : ℕ) (r : PlainText) → ArePieces g (snoc ps r) → ArePieces g ps × IsPiece (g + all_captures ps) r
pieces_split done g r h = (tt, subst (λ n. IsPiece n r) (omega arith) h.0)
pieces_split (p also ps) g r h = let k = pieces_split ps (g + captures p) r h.1 in ((h.0, k.0), subst (λ n. IsPiece n r) (omega arith) k.1)

bars_snoc : (bs : PlainTexts) (r : PlainText) → bars (snoc bs r) ≡ bars bs ++ (tokens_of r ++ bar ∷ [])
bars_snoc done r = refl
bars_snoc (b also bs) r = ap (λ l. tokens_of b ++ bar ∷ l) (bars_snoc bs r) ∙ sym (append_assoc (tokens_of b) (bar ∷ bars bs) (tokens_of r ++ bar ∷ []))

branches_snoc : (bs : PlainTexts) (g : ℕ) (r : PlainText) → AreBranches g bs → IsBranch (g + all_captures bs) r → AreBranches g (snoc bs r)
branches_snoc done g r h k = (subst (λ n. IsBranch n r) (omega arith) k, tt)
branches_snoc (b also bs) g r h k = (h.0, branches_snoc bs (g + captures b) r h.1 (subst (λ n. IsBranch n r) (omega arith) k))

-- the regex of branches and pieces
between_snoc : (bs ps : PlainTexts) → tokens_between (snoc bs (sequence ps)) ≡ bars bs ++ tokens_in_turn ps
between_snoc done ps = refl
between_snoc (b also done) ps = sym (append_assoc (tokens_of b) (bar ∷ []) (tokens_in_turn ps))
between_snoc (b also c also bs) ps =
    ap (λ l. tokens_of b ++ bar ∷ l) (between_snoc (c also bs) ps) ∙ sym (append_assoc (tokens_of b) (bar ∷ bars (c also bs)) (tokens_in_turn ps))

regex_tokens : (bs ps : PlainTexts) → tokens_of (regex_of bs ps) ≡ bars bs ++ tokens_in_turn ps
regex_tokens done ps = refl
regex_tokens (b also bs) ps = between_snoc (b also bs) ps

pub regex_captures : (bs ps : PlainTexts) → captures (regex_of bs ps) ≡ all_captures bs + all_captures ps
regex_captures done ps = omega arith
regex_captures (b also bs) ps = captures_snoc (b also bs) (sequence ps)

two_branches : (b : PlainText) (bs : PlainTexts) (q : PlainText) (g : ℕ) → AreBranches g (b also snoc bs q) → IsRegex g (alternation (b also snoc bs q))
two_branches b done q g h = h
two_branches b (c also bs) q g h = h

regex_shape : (bs ps : PlainTexts) (g : ℕ) → AreBranches g bs → ArePieces (g + all_captures bs) ps → IsRegex g (regex_of bs ps)
regex_shape done ps g h k = subst (λ n. ArePieces n ps) (omega arith) k
regex_shape (b also bs) ps g h k = two_branches b bs (sequence ps) g (branches_snoc (b also bs) g (sequence ps) h k)

-- what a closed opening is
pub record Part (g : ℕ) (o : Opening) (at : ℕ) (bs ps : PlainTexts) (r : PlainText) : Type 0 where
  pub tokens : tokens_of r ≡ open_token at o ∷ ((bars bs ++ tokens_in_turn ps) ++ close ∷ [])
  pub shape : IsPiece g r
  pub counts : captures r ≡ groups_begun o + all_captures bs + all_captures ps

wrapped : (at : ℕ) (o : Opening) (bs ps : PlainTexts) → open_token at o ∷ (tokens_of (regex_of bs ps) ++ close ∷ []) ≡ open_token at o ∷ ((bars bs ++ tokens_in_turn ps) ++ close ∷ [])
wrapped at o bs ps = ap (λ l. open_token at o ∷ (l ++ close ∷ [])) (regex_tokens bs ps)

same_part : (g : ℕ) (o : Opening) (at : ℕ) (bs ps : PlainTexts) (p r : PlainText) → Some p ≡ Some r → Part g o at bs ps p → Part g o at bs ps r
same_part g o at bs ps p r e h = let f : p ≡ r = cc e in subst (λ q. Part g o at bs ps q) f h

part_is : (o : Opening) (g at number : ℕ) (bs ps : PlainTexts) (r : PlainText) → AreBranches (g + groups_begun o) bs → ArePieces (g + groups_begun o + all_captures bs) ps → number ≡ g + 1
    → part_of o at number bs ps ≡ Some r → Part g o at bs ps r
part_is (capturing name) g at number bs ps r h k e f =
    same_part g (capturing name) at bs ps (capture at number name (regex_of bs ps)) r f
    (record { tokens = wrapped at (capturing name) bs ps; shape = (e, regex_shape bs ps (g + 1) h k); counts = omega (arith, regex_captures bs ps) })
part_is non_capturing g at number bs ps r h k e f =
    same_part g non_capturing at bs ps (plain at (regex_of bs ps)) r f
    (record { tokens = wrapped at non_capturing bs ps; shape = subst (λ n. IsRegex n (regex_of bs ps)) (omega arith) (regex_shape bs ps (g + 0) h k); counts = omega (arith, regex_captures bs ps) })
part_is atomic_opening g at number bs ps r h k e f =
    same_part g atomic_opening at bs ps (atomic_text at (regex_of bs ps)) r f
    (record { tokens = wrapped at atomic_opening bs ps; shape = subst (λ n. IsRegex n (regex_of bs ps)) (omega arith) (regex_shape bs ps (g + 0) h k); counts = omega (arith, regex_captures bs ps) })
part_is (look_opening positive back) g at number bs ps r h k e f =
    same_part g (look_opening positive back) at bs ps (look_text at positive back (regex_of bs ps)) r f
    (record { tokens = wrapped at (look_opening positive back) bs ps; shape = subst (λ n. IsRegex n (regex_of bs ps)) (omega arith) (regex_shape bs ps (g + 0) h k); counts = omega (arith, regex_captures bs ps) })
part_is (conditional_opening id) g at number done ps r h k e f =
    same_part g (conditional_opening id) at done ps (conditional at id (sequence ps)) r f
    (record { tokens = refl; shape = subst (λ n. ArePieces n ps) (omega arith) k; counts = omega arith })
part_is (conditional_opening id) g at number (b also done) ps r h k e f =
    same_part g (conditional_opening id) at (b also done) ps (conditional_else at id b (sequence ps)) r f
    (record {
      tokens = ap (λ l. open_token at (conditional_opening id) ∷ l) (simp append_assoc);
      shape = (subst (λ n. IsBranch n b) (omega arith) h.0, subst (λ n. ArePieces n ps) (omega arith) k);
      counts = omega arith;
    })
part_is (conditional_opening id) g at number (b also c also bs) ps r h k e f = let x : ⊥ = cc f in absurd x

-- one step
pub record Steps (s : State) (t : Token) (n : State) : Type 0 where
  pub is_read : IsState n
  pub spells : spelled n ≡ spelled s ++ t ∷ []

pushed : (g : ℕ) (outer : List Frame) (bs ps : PlainTexts) (r : PlainText) (n : ℕ) → IsState (state g outer bs ps) → IsPiece g r → n ≡ g + captures r → IsState (state n outer bs (snoc ps r))
pushed g outer bs ps r n h k e =
    (h.0, h.1, pieces_snoc ps (count_in outer + all_captures bs) r h.2 (subst (λ m. IsPiece m r) h.3 k), omega (arith, captures_snoc ps r, e, h.3))

pushed_tokens : (g n : ℕ) (outer : List Frame) (bs ps : PlainTexts) (r : PlainText) → spelled (state n outer bs (snoc ps r)) ≡ spelled (state g outer bs ps) ++ tokens_of r
pushed_tokens g n outer bs ps r = ap (λ l. outer_tokens outer ++ (bars bs ++ l)) (tokens_snoc ps r) ∙ simp append_assoc

one_pushed : (g : ℕ) (outer : List Frame) (bs ps : PlainTexts) (r : PlainText) (t : Token) (n : State) → IsState (state g outer bs ps) → IsPiece g r → captures r ≡ 0 → tokens_of r ≡ t ∷ []
    → Some (state g outer bs (snoc ps r)) ≡ Some n → Steps (state g outer bs ps) t n
one_pushed g outer bs ps r t n h k e w f =
    let i : state g outer bs (snoc ps r) ≡ n = cc f in
    subst (λ m. Steps (state g outer bs ps) t m) i
    (record { is_read = pushed g outer bs ps r g h k (omega (arith, e)); spells = pushed_tokens g g outer bs ps r ∙ ap (λ l. spelled (state g outer bs ps) ++ l) w })

-- a count has taken the last piece
pub record Last (f : PlainText → PlainText) (ps qs : PlainTexts) : Type 0 where
  pub written : PlainTexts
  pub piece : PlainText
  pub was : ps ≡ snoc written piece
  pub takes : is_countable piece ≡ true
  pub now : qs ≡ snoc written (f piece)

last_one : (f : PlainText → PlainText) (r : PlainText) (qs : PlainTexts) (b : Bool) → is_countable r ≡ b → one_if b (f r) ≡ Some qs → Last f (r also done) qs
last_one f r qs true e h = let i : f r also done ≡ qs = cc h in record { written = done; piece = r; was = refl; takes = e; now = sym i }
last_one f r qs false e h = let x : ⊥ = cc h in absurd x

last_more : (f : PlainText → PlainText) (p : PlainText) (ps : PlainTexts) (qs : PlainTexts) (o : Option PlainTexts) → ((us : PlainTexts) → o ≡ Some us → Last f ps us) → put_first p o ≡ Some qs → Last f (p also ps) qs
last_more f p ps qs None h e = let x : ⊥ = cc e in absurd x
last_more f p ps qs (Some us) h e =
    let l : Last f ps us = h us refl in
    let i : p also us ≡ qs = cc e in
    record { written = p also l.written; piece = l.piece; was = ap (λ v. p also v) l.was; takes = l.takes; now = sym i ∙ ap (λ v. p also v) l.now }

count_takes : (f : PlainText → PlainText) (ps qs : PlainTexts) → count_last f ps ≡ Some qs → Last f ps qs
count_takes f done qs h = let x : ⊥ = cc h in absurd x
count_takes f (r also done) qs h = last_one f r qs (is_countable r) refl h
count_takes f (p also r also ps) qs h = last_more f p (r also ps) qs (count_last f (r also ps)) (λ us e. count_takes f (r also ps) us e) h

counted_steps : (g : ℕ) (outer : List Frame) (bs ps : PlainTexts) (at least : ℕ) (most : Option ℕ) (mode : _) (n : State) (o : Option PlainTexts)
    → IsState (state g outer bs ps) → count_last (counted at least most mode) ps ≡ o → counted_state g outer bs o ≡ Some n → Steps (state g outer bs ps) (count_token at least most mode) n
counted_steps g outer bs ps at least most mode n None h e f = let x : ⊥ = cc f in absurd x
counted_steps g outer bs ps at least most mode n (Some qs) h e f =
    let l : Last (counted at least most mode) ps qs = count_takes (counted at least most mode) ps qs e in
    let i : state g outer bs qs ≡ n = cc f in
    let c : PlainText = counted at least most mode l.piece in
    let k = pieces_split l.written (count_in outer + all_captures bs) l.piece (subst (λ v. ArePieces (count_in outer + all_captures bs) v) l.was h.2) in
    let s : IsState (state g outer bs (snoc l.written c)) =
    (h.0, h.1, pieces_snoc l.written (count_in outer + all_captures bs) c k.0 (l.takes, k.1), h.3 ∙ ap (λ v. count_in outer + all_captures bs + all_captures v) l.was ∙ omega (arith, captures_snoc l.written l.piece, captures_snoc l.written c)) in
    let w : spelled (state g outer bs (snoc l.written c)) ≡ spelled (state g outer bs (snoc l.written l.piece)) ++ count_token at least most mode ∷ [] =
    pushed_tokens g g outer bs l.written c ∙ sym (append_assoc (spelled (state g outer bs l.written)) (tokens_of l.piece) (count_token at least most mode ∷ []))
    ∙ ap (λ v. v ++ count_token at least most mode ∷ []) (sym (pushed_tokens g g outer bs l.written l.piece)) in
    subst (λ m. Steps (state g outer bs ps) (count_token at least most mode) m) (ap (state g outer bs) (sym l.now) ∙ i)
    (record { is_read = s; spells = w ∙ ap (λ v. spelled (state g outer bs v) ++ count_token at least most mode ∷ []) (sym l.was) })

closed_steps : (g : ℕ) (outer : List Frame) (bs ps : PlainTexts) (at number : ℕ) (o : Opening) (around before : PlainTexts) (n : State) (r : Option PlainText)
    → IsState (state g (frame at o number around before ∷ outer) bs ps) → part_of o at number bs ps ≡ r → closed_state g outer around before r ≡ Some n
    → Steps (state g (frame at o number around before ∷ outer) bs ps) close n
closed_steps g outer bs ps at number o around before n None h e f = let x : ⊥ = cc f in absurd x
closed_steps g outer bs ps at number o around before n (Some r) h e f =
    let a : ℕ = count_in outer + all_captures around + all_captures before in
    let p : Part a o at bs ps r = part_is o a at number bs ps r h.1 h.2 h.0.3 e in
    let i : state g outer around (snoc before r) ≡ n = cc f in
    subst (λ m. Steps (state g (frame at o number around before ∷ outer) bs ps) close m) i
    (record {
      is_read = pushed a outer around before r g (h.0.0, h.0.1, h.0.2, refl) p.shape (omega (arith, h.3, p.counts));
      spells =
          pushed_tokens a g outer around before r ∙ ap (λ l. spelled (state a outer around before) ++ l) p.tokens ∙ simp append_assoc;
    })

pub steps : (s : State) (t : Token) (n : State) → IsState s → step s t ≡ Some n → Steps s t n
steps (state g outer bs ps) (unit_token test) n h e = one_pushed g outer bs ps (unit test) (unit_token test) n h tt refl refl e
steps (state g outer bs ps) (anchor_token k) n h e = one_pushed g outer bs ps (anchor k) (anchor_token k) n h tt refl refl e
steps (state g outer bs ps) (reference_token at id) n h e = one_pushed g outer bs ps (reference at id) (reference_token at id) n h tt refl refl e
steps (state g outer bs ps) (count_token at least most mode) n h e =
    counted_steps g outer bs ps at least most mode n (count_last (counted at least most mode) ps) h refl e
steps (state g outer bs ps) (open_token at o) n h e =
    let i : state (g + groups_begun o) (frame at o (g + 1) bs ps ∷ outer) done done ≡ n = cc e in
    subst (λ m. Steps (state g outer bs ps) (open_token at o) m) i
    (record { is_read = ((h.0, h.1, h.2, ap (λ k. k + 1) h.3), tt, tt, omega (arith, h.3)); spells = append_nil _ ∙ simp append_assoc })
steps (state g outer bs ps) bar n h e =
    let i : state g outer (snoc bs (sequence ps)) done ≡ n = cc e in
    subst (λ m. Steps (state g outer bs ps) bar m) i
    (record {
      is_read = (h.0, branches_snoc bs (count_in outer) (sequence ps) h.1 h.2, tt, omega (arith, h.3, captures_snoc bs (sequence ps)));
      spells = ap (λ l. outer_tokens outer ++ l) (append_nil (bars (snoc bs (sequence ps))) ∙ bars_snoc bs (sequence ps)) ∙ simp append_assoc;
    })
steps (state g [] bs ps) close n h e = let x : ⊥ = cc e in absurd x
steps (state g (frame at o number around before ∷ outer) bs ps) close n h e =
    closed_steps g outer bs ps at number o around before n (part_of o at number bs ps) h refl e

none_on : (ts : List Token) (n : State) → run_on None ts ≡ Some n → ⊥
none_on [] n e = cc e
none_on (t ∷ ts) n e = none_on ts n e

runs_by : (ts : List Token) (s : State) (t : Token) (n : State) (o : Option State) → ((k : State) → IsState k → run_on (Some k) ts ≡ Some n → IsState n × (spelled n ≡ spelled k ++ ts))
    → IsState s → step s t ≡ o → run_on o ts ≡ Some n → IsState n × (spelled n ≡ spelled s ++ t ∷ ts)
runs_by ts s t n None go h e f = absurd (none_on ts n f)
runs_by ts s t n (Some k) go h e f =
    let a = steps s t k h e in
    let b = go k a.is_read f in
    (b.0, b.1 ∙ ap (λ l. l ++ ts) a.spells ∙ append_assoc (spelled s) (t ∷ []) ts)

pub runs_on : (ts : List Token) (s n : State) → IsState s → run_on (Some s) ts ≡ Some n → IsState n × (spelled n ≡ spelled s ++ ts)
runs_on [] s n h e = let i : s ≡ n = cc e in (subst IsState i h, ap spelled (sym i) ∙ sym (append_nil (spelled s)))
runs_on (t ∷ ts) s n h e = runs_by ts s t n (step s t) (λ k. runs_on ts k n) h refl e

-- what is answered for tokens has them, and the shape of a regex
pub record Answers (ts : List Token) (r : PlainText) : Type 0 where
  pub tokens : tokens_of r ≡ ts
  pub shape : IsRegex 0 r

finished : (ts : List Token) (r : PlainText) (o : Option State) → run (state 0 [] done done) ts ≡ o → finish o ≡ Some r → Answers ts r
finished ts r None e f = let x : ⊥ = cc f in absurd x
finished ts r (Some (state g [] bs ps)) e f =
    let h = runs_on ts (state 0 [] done done) (state g [] bs ps) (tt, tt, tt, refl) e in
    let i : regex_of bs ps ≡ r = cc f in
    subst (λ q. Answers ts q) i (record { tokens = regex_tokens bs ps ∙ h.1; shape = regex_shape bs ps 0 h.0.1 h.0.2 })
finished ts r (Some (state g (x ∷ outer) bs ps)) e f = let y : ⊥ = cc f in absurd y

pub answers : (ts : List Token) (r : PlainText) → tree_of_tokens ts ≡ Some r → Answers ts r
answers ts r e = finished ts r (run (state 0 [] done done) ts) refl e
