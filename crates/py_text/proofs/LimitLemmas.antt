-- A limit bounds the pieces, and pieces turned round twice are the pieces.
use Rattle.std.specs.Prelude.{◌≡◌, ℕ, zero, suc, ◌+◌, ◌≤◌, ℤ, pos, max, List, [], ◌∷◌, ◌++◌, map, reverse, length, Option, Some, None}
use Rattle.std.proofs.Common.{refl, ap, sym, ◌∙◌, arith}
use Rattle.std.proofs.lemmas.List.{reverse-append, reverse-reverse}
use Rattle.py_base.specs.Chars.Whitespace.{is_ascii_whitespace, skip_while}
use Rattle.py_text.specs.Laws.{LimitBoundsThePieces}
use Rattle.py_text.specs.Mirror.{mirrored}
use Rattle.py_text.specs.Occurrences.{occurrences, first_in}
use Rattle.py_text.specs.Pieces.{pieces, split_by, rsplit_by}
use Rattle.py_text.specs.Whitespace.{until_whitespace, from_whitespace, split_whitespace}
use Rattle.py_text.proofs.BetweenLemmas.{mirrored_length}
use Rattle.py_text.proofs.OccurrenceLemmas.{cuts_some, cuts_none}

-- the last of pieces turned round is the first
mirrored_end : (ps : List (List ℕ)) (p : List ℕ) → mirrored (ps ++ p ∷ []) ≡ reverse p ∷ mirrored ps
mirrored_end [] p = refl
mirrored_end (q ∷ qs) p =
    reverse-append (reverse q ∷ []) (map reverse (qs ++ p ∷ []))
    ∙ ap (λ r. r ++ reverse q ∷ []) (mirrored_end qs p)
    ∙ ap (λ r. reverse p ∷ r) (sym (reverse-append (reverse q ∷ []) (map reverse qs)))

pub mirrored_twice : (ps : List (List ℕ)) → mirrored (mirrored ps) ≡ ps
mirrored_twice [] = refl
mirrored_twice (p ∷ ps) =
    ap mirrored (reverse-append (reverse p ∷ []) (map reverse ps))
    ∙ mirrored_end (mirrored ps) (reverse p)
    ∙ ap (λ q. q ∷ mirrored (mirrored ps)) (reverse-reverse p)
    ∙ ap (λ qs. p ∷ qs) (mirrored_twice ps)

piece_last : (M : List ℕ) → length (elim M as (λ _. List (List ℕ)) [ [] ↦ [] | c ∷ cs ↦ (c ∷ cs) ∷ [] ]) ≤ 1
piece_last [] = omega arith
piece_last (c ∷ cs) = omega arith

piece_more : (k : ℕ) (M : List ℕ) → ((N : List ℕ) → length (split_whitespace k N) ≤ suc k) → length (elim M as (λ _. List (List ℕ)) [ [] ↦ [] | c ∷ cs ↦ until_whitespace (c ∷ cs) ∷ split_whitespace k (from_whitespace (c ∷ cs)) ]) ≤ suc (suc k)
piece_more k [] more = omega arith
piece_more k (c ∷ cs) more = omega (arith, more (from_whitespace (c ∷ cs)))

between_at_most : (k : ℕ) (L : List ℕ) → length (split_whitespace k L) ≤ suc k
between_at_most zero L = piece_last (skip_while is_ascii_whitespace L)
between_at_most (suc k) L = piece_more k (skip_while is_ascii_whitespace L) (λ N. between_at_most k N)

places_case : (k : ℕ) (x L : List ℕ) (b e : ℕ) (o : Option ℕ) → first_in x L b e ≡ o → ((q : ℕ) → length (occurrences k x L q e) ≤ k) → length (occurrences (suc k) x L b e) ≤ suc k
places_case k x L b e None h more = omega (arith, ap length (cuts_none (suc k) x L b e h))
places_case k x L b e (Some a) h more =
    omega (arith, ap length (cuts_some k x L b e a h), more (a + max 1 (length x)))

places_at_most : (k : ℕ) (x L : List ℕ) (b e : ℕ) → length (occurrences k x L b e) ≤ k
places_at_most zero x L b e = omega arith
places_at_most (suc k) x L b e = places_case k x L b e (first_in x L b e) refl (λ q. places_at_most k x L q e)

one_more : (L : List ℕ) (n p : ℕ) (places : List ℕ) → length (pieces L n p places) ≡ suc (length places)
one_more L n p [] = refl
one_more L n p (a ∷ more) = ap suc (one_more L n (a + n) more)

cut_at_most : (k : ℕ) (x L : List ℕ) → length (pieces L (length x) 0 (occurrences k x L 0 (length L))) ≤ suc k
cut_at_most k x L =
    let places = occurrences k x L 0 (length L) in
    omega (arith, one_more L (length x) 0 places, places_at_most k x L 0 (length L))

bounded : (x : Option (List ℕ)) (k : ℕ) (L : List ℕ) → (length (split_by x (pos k) L) ≤ suc k) × (length (rsplit_by x (pos k) L) ≤ suc k)
bounded None k L = (between_at_most k L, omega (arith, mirrored_length (split_whitespace k (reverse L)), between_at_most k (reverse L)))
bounded (Some y) k L = (cut_at_most k y L, omega (arith, mirrored_length (pieces (reverse L) (length (reverse y)) 0 (occurrences k (reverse y) (reverse L) 0 (length (reverse L)))), cut_at_most k (reverse y) (reverse L)))

pub limit_bounds : LimitBoundsThePieces
limit_bounds = λ x k L. bounded x k L
