-- Parts of a subject, and a template's pieces one by one.
use Rattle.std.proofs.Common.{◌≡◌, ◌≤◌, ◌<◌, ◌∙◌, ap, refl, ℕ, zero, suc, add-one, ◌+◌, ◌-◌, min, List, [], ◌∷◌, ◌++◌, length, take, drop, map, get_or, arith, append_assoc}
use Rattle.std.specs.Prelude.{slice_range}
use Rattle.std.proofs.lemmas.List.{length-take, length-drop, take_all, take_min, nil_from_length}
use Rattle.sre_match.specs.Matches.{Span}
use Rattle.py_sre.specs.Replacing.{added, fill_pieces}
use Rattle.py_sre.specs.Pieces.{piece_of}
use Rattle.py_sre.specs.declared.pieces.Piece.{Piece as Kept}

-- a part that ends before it begins, or begins after the end, has nothing
pub nothing_between : (s : List ℕ) (a b : ℕ) → min b (length s) ≤ a → slice_range s a b ≡ []
nothing_between s a b h = nil_from_length (slice_range s a b) (omega (arith, h, length-take (b - a) (drop a s), length-drop a s))

-- no part goes past the end
pub cut_between : (s : List ℕ) (a b : ℕ) → slice_range s a (min b (length s)) ≡ slice_range s a b
cut_between s a b =
    let n : min b (length s) - a ≡ min (b - a) (length (drop a s)) = omega (arith, length-drop a s) in
    ap (λ (k : ℕ). take k (drop a s)) n ∙ take_min (b - a) (drop a s)

-- how long a part within a list is
pub part_length : (s : List ℕ) (a b : ℕ) → b ≤ length s → length (slice_range s a b) ≡ b - a
part_length s a b h = omega (arith, h, length-take (b - a) (drop a s), length-drop a s)

pub no_more : (s : List ℕ) → s ++ [] ≡ s
no_more [] = refl
no_more (x ∷ s) = ap (λ (l : List ℕ). x ∷ l) (no_more s)

-- one piece more, and those that are left
pub pieces_more : {T : Type 0} (f : T → List ℕ) (s unset : List ℕ) (x : Span) (pieces : List (Kept T)) (i : ℕ) (piece : Kept T) (was new whole : List ℕ)
    → i < length pieces → piece ≡ get_or pieces i piece
    → new ≡ was ++ added s unset x (piece_of f piece)
    → was ++ fill_pieces (map (piece_of f) (drop i pieces)) s unset x ≡ whole
    → new ++ fill_pieces (map (piece_of f) (drop (i + 1) pieces)) s unset x ≡ whole
pieces_more f s unset x [] i piece was new whole lt is n h = absurd (omega arith)
pieces_more f s unset x (p ∷ pieces) zero piece was new whole lt is n h =
    let rest = fill_pieces (map (piece_of f) pieces) s unset x in
    let one = added s unset x (piece_of f piece) in
    ap (λ (l : List ℕ). l ++ rest) n ∙ append_assoc was one rest ∙ rw is h
pieces_more f s unset x (p ∷ pieces) (suc i) piece was new whole lt is n h =
    rw add-one (rw add-one at (pieces_more f s unset x pieces i piece was new whole (omega arith) is n h))

-- what is left is the part up to the end
pub rest_whole : (q : ℕ) (s : List ℕ) → slice_range s q (length s) ≡ drop q s
rest_whole q s = take_all (length s - q) (drop q s) (omega (arith, length-drop q s))

-- a gap and what replaces a span, one appended after the other
pub three_parts : (was gap filled rest new : List ℕ) → new ≡ (was ++ gap) ++ filled → new ++ rest ≡ was ++ (gap ++ (filled ++ rest))
three_parts was gap filled rest new e =
    ap (λ (l : List ℕ). l ++ rest) e
    ∙ append_assoc (was ++ gap) filled rest
    ∙ append_assoc was gap (filled ++ rest)
