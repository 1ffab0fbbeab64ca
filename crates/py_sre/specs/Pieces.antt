-- The pieces that a template in memory has.
use Rattle.std.specs.Prelude.{ℕ, List, map}
use Rattle.py_sre.specs.Replacing.{Piece, Replacement, literal, group}
use Rattle.py_sre.specs.declared.pieces.Piece.{Piece as Kept}
use Rattle.py_sre.specs.declared.pieces.Piece.TheVariants.{Literal, Group}

-- a piece, whose literal has the units that f gives
abbrev pub piece_of : {T : Type 0} → (T → List ℕ) → Kept T → Piece
piece_of f (Literal t) = literal (f t)
piece_of f (Group g) = group g

-- the pieces of a template, and the literal that an unset group adds
abbrev pub replacement_of : {T : Type 0} → (T → List ℕ) → List (Kept T) → T → Replacement
replacement_of f pieces unset = record { pieces = map (piece_of f) pieces; unset = f unset }
