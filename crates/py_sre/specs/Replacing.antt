-- What replaces the spans of a subject.
use Rattle.std.specs.Prelude.{ℕ, zero, suc, ◌==◌, nat_le, not, ◌&&◌, Bool, if◌then◌else◌, List, [], ◌∷◌, ◌++◌, Option, Some, None, drop, length, slice_range}
use Rattle.sre_code.specs.PlainTree.{PlainTree}
use Rattle.sre_match.specs.Attempts.{span_of}
use Rattle.sre_match.specs.Matches.{Span, spans}

-- a piece of a replacement template: a literal, or the text of a group, where 0 is the whole span
pub data Piece : Type 0 where
  literal : (units : List ℕ) → Piece
  group : (number : ℕ) → Piece

-- the pieces of a template, and what an unset group adds
pub record Replacement : Type 0 where
  pub pieces : List Piece
  pub unset : List ℕ

-- where a group is in a span, of which group 0 is the whole
abbrev pub group_span : Span → ℕ → Option (ℕ × ℕ)
group_span x zero = Some (x.start, x.stop)
group_span x (suc g) = span_of x.marks (suc g)

-- the units between two places, or else what an unset group adds
abbrev pub units_or : List ℕ → List ℕ → Option (ℕ × ℕ) → List ℕ
units_or s unset None = unset
units_or s unset (Some between) = slice_range s between.0 between.1

-- what a piece adds for a span
abbrev pub added : List ℕ → List ℕ → Span → Piece → List ℕ
added s unset x (literal units) = units
added s unset x (group g) = units_or s unset (group_span x g)

abbrev pub fill_pieces : List Piece → List ℕ → List ℕ → Span → List ℕ
fill_pieces [] s unset x = []
fill_pieces (piece ∷ pieces) s unset x = added s unset x piece ++ fill_pieces pieces s unset x

-- the template filled for a span
abbrev pub fill : Replacement → List ℕ → Span → List ℕ
fill r s x = fill_pieces r.pieces s r.unset x

-- from q on: the gap before each span and what replaces the span, and the last gap
abbrev pub replaced_from : ℕ → List ℕ → List Span → Replacement → List ℕ
replaced_from q s [] r = drop q s
replaced_from q s (x ∷ xs) r =
    slice_range s q x.start ++ (fill r s x ++ replaced_from x.stop s xs r)

-- the subject with these spans replaced
abbrev pub replaced : List ℕ → List Span → Replacement → List ℕ
replaced s xs r = replaced_from 0 s xs r

-- the subject with its first spans replaced, as many as the limit, where 0 is none
abbrev pub substituted : PlainTree → List ℕ → ℕ → Replacement → List ℕ
substituted t s limit r = replaced s (spans t s 0 limit) r

-- how many these are
abbrev pub substitutions : PlainTree → List ℕ → ℕ → ℕ
substitutions t s limit = length (spans t s 0 limit)

-- a limit other than 0 is reached
abbrev pub is_reached : ℕ → ℕ → Bool
is_reached limit count = not (limit == 0) && nat_le limit count

-- the next span, up to the limit
abbrev pub up_to : ℕ → ℕ → Option Span → Option Span
up_to limit count next = if is_reached limit count then None else next
