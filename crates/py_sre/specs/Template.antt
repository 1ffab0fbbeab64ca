-- Replacement templates, as lists of values give them.
use Rattle.std.specs.Prelude.{◌+◌, ◌^◌, ◌%◌, ◌==◌, ℕ, zero, suc, Bool, true, false, not, if◌then◌else◌, nat_le, nat_lt, List, [], ◌∷◌, ◌++◌, ℤ, pos, negsuc, Option, Some, None, Result, Ok, Err}
use Rattle.py_base.specs.declared.error.PyError.{PyError}
use Rattle.py_base.specs.declared.error.PyError.TheVariants.{InvalidTemplate, ExpectedUsize, IntTooLargeFor, TemplateGroup, TemplatePiece, ExpectedString, ExpectedBytes}
use Rattle.py_base.specs.declared.error.type_names.ClassName.{ClassName}
use Rattle.py_base.specs.declared.error.type_names.PrimitiveName.TheVariants.{Usize}
use Rattle.py_value.specs.Classes.{class_of, integer_of}
use Rattle.py_value.specs.Plain.{Plain, Plains, str, bytes, empty, ◌then◌, size_of_values}
use Rattle.py_sre.specs.Replacing.{Piece, literal, group}

-- a result, and where it is a value, another that goes on with it
infixl 15 ◌and_ok◌
abbrev pub ◌and_ok◌ : {A B : Type 0} → Result A PyError → (A → Result B PyError) → Result B PyError
Ok a and_ok f = f a
Err e and_ok f = Err e

-- the units of a text for a pattern over texts, and of bytes for one over bytes
abbrev pub units_in : Bool → Plain → Option (List ℕ)
units_in false (str cs) = Some cs
units_in true (bytes bs) = Some bs
units_in is_bytes v = None

-- the value of some units
abbrev pub value_of : Bool → List ℕ → Plain
value_of false us = str us
value_of true us = bytes us

-- the error for a value of another kind
abbrev pub other_kind : Bool → ClassName → PyError
other_kind false class = ExpectedString class
other_kind true class = ExpectedBytes class

abbrev pub units_or_err : PyError → Option (List ℕ) → Result (List ℕ) PyError
units_or_err e None = Err e
units_or_err e (Some us) = Ok us

-- the units of a value, which has to be of the pattern's kind
abbrev pub units_of : Bool → Plain → Result (List ℕ) PyError
units_of is_bytes v = units_or_err (other_kind is_bytes (class_of v)) (units_in is_bytes v)

-- the literal at a place of the list
abbrev pub literal_at : Bool → ℕ → Plain → Result Piece PyError
literal_at is_bytes place v =
    units_or_err (TemplatePiece place (class_of v)) (units_in is_bytes v) and_ok λ us.
    Ok (literal us)

-- the group of a number: one of the pattern's, or 0 for the whole span
abbrev pub group_numbered : ℕ → Option ℤ → Result Piece PyError
group_numbered groups None = Err ExpectedUsize
group_numbered groups (Some (negsuc n)) = Err (IntTooLargeFor Usize)
group_numbered groups (Some (pos n)) =
    if nat_lt n (2 ^ 64)
    then (if nat_le n groups then Ok (group n) else Err (TemplateGroup n groups))
    else Err (IntTooLargeFor Usize)

-- the piece of an item: a literal, or the number of a group
abbrev pub piece_at : Bool → ℕ → Bool → ℕ → Plain → Result Piece PyError
piece_at is_bytes groups false place v = literal_at is_bytes place v
piece_at is_bytes groups true place v = group_numbered groups (integer_of v)

-- the pieces of the items from a place on, literals and numbers of groups by turns
abbrev pub pieces_from : Bool → ℕ → Bool → ℕ → Plains → Result (List Piece) PyError
pieces_from is_bytes groups is_group place empty = Ok []
pieces_from is_bytes groups is_group place (v then vs) =
    piece_at is_bytes groups is_group place v and_ok λ p.
    pieces_from is_bytes groups (not is_group) (place + 1) vs and_ok λ ps.
    Ok (p ∷ ps)

-- the template of a list, which begins and ends with a literal
abbrev pub template : Bool → ℕ → Plains → Result (List Piece) PyError
template is_bytes groups vs =
    if size_of_values vs % 2 == 0 then Err InvalidTemplate
    else pieces_from is_bytes groups false 0 vs

-- the values of a list from a place on
abbrev pub values_from : ℕ → Plains → Plains
values_from zero vs = vs
values_from (suc n) empty = empty
values_from (suc n) (v then vs) = values_from n vs

-- pieces, and those that come after them
abbrev pub joined : List Piece → Result (List Piece) PyError → Result (List Piece) PyError
joined ps (Ok qs) = Ok (ps ++ qs)
joined ps (Err e) = Err e

-- what calls in memory answer: a result, of which the value is seen as another
abbrev pub map_ok : {A B : Type 0} → (A → B) → Result A PyError → Result B PyError
map_ok f (Ok a) = Ok (f a)
map_ok f (Err e) = Err e
