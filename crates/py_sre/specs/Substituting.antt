-- What the calls of a pattern that replace its spans answer.
use Rattle.std.specs.Prelude.{◌≡◌, ◌⊎◌, ℕ, Bool, true, false, List, [], ◌∷◌, map, pos, Option, Some, None, Result, Ok, Err}
use denote.Bor.{Bor}
use Rattle.py_base.specs.declared.error.PyError.{PyError}
use Rattle.py_base.specs.declared.error.PyError.TheVariants.{InvalidCode}
use Rattle.py_base.specs.declared.error.type_names.OptionalArg.{OptionalArg}
use Rattle.py_base.specs.declared.error.type_names.OptionalArg.TheVariants.{Present, Missing}
use Rattle.py_value.specs.Asking.{UnlessOutOfMemory}
use Rattle.py_value.specs.Plain.{Plain, Plains, int, tuple, empty, ◌then◌}
use Rattle.py_value.specs.ValueView.{plain_of}
use Rattle.py_value.specs.declared.value.Value.{Value}
use Rattle.sre_code.specs.PlainTree.{PlainTree}
use Rattle.sre_code.specs.Spelling.{Spells, SpellsNothing}
use Rattle.py_sre.specs.Pattern.{PlainPattern}
use Rattle.py_sre.specs.Pieces.{piece_of}
use Rattle.py_sre.specs.Replacing.{Piece, literal, substituted, substitutions}
use Rattle.py_sre.specs.Template.{◌and_ok◌, template, units_of, value_of}
use Rattle.py_sre.specs.declared.template.Pieces.{Pieces}
use Rattle.py_sre.specs.declared.template.Pieces.TheVariants.{Text, Bytes}
use Rattle.py_sre.specs.declared.substituting.Repl.{Repl}
use Rattle.py_sre.specs.declared.substituting.Repl.TheVariants.{Literal, Template}

-- the pieces of a template in memory
abbrev pub pieces_in : Pieces → List Piece
pieces_in (Text ps) = map (piece_of (λ text. text)) ps.items
pieces_in (Bytes ps) = map (piece_of (λ bytes. bytes)) ps.items

-- whether they are of bytes
abbrev pub are_of_bytes : Pieces → Bool
are_of_bytes (Text ps) = false
are_of_bytes (Bytes ps) = true

-- a template is for patterns of this kind
abbrev pub OfKind : Bool → Repl → Type 0
OfKind is_bytes (Literal v) = Unit {0}
OfKind is_bytes (Template t) = are_of_bytes t.pieces ≡ is_bytes

-- the pieces of a replacement; a literal has to be of the pattern's kind
abbrev pub pieces_of : Bool → Repl → Result (List Piece) PyError
pieces_of is_bytes (Literal v) = units_of is_bytes (plain_of v) and_ok λ us. Ok (literal us ∷ [])
pieces_of is_bytes (Template t) = Ok (pieces_in t.pieces)

-- what an unset group adds: nothing, or a default, which has to be of the pattern's kind
abbrev pub unset_of : Bool → Option Plain → Result (List ℕ) PyError
unset_of is_bytes None = Ok []
unset_of is_bytes (Some v) = units_of is_bytes v

-- the subject with its first spans replaced by pieces, as many as the count, where 0 is none; and
-- how many they were
abbrev pub replaced_with : Bool → PlainTree → List Piece → List ℕ → Plain → ℕ
    → Result (Plain × ℕ) PyError
replaced_with is_bytes t pieces unset subject count =
    units_of is_bytes subject and_ok λ s.
    Ok (
      value_of is_bytes
          (substituted t s count (record { pieces = pieces; unset = unset })),
      substitutions t s count,
    )

abbrev pub replaced_by : Bool → PlainTree → List Piece → Plain → ℕ → Option Plain
    → Result (Plain × ℕ) PyError
replaced_by is_bytes t pieces subject count default =
    unset_of is_bytes default and_ok λ unset. replaced_with is_bytes t pieces unset subject count

-- and by a replacement
abbrev pub subn : PlainPattern → Repl → Plain → ℕ → Option Plain → Result (Plain × ℕ) PyError
subn p repl subject count default =
    pieces_of p.is_bytes repl and_ok λ pieces.
    replaced_by p.is_bytes p.code.tree pieces subject count default

-- by the template of a list, for a tree with so many groups
abbrev pub substitute : Bool → ℕ → Plains → Plain → ℕ → Option Plain → PlainTree
    → Result (Plain × ℕ) PyError
substitute is_bytes groups list subject count default t =
    template is_bytes groups list and_ok λ pieces.
    replaced_by is_bytes t pieces subject count default

-- the same without the number
abbrev pub sub : PlainPattern → Repl → Plain → ℕ → Option Plain → Result Plain PyError
sub p repl subject count default = subn p repl subject count default and_ok λ made. Ok made.0

-- a value and a number as a tuple
abbrev pub pair : Plain × ℕ → Plain
pair made = tuple (made.0 then int (pos made.1) then empty)

abbrev pub paired : Result (Plain × ℕ) PyError → Result Plain PyError
paired (Ok made) = Ok (pair made)
paired (Err e) = Err e

-- many subjects, each by itself
abbrev pub each_replaced : Bool → PlainTree → List Piece → List ℕ → ℕ → Plains
    → Result Plains PyError
each_replaced is_bytes t pieces unset count empty = Ok empty
each_replaced is_bytes t pieces unset count (v then vs) =
    paired (replaced_with is_bytes t pieces unset v count) and_ok λ made.
    each_replaced is_bytes t pieces unset count vs and_ok λ more.
    Ok (made then more)

abbrev pub all_replaced_by : Bool → PlainTree → List Piece → Plains → ℕ → Option Plain
    → Result Plains PyError
all_replaced_by is_bytes t pieces subjects count default =
    unset_of is_bytes default and_ok λ unset. each_replaced is_bytes t pieces unset count subjects

abbrev pub substitute_all : Bool → ℕ → Plains → Plains → ℕ → Option Plain → PlainTree
    → Result Plains PyError
substitute_all is_bytes groups list subjects count default t =
    template is_bytes groups list and_ok λ pieces.
    all_replaced_by is_bytes t pieces subjects count default

-- what the tree that the words spell answers, or `InvalidCode` where they spell none
abbrev pub OfCode : {A : Type 0} → List ℕ → ℕ → (PlainTree → Result A PyError)
    → Result A PyError → Type 0
OfCode words groups answer result =
    UnlessOutOfMemory result ((SpellsNothing words groups × (result ≡ Err InvalidCode))
    ⊎ ((t : PlainTree) × (Spells words groups t × (result ≡ answer t))))

-- values, and those that come after them
abbrev pub appended : Plains → Plains → Plains
appended empty ws = ws
appended (v then vs) ws = v then appended vs ws

abbrev pub followed : Plains → Result Plains PyError → Result Plains PyError
followed vs (Ok ws) = Ok (appended vs ws)
followed vs (Err e) = Err e

-- what a call in memory answers
abbrev pub counted : Result (Value × ℕ) PyError → Result (Plain × ℕ) PyError
counted (Ok made) = Ok (plain_of made.0, made.1)
counted (Err e) = Err e

-- a default, where it is given
abbrev pub given : OptionalArg (Bor Value) → Option Plain
given Missing = None
given (Present v) = Some (plain_of v.now)
