-- Laws of percent formatting.
use Rattle.std.specs.Prelude.{◌≡◌, ◌==◌, ℕ, ◌&&◌, ◌||◌, Bool, true, false, List, [], ◌∷◌, ◌++◌, Ok}
use Rattle.py_base.specs.declared.error.percent.PercentFault.TheVariants.{UnsupportedChar}
use Rattle.py_base.specs.declared.error.type_names.PrimitiveName.TheVariants.{I32}
use Rattle.py_base.specs.declared.error.PyError.{PyError}
use Rattle.py_base.specs.declared.error.PyError.TheVariants.{IntTooLargeFor, PercentParse, PercentArgs, CharRange}
use Rattle.py_spec.specs.Laws.{is_literal}
use Rattle.py_spec.specs.Percent.Specifiers.{specifiers_of}
use Rattle.py_spec.specs.Percent.Template.{Parts}
use Rattle.py_value.specs.Asking.{gives, ◌and_then◌, silent, Fails}
use Rattle.py_value.specs.Lookup.{item_error}
use Rattle.py_value.specs.Plain.{Plain, bare}
use Rattle.py_value.specs.Printing.{print_error}
use Rattle.py_format.specs.declared.percent.kind.Kind.{Kind}
use Rattle.py_format.specs.Percent.Fold.{is_mapping, literal, none_left, parts_of, percent, put_all}
use Rattle.py_format.specs.Percent.Taking.{values_in}

-- a template that is filled with a value without handles asks no host
abbrev pub BareAsksNothing : Type 0
BareAsksNothing = (kind : Kind) (template : List ℕ) (v : Plain)
    → bare v ≡ true → silent (percent kind template v) ≡ true

-- the type `b`, which a template of text cannot have
abbrev pub type_b : ℕ
type_b = 98

-- the errors of a template that has been read and its values: a number for a `*` past 32 bits, what
-- the arguments lack, the type `b` in a text, and a character past the last byte or code point
abbrev pub own_error : PyError → Bool
own_error (IntTooLargeFor I32) = true
own_error (PercentArgs _) = true
own_error (PercentParse (UnsupportedChar c) _) = c == type_b
own_error (CharRange bound) = bound == 256 || bound == 0x110000
own_error _ = false

-- and of what is read, looked up and printed
abbrev pub value_error : PyError → Bool
value_error e = own_error e || item_error e || print_error e

-- where a template has been read, each error is one of these
abbrev pub ErrorsAreNamed : Type 0
ErrorsAreNamed = (kind : Kind) (ps : Parts) (v : Plain) (out : List ℕ)
    → Fails value_error (put_all kind ps v out)

-- parts without specifiers, and their units
abbrev pub all_literal : Parts → Bool
all_literal [] = true
all_literal (p ∷ ps) = is_literal p.1 && all_literal ps

abbrev pub literals : Kind → Parts → List ℕ
literals kind [] = []
literals kind (p ∷ ps) = literal kind p.1 ++ literals kind ps

-- a template without specifiers makes its literals, where no value is left or the value is a mapping
abbrev pub LiteralsAlone : Type 0
LiteralsAlone = (kind : Kind) (template : List ℕ) (ps : Parts) (v : Plain)
    → parts_of kind template ≡ Ok ps → all_literal ps ≡ true
    → percent kind template v
    ≡ (is_mapping kind v and_then λ mapping.
    gives (none_left kind mapping (values_in v)) and_then λ u.
    gives (Ok (literals kind ps)))

-- what is written comes after what was written before, and does not depend on it
abbrev pub WrittenStays : Type 0
WrittenStays = (kind : Kind) (ps : Parts) (v : Plain) (out : List ℕ)
    → put_all kind ps v out ≡ (put_all kind ps v [] and_then λ t. gives (Ok (out ++ t)))
