-- Laws of printed values.
use Rattle.std.specs.Prelude.{◌≡◌, true}
use Rattle.py_value.specs.Asking.{silent, Fails}
use Rattle.py_value.specs.Plain.{Plain, bare}
use Rattle.py_value.specs.Printing.{repr_of, str_of, ascii_of, print_error}

-- a value without handles is printed without a question
abbrev pub BarePrintsAlone : Type 0
BarePrintsAlone = (v : Plain) → bare v ≡ true
    → (silent (repr_of v) ≡ true) × (silent (str_of v) ≡ true) × (silent (ascii_of v) ≡ true)

-- the errors of printed values are these
abbrev pub PrintErrors : Type 0
PrintErrors = (v : Plain)
    → Fails print_error (repr_of v) × Fails print_error (str_of v) × Fails print_error (ascii_of v)
