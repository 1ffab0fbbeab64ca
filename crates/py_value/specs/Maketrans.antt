-- Tables by code points: `str.maketrans`.
use Rattle.std.specs.Prelude.{ℕ, nat_eq, if◌then◌else◌, Bool, true, false, List, [], ◌∷◌, length, ℤ, pos, Option, Some, None, Result, Ok, Err}
use Rattle.py_base.specs.declared.error.causes.MaketransKind.TheVariants.{EqualLength, KeyLength, NeedsDict, NeedsString}
use Rattle.py_base.specs.declared.error.PyError.{PyError}
use Rattle.py_base.specs.declared.error.PyError.TheVariants.{Maketrans}
use Rattle.py_base.specs.declared.error.type_names.OptionalArg.{OptionalArg}
use Rattle.py_base.specs.declared.error.type_names.OptionalArg.TheVariants.{Present, Missing}
use Rattle.py_value.specs.declared.value.DictKey.{DictKey}
use Rattle.py_value.specs.declared.value.DictKey.TheVariants.{Int, Str, Bytes}
use Rattle.py_value.specs.Dict.{put}
use Rattle.py_value.specs.Plain.{Plain, Entries, none, int, str, dict, no_entries, entry}

-- the table that gives each of the first characters the one at its place in the second
abbrev pub put_pairs : List ℕ → List ℕ → Entries → Entries
put_pairs [] ds es = es
put_pairs (c ∷ cs) [] es = es
put_pairs (c ∷ cs) (d ∷ ds) es = put_pairs cs ds (put (Int (pos c)) (int (pos d)) es)

-- and that drops these characters
abbrev pub put_nones : List ℕ → Entries → Entries
put_nones [] es = es
put_nones (c ∷ cs) es = put_nones cs (put (Int (pos c)) none es)

abbrev pub put_dropped : Option (List ℕ) → Entries → Entries
put_dropped None es = es
put_dropped (Some cs) es = put_nones cs es

-- the one character of a text
abbrev pub only_char : List ℕ → Result ℕ PyError
only_char (c ∷ []) = Ok c
only_char _ = Err (Maketrans KeyLength)

abbrev pub put_under : Result ℕ PyError → Plain → Entries → Result Entries PyError
put_under (Ok c) v made = Ok (put (Int (pos c)) v made)
put_under (Err e) v made = Err e

-- a key of one character is put as its code point, an integer as itself, and bytes are skipped
abbrev pub put_key : DictKey → Plain → Entries → Result Entries PyError
put_key (Int z) v made = Ok (put (Int z) v made)
put_key (Str cs) v made = put_under (only_char cs) v made
put_key (Bytes bs) v made = Ok made

-- what goes on with a table, or the error
abbrev pub on_made : Result Entries PyError → (Entries → Result Entries PyError)
    → Result Entries PyError
on_made (Ok made) f = f made
on_made (Err e) f = Err e

abbrev pub put_keys : Entries → Entries → Result Entries PyError
put_keys no_entries made = Ok made
put_keys (entry k v es) made = on_made (put_key k v made) (λ more. put_keys es more)

abbrev pub maketrans : Plain → Option (List ℕ) → Option (List ℕ) → Result Entries PyError
maketrans (str cs) (Some ds) dropped =
    if nat_eq (length cs) (length ds)
    then Ok (put_dropped dropped (put_pairs cs ds no_entries))
    else Err (Maketrans EqualLength)
maketrans v (Some ds) dropped = Err (Maketrans NeedsString)
maketrans (dict es) None dropped = put_keys es no_entries
maketrans v None dropped = Err (Maketrans NeedsDict)

-- the arguments are a text and one as long, or a dictionary alone
abbrev pub fit : Plain → Option (List ℕ) → Bool
fit (str cs) (Some ds) = nat_eq (length cs) (length ds)
fit (dict es) None = true
fit v to = false

-- an argument, where it is given
abbrev pub given : OptionalArg (List ℕ) → Option (List ℕ)
given Missing = None
given (Present cs) = Some cs

-- the table that was put into, where that went well
abbrev pub table_after : Result (Unit {0}) PyError → Entries → Result Entries PyError
table_after (Ok u) made = Ok made
table_after (Err e) made = Err e
