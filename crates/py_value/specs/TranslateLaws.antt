-- Laws of texts that a table changes.
use Rattle.std.specs.Prelude.{◌≡◌, ◌⊎◌, Bool, List, [], ℕ, true, Some, Result, Err}
use Rattle.py_base.specs.declared.error.PyError.{PyError}
use Rattle.py_base.specs.declared.error.PyError.TheVariants.{NoMemory}
use Rattle.py_value.specs.Asking.{Seen, Table}
use Rattle.py_value.specs.Plain.{Plain, bare}
use Rattle.py_value.specs.Translate.{Translates, translate_error, translated_by, set_marks, RoseBy}

-- where the host tells its table, a translated text is the table's; a character whose look-up
-- failed for a fault is kept, and there are at most as many of these as the count rose by
abbrev pub TranslatesByTheTable : Type 0
TranslatesByTheTable =
    (t : Table) (v : Plain) (cs : List ℕ) (old new : Seen) (result : Result (List ℕ) PyError)
    → Translates v cs old new result → old.table ≡ Some t
    → (result ≡ Err NoMemory) ⊎ ((marks : List Bool)
    × (result ≡ translated_by t v marks cs) × RoseBy (set_marks marks) old.faults new.faults)

-- by a value that holds no handle a text is translated as under any table
abbrev pub TranslatesAlone : Type 0
TranslatesAlone =
    (t : Table) (v : Plain) (cs : List ℕ) (old new : Seen) (result : Result (List ℕ) PyError)
    → Translates v cs old new result → bare v ≡ true
    → (result ≡ Err NoMemory) ⊎ (result ≡ translated_by t v [] cs)

-- the errors of `translate` are these, for every host, or memory ran out; a fault of the host is
-- none
abbrev pub TranslateErrors : Type 0
TranslateErrors =
    (v : Plain) (cs : List ℕ) (old new : Seen) (e : PyError)
    → Translates v cs old new (Err e) → (translate_error e ≡ true) ⊎ (e ≡ NoMemory)
