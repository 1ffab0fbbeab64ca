-- Laws of calls with a host.
use Rattle.std.specs.Prelude.{◌≡◌, ◌⊎◌, ◌++◌, Bool, List, ℕ, true, false, Some, Result, Err}
use Rattle.py_base.specs.Stream.Faults.{Rose}
use Rattle.py_base.specs.declared.error.PyError.{PyError}
use Rattle.py_base.specs.declared.error.PyError.TheVariants.{NoMemory, HostFault}
use Rattle.py_value.specs.Asking.{Asking, Answers, Seen, Question, Table, by_table, questions, silent, Fails}
use Rattle.py_value.specs.declared.value.DictKey.{DictKey}
use Rattle.py_value.specs.Dict.{same_key, lookup, put}
use Rattle.py_value.specs.Lookup.{item, item_error, attr, attr_error}
use Rattle.py_value.specs.Plain.{Plain, Entries, bare}

-- where the host tells its table, an answer is the table's, or memory ran out, or the host failed
-- and its count rose
abbrev pub AnswersTheTable : Type 0 → Type 0
AnswersTheTable A =
    (call : Asking A) (old new : Seen) (t : Table) (result : Result A PyError)
    → Answers call old new result → old.table ≡ Some t
    → (result ≡ by_table t call) ⊎ (result ≡ Err NoMemory)
    ⊎ ((result ≡ Err HostFault) × Rose old.faults new.faults)

-- a call that asks nothing answers for every host what it does under any table, unless memory ran
-- out
abbrev pub AnswersAlone : Type 0 → Type 0
AnswersAlone A =
    (call : Asking A) (old new : Seen) (t : Table) (result : Result A PyError)
    → Answers call old new result → silent call ≡ true
    → (result ≡ by_table t call) ⊎ (result ≡ Err NoMemory)

-- a host that keeps its questions was asked those of the definition, in their order, where nothing
-- failed
abbrev pub AsksInOrder : Type 0 → Type 0
AsksInOrder A =
    (call : Asking A) (old new : Seen) (t : Table) (qs : List Question) (result : Result A PyError)
    → Answers call old new result → old.table ≡ Some t → old.asked ≡ Some qs
    → (new.asked ≡ Some (qs ++ questions t call)) ⊎ (result ≡ Err NoMemory)
    ⊎ (result ≡ Err HostFault)

-- a call that asks nothing leaves what is seen of a host as it was, unless memory ran out
abbrev pub LeavesAlone : Type 0 → Type 0
LeavesAlone A =
    (call : Asking A) (old new : Seen) (result : Result A PyError)
    → Answers call old new result → silent call ≡ true → (new ≡ old) ⊎ (result ≡ Err NoMemory)

-- a value without handles is looked into without a question
abbrev pub BareIsSilent : Type 0
BareIsSilent = (v k : Plain) → bare v ≡ true → silent (item v k) ≡ true

-- and so are its attributes
abbrev pub BareAttrIsSilent : Type 0
BareAttrIsSilent = (v : Plain) (name : List ℕ) → bare v ≡ true → silent (attr v name) ≡ true

-- a value that was put under a key is found under it
abbrev pub PutIsFound : Type 0
PutIsFound = (k : DictKey) (v : Plain) (es : Entries) → lookup k (put k v es) ≡ Some v

-- and under another key what was found before
abbrev pub OthersStay : Type 0
OthersStay =
    (i k : DictKey) (v : Plain) (es : Entries)
    → same_key k i ≡ false → lookup i (put k v es) ≡ lookup i es

-- an error is one that the call may come to, for every host, or memory ran out, or the host failed
-- and its count rose
abbrev pub ErrorsAreNamed : Type 0 → Type 0
ErrorsAreNamed A =
    (named : PyError → Bool) (call : Asking A) (old new : Seen) (e : PyError) → Fails named call
    → Answers call old new (Err e)
    → (named e ≡ true) ⊎ (e ≡ NoMemory) ⊎ ((e ≡ HostFault) × Rose old.faults new.faults)

-- the errors of `v[k]` and of `v.name` are these
abbrev pub ItemErrors : Type 0
ItemErrors = (v k : Plain) → Fails item_error (item v k)

abbrev pub AttrErrors : Type 0
AttrErrors = (v : Plain) (name : List ℕ) → Fails attr_error (attr v name)
