-- What a call asks a host, and what it answers then.
use Rattle.std.specs.Prelude.{◌≡◌, ◌≢◌, ◌≤◌, ◌↔◌, ◌⊎◌, ℕ, Bool, true, false, IsTrue, List, [], ◌∷◌, ◌++◌, Option, Some, None, IfSome, IsSome, Result, Ok, Err, IfOk}
use Rattle.std.specs.Option.{option_map}
use Rattle.py_base.specs.Reading.{UnlessNoMemory, MeetsUnless}
use Rattle.py_base.specs.Stream.Faults.{Rose}
use Rattle.py_base.specs.declared.error.PyError.{PyError}
use Rattle.py_base.specs.declared.error.PyError.TheVariants.{NoMemory, HostFault}
use Rattle.py_value.specs.declared.value.Value.{Value}
use Rattle.py_value.specs.declared.host.HostMethod.{HostMethod}
use Rattle.py_value.specs.declared.host.HostMethod.TheVariants.{GetItem}
use Rattle.py_value.specs.declared.host.HostAnswer.{HostAnswer}
use Rattle.py_value.specs.declared.host.HostAnswer.TheVariants.{Failed, NoMemory as RanOut}
use Rattle.py_value.specs.Plain.{Plain}
use Rattle.py_value.specs.ValueView.{plain_of}

-- what handles mean: the answer of a handle to a method with a key, and which handles have items;
-- these are the handles that answer `GetItem` for some key
pub record Table : Type 0 where
  pub answer : ℕ → HostMethod → Plain → Option Plain
  pub has_items : ℕ → Bool
  pub lawful : (h : ℕ) → IsTrue (has_items h) ↔ ((k : Plain) × IsSome (answer h GetItem k))

-- one question to a host
pub record Question : Type 0 where
  pub handle : ℕ
  pub method : HostMethod
  pub key : Plain

abbrev pub question : ℕ → HostMethod → Plain → Question
question h m k = record { handle = h; method = m; key = k }

-- what contracts see of a host: its table, where it tells one, how often it has failed, which
-- questions it was asked, the first one first, where it keeps them, and whether memory may run out
-- in its next answer
pub record Seen : Type 0 where
  pub table : Option Table
  pub faults : ℕ
  pub asked : Option (List Question)
  pub runs_out : Bool

-- a call is its result, or a question to the host and how the call goes on with each answer
pub data Asking (A : Type 0) : Type 0 where
  gives : (r : Result A PyError) → Asking A
  asks : (h : ℕ) (m : HostMethod) (k : Plain) (next : Option Plain → Asking A) → Asking A
  tests : (h : ℕ) (next : Bool → Asking A) → Asking A

-- what a call answers under a table
abbrev pub by_table : {A : Type 0} → Table → Asking A → Result A PyError
by_table t (gives r) = r
by_table t (asks h m k next) = by_table t (next (t.answer h m k))
by_table t (tests h next) = by_table t (next (t.has_items h))

-- what a call asks under a table, the first question first
abbrev pub questions : {A : Type 0} → Table → Asking A → List Question
questions t (gives r) = []
questions t (asks h m k next) = question h m k ∷ questions t (next (t.answer h m k))
questions t (tests h next) = questions t (next (t.has_items h))

-- a call asks the host nothing
abbrev pub silent : {A : Type 0} → Asking A → Bool
silent (gives r) = true
silent (asks h m k next) = false
silent (tests h next) = false

-- one call, and where it gives a value, another that goes on with it
infixl 15 ◌and_then◌
abbrev pub ◌and_then◌ : {A B : Type 0} → Asking A → (A → Asking B) → Asking B
gives (Ok a) and_then f = f a
gives (Err e) and_then f = gives (Err e)
asks h m k next and_then f = asks h m k (λ a. next a and_then f)
tests h next and_then f = tests h (λ b. next b and_then f)

-- P, but where the host ran out of memory nothing
abbrev pub UnlessHostRanOut : Result (Option Value) HostAnswer → Type 0 → Type 0
UnlessHostRanOut (Ok a) P = P
UnlessHostRanOut (Err Failed) P = P
UnlessHostRanOut (Err RanOut) P = Unit {0}

-- what each method of a host promises of the answer for a handle and a key; a host that keeps its
-- questions keeps this one
pub record Tells (h : ℕ) (m : HostMethod) (k : Plain) (old new : Seen)
    (result : Result (Option Value) HostAnswer) : Type 0 where
  pub kept : new.table ≡ old.table
  pub later : old.faults ≤ new.faults
  pub failed : result ≡ Err Failed → Rose old.faults new.faults
  pub short : result ≡ Err RanOut → old.runs_out ≡ true
  pub told : IfOk result (λ a. IfSome old.table (λ t. t.answer h m k ≡ option_map plain_of a))
  pub noted : IfSome old.asked
      (λ qs. UnlessHostRanOut result (new.asked ≡ Some (qs ++ (question h m k ∷ []))))

-- the call's questions were asked, one after the other and no others, and the result is what it
-- comes to by their answers; or the last one of them failed
abbrev pub Comes : {A : Type 0} → Seen → Seen → Asking A → Result A PyError → Type 0
Comes old new (gives r) result = (result ≡ r) × (new ≡ old)
Comes old new (asks h m k next) result =
    (Tells h m k old new (Err Failed) × (result ≡ Err HostFault))
    ⊎ ((mid : Seen) × (a : Option Value) × Tells h m k old mid (Ok a)
    × Comes mid new (next (option_map plain_of a)) result)
Comes old new (tests h next) result =
    (b : Bool) × (IfSome old.table (λ t. t.has_items h ≡ b)) × Comes old new (next b) result

-- the error of a call that ran out of memory
abbrev pub no_memory : PyError → Bool
no_memory NoMemory = true
no_memory _ = false

-- P, but where memory ran out nothing
abbrev pub UnlessOutOfMemory : {A : Type 0} → Result A PyError → Type 0 → Type 0
UnlessOutOfMemory result P = UnlessNoMemory no_memory result P

-- the result is the one that is wanted, unless memory ran out
abbrev pub Meets : {A : Type 0} → Result A PyError → Result A PyError → Type 0
Meets want result = MeetsUnless no_memory want result

-- what a call with a host promises: the table is as before, the count of faults did not fall, and
-- the result is one that the definition comes to
pub record Answers {A : Type 0} (call : Asking A) (old new : Seen)
    (result : Result A PyError) : Type 0 where
  pub kept : new.table ≡ old.table
  pub later : old.faults ≤ new.faults
  pub comes : UnlessOutOfMemory result (Comes old new call result)

-- each error that a call may come to, whatever is answered to its questions, passes a test
abbrev pub Fails : {A : Type 0} → (PyError → Bool) → Asking A → Type 0
Fails p (gives (Ok a)) = Unit {0}
Fails p (gives (Err e)) = p e ≡ true
Fails p (asks h m k next) = (a : Option Plain) → Fails p (next a)
Fails p (tests h next) = (b : Bool) → Fails p (next b)
