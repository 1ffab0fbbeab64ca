-- Hosts in memory: rows that say what handles answer, and the numbers of the calls that fail.
use Rattle.std.specs.Prelude.{◌≡◌, ◌↔◌, ℕ, ◌==◌, ◌&&◌, ◌||◌, not, Bool, true, false, IsTrue, if◌then◌else◌, cond, List, [], ◌∷◌, Option, Some, None, IsSome, Result, Ok, Err}
use Rattle.std.specs.Cmp.Lexicographic.{pointwise}
use Rattle.std.specs.List.{list_any}
use Rattle.std.specs.Option.{option_map}
use Rattle.std.proofs.Math.Bool.{beq}
use Rattle.std.specs.Ordering.{int_eq}
use Rattle.py_base.specs.Counts.{one_more}
use Rattle.py_base.specs.Stream.Memory.{fails_after}
use Rattle.py_value.specs.declared.host.HostAnswer.{HostAnswer}
use Rattle.py_value.specs.declared.host.HostAnswer.TheVariants.{Failed, NoMemory}
use Rattle.py_value.specs.declared.host.HostMethod.{HostMethod}
use Rattle.py_value.specs.declared.host.HostMethod.TheVariants.{GetAttr, GetItem, ToInt, ToBytes, ToBool, Len, Index, StrOf, ReprOf, FormatOf}
use Rattle.py_value.specs.declared.host.table.HostRow.{HostRow}
use Rattle.py_value.specs.declared.value.Value.{Value}
use Rattle.py_value.specs.Asking.{Seen, Table}
use Rattle.py_value.specs.Plain.{Plain, none, bool, int, str, bytes, tuple, list, dict, handle}
use Rattle.py_value.specs.ValueView.{plain_of}

abbrev pub method_number : HostMethod → ℕ
method_number GetAttr = 0
method_number GetItem = 1
method_number ToInt = 2
method_number ToBytes = 3
method_number ToBool = 4
method_number Len = 5
method_number Index = 6
method_number StrOf = 7
method_number ReprOf = 8
method_number FormatOf = 9

-- two keys have one class and one value
abbrev pub same_value : Plain → Plain → Bool
same_value none none = true
same_value (bool a) (bool b) = beq a b
same_value (int a) (int b) = int_eq a b
same_value (str a) (str b) = pointwise ◌==◌ a b
same_value (bytes a) (bytes b) = pointwise ◌==◌ a b
same_value _ _ = false

-- the key of a row is None, a bool, an integer, a text or bytes
abbrev pub is_row_key : Plain → Bool
is_row_key none = true
is_row_key (bool b) = true
is_row_key (int z) = true
is_row_key (str cs) = true
is_row_key (bytes bs) = true
is_row_key _ = false

-- the row answers for this handle, this method and this key
abbrev pub fits : ℕ → HostMethod → Plain → HostRow → Bool
fits h m k row =
    row.handle == h && method_number row.method == method_number m
    && same_value (plain_of row.key) k

-- what the first row that fits answers
abbrev pub first_answer : ℕ → HostMethod → Plain → List HostRow → Option Plain
first_answer h m k [] = None
first_answer h m k (row ∷ rows) =
    if fits h m k row then Some (plain_of row.answer) else first_answer h m k rows

-- a row of items is of this handle
abbrev pub has_items : ℕ → List HostRow → Bool
has_items h [] = false
has_items h (row ∷ rows) = fits h GetItem (plain_of row.key) row || has_items h rows

-- a host in memory: its rows, the numbers of the calls that fail, how many calls were made, and how
-- many failed
pub record InMemory : Type 0 where
  pub rows : List HostRow
  pub fails : List ℕ
  pub calls : ℕ
  pub faults : ℕ

abbrev pub in_memory : List HostRow → List ℕ → ℕ → ℕ → InMemory
in_memory rows fails calls faults = record {
  rows = rows;
  fails = fails;
  calls = calls;
  faults = faults;
}

-- the next call fails
abbrev pub call_fails : InMemory → Bool
call_fails host = fails_after host.fails host.calls

-- a host after one more call
abbrev pub after_call : InMemory → InMemory
after_call host = record {
  rows = host.rows;
  fails = host.fails;
  calls = one_more host.calls;
  faults = if call_fails host then one_more host.faults else host.faults;
}

-- a call that fails says so; another gives this answer, unless memory ran out
abbrev pub IsAnswer : Bool → Option Plain → Result (Option Value) HostAnswer → Type 0
IsAnswer true answer result = result ≡ Err Failed
IsAnswer false answer (Ok found) = answer ≡ option_map plain_of found
IsAnswer false answer (Err Failed) = ⊥
IsAnswer false answer (Err NoMemory) = Unit {0}

-- one call: it is counted, and answered by the rows
pub record AnswersCall (h : ℕ) (m : HostMethod) (k : Plain) (old new : InMemory)
    (result : Result (Option Value) HostAnswer) : Type 0 where
  pub after : new ≡ after_call old
  pub answer : IsAnswer (call_fails old) (first_answer h m k old.rows) result
