-- What a report says so far, and how a line of a table changes it.
use Rattle.std.specs.Prelude.{◌++◌, ℕ, nat_lt, List, [], Bool, true, false, if◌then◌else◌, codes}
use Rattle.std.specs.Fmt.{decimal}
use Rattle.std.specs.Str.{bytes_eq}
use Rattle.py_base.specs.Counts.{one_more}
use Rattle.call_tables.specs.declared.report.Tally.{Tally}

-- Its text, the call whose lines are being read (at the beginning of a file none), the counts of that call, and those of all.
pub record Told : Type 0 where
  pub text : List ℕ
  pub call : List ℕ
  pub current : Tally
  pub all : Tally

abbrev pub no_calls : Tally
no_calls = record { calls = 0; agreeing = 0 }

abbrev pub nothing_told : Told
nothing_told = record { text = []; call = []; current = no_calls; all = no_calls }

-- one call more, which agrees or not
abbrev pub add_call : Bool → Tally → Tally
add_call true tally = record { calls = one_more tally.calls; agreeing = one_more tally.agreeing }
add_call false tally = record { calls = one_more tally.calls; agreeing = tally.agreeing }

-- with more text
abbrev pub and_text : List ℕ → Told → Told
and_text more told =
    record { text = told.text ++ more; call = told.call; current = told.current; all = told.all }

-- how many calls of a name agree, if there are any
abbrev pub counts_of : List ℕ → Tally → List ℕ
counts_of name tally =
    if nat_lt 0 tally.calls
    then codes "  " ++ name ++ codes " " ++ decimal tally.agreeing ++ codes " of " ++ decimal tally.calls ++ codes "\n"
    else []

-- after the last line of a call, whose counts are told, and in the lines of the call that comes next
abbrev pub next_call : List ℕ → Told → Told
next_call name told =
    record { text = told.text ++ counts_of told.call told.current; call = name; current = no_calls; all = told.all }

-- in the lines of a call of this name, which may be those of the call before
abbrev pub in_call : List ℕ → Told → Told
in_call name told = if bytes_eq told.call name then told else next_call name told

-- one line more of that call
abbrev pub add_line : Bool → Told → Told
add_line agrees told =
    record { text = told.text; call = told.call; current = add_call agrees told.current; all = add_call agrees told.all }

-- a new file
abbrev pub begin_file : List ℕ → Told → Told
begin_file file told = and_text (file ++ codes "\n") (next_call [] told)

-- a line that agrees, and one that differs, with what is given in its place
abbrev pub tell_agreeing : List ℕ → Told → Told
tell_agreeing name told = add_line true (in_call name told)

abbrev pub tell_differing : List ℕ → List ℕ → List ℕ → Told → Told
tell_differing name line given told =
    and_text (codes "  differs: " ++ line ++ codes "\n    gives" ++ given ++ codes "\n") (add_line false (in_call name told))

-- how many of how many
abbrev pub counts_text : List ℕ → List ℕ → List ℕ
counts_text agreeing calls = agreeing ++ (codes " of " ++ (calls ++ codes " calls agree\n"))

-- the counts of all
abbrev pub counts_of_all : Tally → List ℕ
counts_of_all all = counts_text (decimal all.agreeing) (decimal all.calls)

-- the end, after the last line of a call
abbrev pub tell_all : Told → Told
tell_all told = and_text (counts_of_all told.all) (next_call [] told)
