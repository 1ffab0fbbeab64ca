-- Texts whose characters a table replaces: `str.translate` and `str.maketrans`.
use Rattle.std.specs.Prelude.{◌≡◌, ◌≤◌, ◌+◌, ◌-◌, ◌^◌, min, ℕ, if◌then◌else◌, Bool, true, false, List, [], ◌∷◌, ◌++◌, ℤ, pos, negsuc, Option, Some, None, Result, Ok, Err, MatchResult}
use Rattle.py_base.specs.Chars.Classes.{is_character}
use Rattle.py_base.specs.declared.error.causes.TranslateKind.TheVariants.{Range, Kind}
use Rattle.py_base.specs.declared.error.type_names.ClassName.TheVariants.{Object}
use Rattle.py_base.specs.declared.error.PyError.{PyError}
use Rattle.py_base.specs.declared.error.PyError.TheVariants.{NoMemory, NotSubscriptable, Translate}
use Rattle.py_int.specs.Boolean.{int_of_bool}
use Rattle.py_value.specs.Asking.{Asking, gives, tests, Answers, Comes, Seen, Table, by_table, no_memory, UnlessOutOfMemory}
use Rattle.py_value.specs.Classes.{class_of}
use Rattle.py_value.specs.Lookup.{item}
use Rattle.py_value.specs.Plain.{Plain, none, bool, int, str, bytes, tuple, list, dict, handle}

-- a value that has items: a text, bytes, a tuple, a list, a dict, or a handle whose host says so
abbrev pub has_items : Plain → Asking (Unit {0})
has_items (str cs) = gives (Ok tt)
has_items (bytes bs) = gives (Ok tt)
has_items (tuple vs) = gives (Ok tt)
has_items (list vs) = gives (Ok tt)
has_items (dict es) = gives (Ok tt)
has_items (handle h) = tests h (λ has. gives (if has then Ok tt else Err (NotSubscriptable Object)))
has_items v = gives (Err (NotSubscriptable (class_of v)))

-- the character of a number
abbrev pub char_of : ℤ → Option ℕ
char_of (pos n) = if is_character n then Some n else None
char_of (negsuc n) = None

-- a text with a character after it, where there is one
abbrev pub put_char : List ℕ → Option ℕ → Result (List ℕ) PyError
put_char out None = Err (Translate Range)
put_char out (Some c) = Ok (out ++ c ∷ [])

-- a text with what was found for a character after it: nothing, a text, or a character
abbrev pub put_found : List ℕ → Plain → Result (List ℕ) PyError
put_found out none = Ok out
put_found out (str cs) = Ok (out ++ cs)
put_found out (bool b) = put_char out (char_of (int_of_bool b))
put_found out (int z) = put_char out (char_of z)
put_found out v = Err (Translate Kind)

-- and with a character that was looked up; it is kept where the look-up failed, unless memory ran
-- out
abbrev pub put_looked_up : ℕ → List ℕ → Result Plain PyError → Result (List ℕ) PyError
put_looked_up c out (Ok v) = put_found out v
put_looked_up c out (Err e) = if no_memory e then Err NoMemory else Ok (out ++ c ∷ [])

-- one character: it is looked up, and what that gave is put
pub record Puts (v : Plain) (c : ℕ) (out : List ℕ) (old new : Seen)
    (result : Result (List ℕ) PyError) : Type 0 where
  pub kept : new.table ≡ old.table
  pub later : old.faults ≤ new.faults
  pub comes : UnlessOutOfMemory result ((found : Result Plain PyError)
      × Answers (item v (int (pos c))) old new found
      × (result ≡ put_looked_up c out found))

-- one character after the other, up to the first error
abbrev pub Goes : Plain → List ℕ → List ℕ → Seen → Seen → Result (List ℕ) PyError → Type 0
Goes v [] out old new result = (result ≡ Ok out) × (new ≡ old)
Goes v (c ∷ cs) out old new result =
    (found : Result Plain PyError) × (mid : Seen)
    × Answers (item v (int (pos c))) old mid found
    × MatchResult (put_looked_up c out found)
    (λ more. Goes v cs more mid new result)
    (λ e. (result ≡ Err e) × (new ≡ mid))

pub record GoesOn (v : Plain) (cs out : List ℕ) (old new : Seen)
    (result : Result (List ℕ) PyError) : Type 0 where
  pub kept : new.table ≡ old.table
  pub later : old.faults ≤ new.faults
  pub comes : UnlessOutOfMemory result (Goes v cs out old new result)

-- the table is tested before any character
pub record Translates (v : Plain) (cs : List ℕ) (old new : Seen)
    (result : Result (List ℕ) PyError) : Type 0 where
  pub kept : new.table ≡ old.table
  pub later : old.faults ≤ new.faults
  pub comes : UnlessOutOfMemory result ((has : Result (Unit {0}) PyError)
      × Comes old old (has_items v) has
      × MatchResult has
      (λ u. Goes v cs [] old new result)
      (λ e. (result ≡ Err e) × (new ≡ old)))

-- the errors of `translate`
abbrev pub translate_error : PyError → Bool
translate_error (NotSubscriptable _) = true
translate_error (Translate _) = true
translate_error _ = false

-- what goes on with a text, or the error
abbrev pub on_text : Result (List ℕ) PyError → (List ℕ → Result (List ℕ) PyError)
    → Result (List ℕ) PyError
on_text (Ok out) f = f out
on_text (Err e) f = Err e

-- the first of the marks, where there is one, and the others
abbrev pub first_mark : List Bool → Bool
first_mark [] = false
first_mark (m ∷ ms) = m

abbrev pub other_marks : List Bool → List Bool
other_marks [] = []
other_marks (m ∷ ms) = ms

-- how many marks are set
abbrev pub set_marks : List Bool → ℕ
set_marks [] = 0
set_marks (true ∷ ms) = set_marks ms + 1
set_marks (false ∷ ms) = set_marks ms

-- one character by a table of the host; with its mark set it is kept, whatever the table says
abbrev pub put_marked : Table → Plain → Bool → ℕ → List ℕ → Result (List ℕ) PyError
put_marked t v true c out = Ok (out ++ c ∷ [])
put_marked t v false c out = put_looked_up c out (by_table t (item v (int (pos c))))

abbrev pub put_by : Table → Plain → List Bool → List ℕ → List ℕ → Result (List ℕ) PyError
put_by t v ms [] out = Ok out
put_by t v ms (c ∷ cs) out =
    on_text (put_marked t v (first_mark ms) c out) (λ more. put_by t v (other_marks ms) cs more)

-- the whole text by a table of the host
abbrev pub tested_by : Result (Unit {0}) PyError → Result (List ℕ) PyError → Result (List ℕ) PyError
tested_by (Ok u) r = r
tested_by (Err e) r = Err e

abbrev pub translated_by : Table → Plain → List Bool → List ℕ → Result (List ℕ) PyError
translated_by t v ms cs = tested_by (by_table t (has_items v)) (put_by t v ms cs [])

-- a count rose by n at least, or stays at the last number of its type
abbrev pub RoseBy : ℕ → ℕ → ℕ → Type 0
RoseBy n before now = min (before + n) (2 ^ 64 - 1) ≤ now
