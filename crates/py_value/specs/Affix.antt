-- Prefixes and suffixes that are a text or a tuple of texts.
use Rattle.std.specs.Prelude.{ℕ, nat_le, if◌then◌else◌, Bool, true, false, List, length, ℤ, Option, Result, Ok, Err}
use Rattle.py_base.specs.declared.error.type_names.ClassName.TheVariants.{Str as StrClass}
use Rattle.py_base.specs.declared.error.PyError.{PyError}
use Rattle.py_base.specs.declared.error.PyError.TheVariants.{Downcast}
use Rattle.py_text.specs.Search.{begins_with, ends_with}
use Rattle.py_text.specs.Window.{window_start, window_end}
use Rattle.py_value.specs.Classes.{class_of}
use Rattle.py_value.specs.Plain.{Plain, Plains, str, tuple, empty, ◌then◌}

-- the window of n code points begins not past its end
abbrev pub has_window : ℕ → Option ℤ → Option ℤ → Bool
has_window n start end = nat_le (window_start n start) (window_end n end)

-- a text passes the test, where the value is a text
abbrev pub text_passes : (List ℕ → Bool) → Plain → Result Bool PyError
text_passes p (str x) = Ok (p x)
text_passes p v = Err (Downcast StrClass (class_of v))

-- true ends the search; on false it goes on
abbrev pub or_else : Result Bool PyError → Result Bool PyError → Result Bool PyError
or_else (Ok true) rest = Ok true
or_else (Ok false) rest = rest
or_else (Err e) rest = Err e

-- one of the texts passes the test; those after it are not looked at
abbrev pub some_passes : (List ℕ → Bool) → Plains → Result Bool PyError
some_passes p empty = Ok false
some_passes p (v then vs) = or_else (text_passes p v) (some_passes p vs)

-- a text, or a tuple of texts
abbrev pub affix_passes : (List ℕ → Bool) → Plain → Result Bool PyError
affix_passes p (tuple vs) = some_passes p vs
affix_passes p v = text_passes p v

-- without a window nothing is looked at
abbrev pub in_window : ℕ → Option ℤ → Option ℤ → Result Bool PyError → Result Bool PyError
in_window n start end r = if has_window n start end then r else Ok false

abbrev pub starts_with_value : List ℕ → Plain → Option ℤ → Option ℤ → Result Bool PyError
starts_with_value L v start end =
    in_window (length L) start end (affix_passes (λ x. begins_with x L start end) v)

abbrev pub ends_with_value : List ℕ → Plain → Option ℤ → Option ℤ → Result Bool PyError
ends_with_value L v start end =
    in_window (length L) start end (affix_passes (λ x. ends_with x L start end) v)
