-- How values are printed.
use Rattle.std.specs.Prelude.{ℕ, zero, suc, ◌+◌, nat_le, if◌then◌else◌, Bool, true, false, List, [], ◌∷◌, ◌++◌, codes, Option, Some, None, Result, Ok, Err}
use Rattle.std.specs.Fmt.{decimal, signed_decimal}
use Rattle.py_base.specs.Chars.Quoting.{text_repr, bytes_repr, by_number}
use Rattle.py_base.specs.declared.error.type_names.ClassName.TheVariants.{Str as StrClass}
use Rattle.py_base.specs.declared.error.PyError.{PyError}
use Rattle.py_base.specs.declared.error.PyError.TheVariants.{Downcast, TooDeep}
use Rattle.py_int.specs.Boolean.{repr_of_bool}
use Rattle.py_value.specs.declared.value.DictKey.{DictKey}
use Rattle.py_value.specs.declared.value.DictKey.TheVariants.{Int, Str, Bytes}
use Rattle.py_value.specs.declared.host.HostMethod.TheVariants.{StrOf, ReprOf}
use Rattle.py_value.specs.Asking.{Asking, gives, asks, ◌and_then◌}
use Rattle.py_value.specs.Classes.{class_of}
use Rattle.py_value.specs.Plain.{Plain, Plains, Entries, none, bool, int, str, bytes, tuple, list, dict, handle, empty, ◌then◌, no_entries, entry, depth}

-- what is before the item i
abbrev pub comma : ℕ → List ℕ
comma zero = []
comma (suc i) = codes ", "

-- what ends a tuple
abbrev pub tuple_end : Plains → List ℕ
tuple_end (v then empty) = codes ",)"
tuple_end _ = codes ")"

abbrev pub key_repr : DictKey → List ℕ
key_repr (Int z) = signed_decimal z
key_repr (Str cs) = text_repr cs
key_repr (Bytes bs) = bytes_repr bs

-- the text that a host answered, after a text
abbrev pub text_after : List ℕ → Plain → Result (List ℕ) PyError
text_after t (str cs) = Ok (t ++ cs)
text_after t v = Err (Downcast StrClass (class_of v))

-- a handle without a repr is printed by its number
abbrev pub handle_after : List ℕ → ℕ → Option Plain → Result (List ℕ) PyError
handle_after t h None = Ok (t ++ codes "<object " ++ decimal h ++ codes ">")
handle_after t h (Some v) = text_after t v

-- a text with the repr of a value after it, and with those of values from number i on
abbrev mutual
  pub put_repr : Plain → List ℕ → Asking (List ℕ)
  put_repr none t = gives (Ok (t ++ codes "None"))
  put_repr (bool b) t = gives (Ok (t ++ repr_of_bool b))
  put_repr (int z) t = gives (Ok (t ++ signed_decimal z))
  put_repr (str cs) t = gives (Ok (t ++ text_repr cs))
  put_repr (bytes bs) t = gives (Ok (t ++ bytes_repr bs))
  put_repr (tuple vs) t =
      put_values zero vs (t ++ codes "(") and_then λ u. gives (Ok (u ++ tuple_end vs))
  put_repr (list vs) t =
      put_values zero vs (t ++ codes "[") and_then λ u. gives (Ok (u ++ codes "]"))
  put_repr (dict es) t =
      put_entries zero es (t ++ codes "{") and_then λ u. gives (Ok (u ++ codes "}"))
  put_repr (handle h) t = asks h ReprOf none (λ a. gives (handle_after t h a))

  pub put_values : ℕ → Plains → List ℕ → Asking (List ℕ)
  put_values i empty t = gives (Ok t)
  put_values i (v then vs) t = put_repr v (t ++ comma i) and_then λ u. put_values (suc i) vs u

  pub put_entries : ℕ → Entries → List ℕ → Asking (List ℕ)
  put_entries i no_entries t = gives (Ok t)
  put_entries i (entry k v es) t =
      put_repr v (t ++ comma i ++ key_repr k ++ codes ": ") and_then λ u. put_entries (suc i) es u

-- how deep values may be inside one another where they are printed
abbrev pub greatest_depth : ℕ
greatest_depth = 200

-- a value that is nested deeper is not printed; this is tested before a host is asked
abbrev pub unless_deep : Plain → Asking (List ℕ) → Asking (List ℕ)
unless_deep v call = if nat_le (depth v) greatest_depth then call else gives (Err TooDeep)

abbrev pub repr_of : Plain → Asking (List ℕ)
repr_of v = unless_deep v (put_repr v [])

-- a handle that has no text of its own is printed by its repr
abbrev pub handle_text : ℕ → Option Plain → Asking (List ℕ)
handle_text h None = put_repr (handle h) []
handle_text h (Some v) = gives (text_after [] v)

abbrev pub text_of : Plain → Asking (List ℕ)
text_of (str cs) = gives (Ok cs)
text_of (handle h) = asks h StrOf none (handle_text h)
text_of v = put_repr v []

abbrev pub str_of : Plain → Asking (List ℕ)
str_of v = unless_deep v (text_of v)

-- a character up to `~` is kept
abbrev pub is_kept : ℕ → Bool
is_kept c = nat_le c 0x7E

-- and one past it is escaped
abbrev pub ascii_char : ℕ → List ℕ
ascii_char c = if is_kept c then c ∷ [] else by_number c

abbrev pub escaped : List ℕ → List ℕ
escaped [] = []
escaped (c ∷ cs) = ascii_char c ++ escaped cs

abbrev pub ascii_of : Plain → Asking (List ℕ)
ascii_of v = repr_of v and_then λ t. gives (Ok (escaped t))

-- the errors of a value that is printed
abbrev pub print_error : PyError → Bool
print_error (Downcast _ _) = true
print_error TooDeep = true
print_error _ = false

-- a text that was written to, where the writing went well
abbrev pub written : Result (Unit {0}) PyError → List ℕ → Result (List ℕ) PyError
written (Ok u) t = Ok t
written (Err e) t = Err e
