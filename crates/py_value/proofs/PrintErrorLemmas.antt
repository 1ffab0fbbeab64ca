-- Which errors a printed value may come to.
use Rattle.std.proofs.Common.{◌≡◌, ℕ, zero, suc, Bool, true, false, cond, nat_le, codes, List, [], ◌++◌, Option, Some, None, Result, Ok, Err, refl}
use Rattle.py_base.specs.declared.error.PyError.TheVariants.{TooDeep}
use Rattle.py_value.specs.Asking.{Asking, gives, asks, ◌and_then◌, Fails}
use Rattle.py_value.specs.Plain.{Plain, Plains, Entries, none, bool, int, str, bytes, tuple, list, dict, handle, empty, ◌then◌, no_entries, entry, depth}
use Rattle.py_value.specs.Printing.{print_error, put_repr, put_values, put_entries, repr_of, str_of, ascii_of, text_of, text_after, handle_after, handle_text, comma, key_repr, tuple_end, escaped, greatest_depth}
use Rattle.py_value.proofs.ErrorLemmas.{fails_then}

text_named : (t : List ℕ) (v : Plain) → Fails print_error (gives (text_after t v))
text_named t none = refl
text_named t (bool b) = refl
text_named t (int z) = refl
text_named t (str cs) = tt
text_named t (bytes bs) = refl
text_named t (tuple vs) = refl
text_named t (list vs) = refl
text_named t (dict es) = refl
text_named t (handle h) = refl

handle_named : (t : List ℕ) (h : ℕ) (a : Option Plain) → Fails print_error (gives (handle_after t h a))
handle_named t h None = tt
handle_named t h (Some v) = text_named t v

mutual
  repr_named : (v : Plain) (t : List ℕ) → Fails print_error (put_repr v t)
  repr_named none t = tt
  repr_named (bool b) t = tt
  repr_named (int z) t = tt
  repr_named (str cs) t = tt
  repr_named (bytes bs) t = tt
  repr_named (tuple vs) t = fails_then print_error (put_values zero vs (t ++ codes "(")) (λ u. gives (Ok (u ++ tuple_end vs))) (values_named vs zero (t ++ codes "(")) (λ u. tt)
  repr_named (list vs) t = fails_then print_error (put_values zero vs (t ++ codes "[")) (λ u. gives (Ok (u ++ codes "]"))) (values_named vs zero (t ++ codes "[")) (λ u. tt)
  repr_named (dict es) t = fails_then print_error (put_entries zero es (t ++ codes "{")) (λ u. gives (Ok (u ++ codes "}"))) (entries_named es zero (t ++ codes "{")) (λ u. tt)
  repr_named (handle h) t = λ a. handle_named t h a

  values_named : (vs : Plains) (i : ℕ) (t : List ℕ) → Fails print_error (put_values i vs t)
  values_named empty i t = tt
  values_named (v then vs) i t = fails_then print_error (put_repr v (t ++ comma i)) (λ u. put_values (suc i) vs u) (repr_named v (t ++ comma i)) (λ u. values_named vs (suc i) u)

  entries_named : (es : Entries) (i : ℕ) (t : List ℕ) → Fails print_error (put_entries i es t)
  entries_named no_entries i t = tt
  entries_named (entry k v es) i t =
      let start = t ++ comma i ++ key_repr k ++ codes ": " in
      fails_then print_error (put_repr v start) (λ u. put_entries (suc i) es u) (repr_named v start) (λ u. entries_named es (suc i) u)

limit_named : (b : Bool) (call : Asking (List ℕ)) → Fails print_error call → Fails print_error (cond b call (gives (Err TooDeep)))
limit_named true call h = h
limit_named false call h = refl

handle_text_named : (h : ℕ) (a : Option Plain) → Fails print_error (handle_text h a)
handle_text_named h None = λ a. handle_named [] h a
handle_text_named h (Some v) = text_named [] v

str_named : (v : Plain) → Fails print_error (text_of v)
str_named none = tt
str_named (bool b) = tt
str_named (int z) = tt
str_named (str cs) = tt
str_named (bytes bs) = tt
str_named (tuple vs) = repr_named (tuple vs) []
str_named (list vs) = repr_named (list vs) []
str_named (dict es) = repr_named (dict es) []
str_named (handle h) = λ a. handle_text_named h a

whole_named : (v : Plain) → Fails print_error (repr_of v)
whole_named v = limit_named (nat_le (depth v) greatest_depth) (put_repr v []) (repr_named v [])

pub print_errors : (v : Plain) → Fails print_error (repr_of v) × Fails print_error (str_of v) × Fails print_error (ascii_of v)
print_errors v =
    (whole_named v, limit_named (nat_le (depth v) greatest_depth) (text_of v) (str_named v), fails_then print_error (repr_of v) (λ t. gives (Ok (escaped t))) (whole_named v) (λ t. tt))
