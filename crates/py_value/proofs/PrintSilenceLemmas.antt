-- A value without handles is printed without a question.
use Rattle.std.proofs.Common.{◌≡◌, ℕ, suc, zero, Bool, true, false, ◌&&◌, List, ◌++◌, Result, Ok, Err, refl, cond, nat_le, codes, []}
use Rattle.py_base.specs.declared.error.PyError.{PyError}
use Rattle.py_value.specs.Asking.{Asking, gives, ◌and_then◌, silent}
use Rattle.py_value.specs.Plain.{Plain, Plains, Entries, none, bool, int, str, bytes, tuple, list, dict, handle, empty, ◌then◌, no_entries, entry, bare, values_bare, entries_bare, depth}
use Rattle.py_value.specs.Printing.{put_repr, put_values, put_entries, repr_of, str_of, ascii_of, text_of, comma, key_repr, tuple_end, escaped, greatest_depth}
use Rattle.py_value.proofs.SilenceLemmas.{silent_then}

both_true : (a b : Bool) → (a && b) ≡ true → (a ≡ true) × (b ≡ true)
both_true true true h = (refl, refl)
both_true true false h = absurd (cc)
both_true false b h = absurd (cc)

mutual
  pub repr_silent : (v : Plain) (t : List ℕ) → bare v ≡ true → silent (put_repr v t) ≡ true
  repr_silent none t h = refl
  repr_silent (bool b) t h = refl
  repr_silent (int z) t h = refl
  repr_silent (str cs) t h = refl
  repr_silent (bytes bs) t h = refl
  repr_silent (tuple vs) t h = silent_then (put_values zero vs (t ++ codes "(")) (λ u. gives (Ok (u ++ tuple_end vs))) (values_silent vs zero (t ++ codes "(") h) (λ u. refl)
  repr_silent (list vs) t h = silent_then (put_values zero vs (t ++ codes "[")) (λ u. gives (Ok (u ++ codes "]"))) (values_silent vs zero (t ++ codes "[") h) (λ u. refl)
  repr_silent (dict es) t h = silent_then (put_entries zero es (t ++ codes "{")) (λ u. gives (Ok (u ++ codes "}"))) (entries_silent es zero (t ++ codes "{") h) (λ u. refl)
  repr_silent (handle x) t h = absurd (cc)

  pub values_silent : (vs : Plains) (i : ℕ) (t : List ℕ) → values_bare vs ≡ true → silent (put_values i vs t) ≡ true
  values_silent empty i t h = refl
  values_silent (v then vs) i t h =
      let p = both_true (bare v) (values_bare vs) h in
      silent_then (put_repr v (t ++ comma i)) (λ u. put_values (suc i) vs u) (repr_silent v (t ++ comma i) p.0) (λ u. values_silent vs (suc i) u p.1)

  pub entries_silent : (es : Entries) (i : ℕ) (t : List ℕ) → entries_bare es ≡ true → silent (put_entries i es t) ≡ true
  entries_silent no_entries i t h = refl
  entries_silent (entry k v es) i t h =
      let p = both_true (bare v) (entries_bare es) h in
      let start = t ++ comma i ++ key_repr k ++ codes ": " in
      silent_then (put_repr v start) (λ u. put_entries (suc i) es u) (repr_silent v start p.0) (λ u. entries_silent es (suc i) u p.1)

unless_silent : (b : Bool) (call : Asking (List ℕ)) (e : PyError) → silent call ≡ true → silent (cond b call (gives (Err e))) ≡ true
unless_silent true call e h = h
unless_silent false call e h = refl

pub repr_of_silent : (v : Plain) → bare v ≡ true → silent (repr_of v) ≡ true
repr_of_silent v h = unless_silent (nat_le (depth v) greatest_depth) (put_repr v []) _ (repr_silent v [] h)

text_silent : (v : Plain) → bare v ≡ true → silent (text_of v) ≡ true
text_silent none h = refl
text_silent (bool b) h = refl
text_silent (int z) h = refl
text_silent (str cs) h = refl
text_silent (bytes bs) h = refl
text_silent (tuple vs) h = repr_silent (tuple vs) [] h
text_silent (list vs) h = repr_silent (list vs) [] h
text_silent (dict es) h = repr_silent (dict es) [] h
text_silent (handle x) h = absurd (cc)

pub str_of_silent : (v : Plain) → bare v ≡ true → silent (str_of v) ≡ true
str_of_silent v h = unless_silent (nat_le (depth v) greatest_depth) (text_of v) _ (text_silent v h)

pub ascii_of_silent : (v : Plain) → bare v ≡ true → silent (ascii_of v) ≡ true
ascii_of_silent v h = silent_then (repr_of v) (λ t. gives (Ok (escaped t))) (repr_of_silent v h) (λ t. refl)
