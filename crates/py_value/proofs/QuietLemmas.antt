-- A value that is printed without a question holds no handle, unless it is too deep.
use Rattle.std.proofs.Common.{◌≡◌, ◌∙◌, ap, ℕ, ◌<◌, suc, zero, Bool, true, false, ◌&&◌, List, [], ◌∷◌, ◌++◌, length, get_or, Result, Ok, Err, refl, sym, cond, nat_le, codes, arith, subst}
use Rattle.std.specs.Fmt.{signed_decimal}
use Rattle.py_base.specs.Chars.Quoting.{text_repr, bytes_repr}
use Rattle.py_base.specs.declared.error.PyError.TheVariants.{TooDeep}
use Rattle.py_int.specs.Boolean.{repr_of_bool}
use Rattle.py_value.specs.declared.value.Value.{Value}
use Rattle.py_value.specs.declared.value.DictItem.{DictItem}
use Rattle.py_value.specs.Asking.{Asking, gives, asks, tests, ◌and_then◌, silent}
use Rattle.py_value.specs.Plain.{Plain, Plains, Entries, none, bool, int, str, bytes, tuple, list, dict, handle, empty, ◌then◌, no_entries, entry, bare, values_bare, entries_bare, depth}
use Rattle.py_value.specs.Printing.{put_repr, put_values, put_entries, repr_of, comma, key_repr, tuple_end, greatest_depth}
use Rattle.py_value.specs.ValueView.{plain_of, values_of, entries_of}

first_true : (a b : Bool) → (a && b) ≡ true → a ≡ true
first_true true b h = refl
first_true false b h = absurd (cc)

second_true : (a b : Bool) → (a && b) ≡ true → b ≡ true
second_true true b h = h
second_true false b h = absurd (cc)

-- a value of a list without handles has none
pub value_bare : (vs : List Value) (i : ℕ) (d : Value) → i < length vs → d ≡ get_or vs i d → values_bare (values_of vs) ≡ true → bare (plain_of d) ≡ true
value_bare [] i d lt is h = absurd (omega arith)
value_bare (v ∷ vs) zero d lt is h = ap (λ x. bare (plain_of x)) is ∙ first_true (bare (plain_of v)) (values_bare (values_of vs)) h
value_bare (v ∷ vs) (suc i) d lt is h = value_bare vs i d (omega arith) is (second_true (bare (plain_of v)) (values_bare (values_of vs)) h)

pub entry_bare : (es : List DictItem) (i : ℕ) (d : DictItem) → i < length es → d ≡ get_or es i d → entries_bare (entries_of es) ≡ true → bare (plain_of d.value) ≡ true
entry_bare [] i d lt is h = absurd (omega arith)
entry_bare (e ∷ es) zero d lt is h = ap (λ (x : DictItem). bare (plain_of x.value)) is ∙ first_true (bare (plain_of e.value)) (entries_bare (entries_of es)) h
entry_bare (e ∷ es) (suc i) d lt is h = entry_bare es i d (omega arith) is (second_true (bare (plain_of e.value)) (entries_bare (entries_of es)) h)

-- what is silent begins silently
pub begins_silent : {A B : Type 0} (call : Asking A) (f : A → Asking B) → silent (call and_then f) ≡ true → silent call ≡ true
begins_silent (gives r) f h = refl
begins_silent (asks q m k next) f h = h
begins_silent (tests q next) f h = h

-- and goes on so after its value
goes_silent : {A B : Type 0} (call : Asking A) (f : A → Asking B) (a : A) → call ≡ gives (Ok a) → silent (call and_then f) ≡ true → silent (f a) ≡ true
goes_silent {A = A} call f a is h = subst (λ (x : Asking A). silent (x and_then f) ≡ true) is h

-- a value without handles is printed
abbrev IsGiven : Asking (List ℕ) → Type 0
IsGiven call = (u : List ℕ) × (call ≡ gives (Ok u))

given_on : (call : Asking (List ℕ)) (f : List ℕ → Asking (List ℕ)) → IsGiven call → ((u : List ℕ) → IsGiven (f u)) → IsGiven (call and_then f)
given_on call f one more = ((more one.0).0, ap (λ (x : Asking (List ℕ)). x and_then f) one.1 ∙ (more one.0).1)

mutual
  repr_given : (v : Plain) (t : List ℕ) → bare v ≡ true → IsGiven (put_repr v t)
  repr_given none t h = (t ++ codes "None", refl)
  repr_given (bool b) t h = (t ++ repr_of_bool b, refl)
  repr_given (int z) t h = (t ++ signed_decimal z, refl)
  repr_given (str cs) t h = (t ++ text_repr cs, refl)
  repr_given (bytes bs) t h = (t ++ bytes_repr bs, refl)
  repr_given (tuple vs) t h = given_on (put_values zero vs (t ++ codes "(")) (λ u. gives (Ok (u ++ tuple_end vs))) (values_given vs zero (t ++ codes "(") h) (λ u. (u ++ tuple_end vs, refl))
  repr_given (list vs) t h = given_on (put_values zero vs (t ++ codes "[")) (λ u. gives (Ok (u ++ codes "]"))) (values_given vs zero (t ++ codes "[") h) (λ u. (u ++ codes "]", refl))
  repr_given (dict es) t h = given_on (put_entries zero es (t ++ codes "{")) (λ u. gives (Ok (u ++ codes "}"))) (entries_given es zero (t ++ codes "{") h) (λ u. (u ++ codes "}", refl))
  repr_given (handle x) t h = absurd (cc)

  values_given : (vs : Plains) (i : ℕ) (t : List ℕ) → values_bare vs ≡ true → IsGiven (put_values i vs t)
  values_given empty i t h = (t, refl)
  values_given (v then vs) i t h =
      given_on (put_repr v (t ++ comma i)) (λ u. put_values (suc i) vs u) (repr_given v (t ++ comma i) (first_true (bare v) (values_bare vs) h)) (λ u. values_given vs (suc i) u (second_true (bare v) (values_bare vs) h))

  entries_given : (es : Entries) (i : ℕ) (t : List ℕ) → entries_bare es ≡ true → IsGiven (put_entries i es t)
  entries_given no_entries i t h = (t, refl)
  entries_given (entry k v es) i t h =
      let start = t ++ comma i ++ key_repr k ++ codes ": " in
      given_on (put_repr v start) (λ u. put_entries (suc i) es u) (repr_given v start (first_true (bare v) (entries_bare es) h)) (λ u. entries_given es (suc i) u (second_true (bare v) (entries_bare es) h))

-- a call that is silent up to a value without handles, and after it
both_bare : (v : Plain) (t : List ℕ) (f : List ℕ → Asking (List ℕ)) (rest : Bool) → (silent (put_repr v t) ≡ true → bare v ≡ true) → ((u : List ℕ) → silent (f u) ≡ true → rest ≡ true) → silent (put_repr v t and_then f) ≡ true → (bare v && rest) ≡ true
both_bare v t f rest one more h =
    let is : bare v ≡ true = one (begins_silent (put_repr v t) f h) in
    let shown : IsGiven (put_repr v t) = repr_given v t is in
    ap (λ (b : Bool). b && rest) is ∙ more shown.0 (goes_silent (put_repr v t) f shown.0 shown.1 h)

mutual
  repr_bare : (v : Plain) (t : List ℕ) → silent (put_repr v t) ≡ true → bare v ≡ true
  repr_bare none t h = refl
  repr_bare (bool b) t h = refl
  repr_bare (int z) t h = refl
  repr_bare (str cs) t h = refl
  repr_bare (bytes bs) t h = refl
  repr_bare (tuple vs) t h = values_are_bare vs zero (t ++ codes "(") (begins_silent (put_values zero vs (t ++ codes "(")) (λ u. gives (Ok (u ++ tuple_end vs))) h)
  repr_bare (list vs) t h = values_are_bare vs zero (t ++ codes "[") (begins_silent (put_values zero vs (t ++ codes "[")) (λ u. gives (Ok (u ++ codes "]"))) h)
  repr_bare (dict es) t h = entries_are_bare es zero (t ++ codes "{") (begins_silent (put_entries zero es (t ++ codes "{")) (λ u. gives (Ok (u ++ codes "}"))) h)
  repr_bare (handle x) t h = h

  values_are_bare : (vs : Plains) (i : ℕ) (t : List ℕ) → silent (put_values i vs t) ≡ true → values_bare vs ≡ true
  values_are_bare empty i t h = refl
  values_are_bare (v then vs) i t h =
      both_bare v (t ++ comma i) (λ u. put_values (suc i) vs u) (values_bare vs) (λ s. repr_bare v (t ++ comma i) s) (λ u s. values_are_bare vs (suc i) u s) h

  entries_are_bare : (es : Entries) (i : ℕ) (t : List ℕ) → silent (put_entries i es t) ≡ true → entries_bare es ≡ true
  entries_are_bare no_entries i t h = refl
  entries_are_bare (entry k v es) i t h =
      let start = t ++ comma i ++ key_repr k ++ codes ": " in
      both_bare v start (λ u. put_entries (suc i) es u) (entries_bare es) (λ s. repr_bare v start s) (λ u s. entries_are_bare es (suc i) u s) h

fits_bare : (b : Bool) (v : Plain) → b ≡ true → silent (cond b (put_repr v []) (gives (Err TooDeep))) ≡ true → bare v ≡ true
fits_bare true v fits h = repr_bare v [] h
fits_bare false v fits h = absurd (cc fits)

-- a value that is not too deep and is printed without a question holds no handle
pub silent_bare : (v : Plain) → nat_le (depth v) greatest_depth ≡ true → silent (repr_of v) ≡ true → bare v ≡ true
silent_bare v fits h = fits_bare (nat_le (depth v) greatest_depth) v fits h
