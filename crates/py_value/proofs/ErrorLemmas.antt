-- Which errors a call may come to.
use Rattle.std.proofs.Common.{◌≡◌, ◌∙◌, ◌⊎◌, ℕ, zero, suc, Bool, true, false, cond, nat_le, codes, List, [], ◌++◌, Option, Some, None, Result, Ok, Err, refl, sym, ap, inl, inr, subst}
use Rattle.std.specs.Option.{option_map}
use Rattle.std.specs.Prelude.{ok_or}
use Rattle.py_base.specs.Stream.Faults.{Rose}
use Rattle.py_base.specs.declared.error.PyError.{PyError}
use Rattle.py_base.specs.declared.error.PyError.TheVariants.{NoMemory, HostFault, Downcast, Key, NoAttribute, TooDeep}
use Rattle.py_base.specs.declared.error.type_names.ClassName.TheVariants.{Int as IntClass, Str as StrClass, Object}
use Rattle.py_value.specs.Asking.{Asking, gives, asks, tests, ◌and_then◌, Seen, Comes, Answers, Fails, UnlessOutOfMemory}
use Rattle.py_value.specs.Classes.{class_of, integer_of}
use Rattle.py_value.specs.Lookup.{item, index_of, text_item, bytes_item, list_item, key_of_value, found_under, handle_item, item_error, key_of, place_in, value_in, byte_in, attr, attr_error}
use Rattle.py_value.specs.Dict.{lookup}
use Rattle.py_value.specs.declared.host.HostMethod.TheVariants.{GetItem}
use Rattle.py_value.specs.Plain.{Plain, Plains, Entries, none, bool, int, str, bytes, tuple, list, dict, handle, empty, ◌then◌, no_entries, entry, depth}
use Rattle.py_value.specs.ValueView.{plain_of}
use Rattle.py_value.proofs.AskingLemmas.{rose_from}

comes_named : {A : Type 0} (p : PyError → Bool) (call : Asking A) (e : PyError) (s0 s1 : Seen) → Fails p call → Comes s0 s1 call (Err e) → (p e ≡ true) ⊎ ((e ≡ HostFault) × Rose s0.faults s1.faults)
comes_named p (gives (Ok a)) e s0 s1 r h = absurd (cc h.0)
comes_named p (gives (Err d)) e s0 s1 r h = let is : d ≡ e = cc h.0 in inl (subst (λ x. p x ≡ true) is r)
comes_named p (asks q m k next) e s0 s1 r (inl (tells, is)) = inr (let same : e ≡ HostFault = cc is in same, tells.failed refl)
comes_named p (asks q m k next) e s0 s1 r (inr (mid, a, tells, h)) = elim (comes_named p (next (option_map plain_of a)) e mid s1 (r (option_map plain_of a)) h) [
  | inl is ↦ inl is
  | inr fault ↦ inr (fault.0, rose_from s0.faults mid.faults s1.faults tells.later fault.1)
]
comes_named p (tests q next) e s0 s1 r (b, told, h) = comes_named p (next b) e s0 s1 (r b) h

later : {P Q R : Type 0} → P ⊎ R → P ⊎ (Q ⊎ R)
later (inl a) = inl a
later (inr b) = inr (inr b)

unless_named : (A : Type 0) (e : PyError) (P Q R : Type 0) → (P → Q ⊎ R) → UnlessOutOfMemory {A = A} (Err e) P → Q ⊎ ((e ≡ NoMemory) ⊎ R)
unless_named A NoMemory P Q R f h = inr (inl refl)
unless_named A e P Q R f h = later (f h)

pub errors_named : {A : Type 0} (p : PyError → Bool) (call : Asking A) (s0 s1 : Seen) (e : PyError) → Fails p call → Answers call s0 s1 (Err e) → (p e ≡ true) ⊎ ((e ≡ NoMemory) ⊎ ((e ≡ HostFault) × Rose s0.faults s1.faults))
errors_named {A = A} p call s0 s1 e r h = unless_named A e (Comes s0 s1 call (Err e)) (p e ≡ true) ((e ≡ HostFault) × Rose s0.faults s1.faults) (λ c. comes_named p call e s0 s1 r c) h.comes

pub fails_then : {A B : Type 0} (p : PyError → Bool) (call : Asking A) (f : A → Asking B) → Fails p call → ((a : A) → Fails p (f a)) → Fails p (call and_then f)
fails_then p (gives (Ok a)) f r more = more a
fails_then p (gives (Err e)) f r more = r
fails_then p (asks q m k next) f r more = λ a. fails_then p (next a) f (r a) more
fails_then p (tests q next) f r more = λ b. fails_then p (next b) f (r b) more

pub fails_or : {A : Type 0} (p : PyError → Bool) (o : Option A) (e : PyError) → p e ≡ true → Fails p (gives (ok_or o e))
fails_or p (Some a) e h = tt
fails_or p None e h = h

index_named : (k : Plain) → Fails item_error (gives (index_of k))
index_named k = fails_or item_error (integer_of k) (Downcast IntClass (class_of k)) refl

key_named : (k : Plain) → Fails item_error (gives (key_of_value k))
key_named k = fails_or item_error (key_of k) (Downcast StrClass (class_of k)) refl

by_items : (h : ℕ) (k : Plain) (has : Bool) → Fails item_error (handle_item h k has)
by_items h k false = refl
by_items h k true = fails_then item_error (gives (key_of_value k)) (λ key. asks h GetItem k (λ found. gives (found_under key found))) (key_named k) (λ key found. fails_or item_error _ _ refl)

pub item_errors : (v k : Plain) → Fails item_error (item v k)
item_errors none k = refl
item_errors (bool b) k = refl
item_errors (int z) k = refl
item_errors (str cs) k = fails_then item_error (gives (index_of k)) (λ z. gives (text_item cs z)) (index_named k) (λ z. fails_or item_error _ _ refl)
item_errors (bytes bs) k = fails_then item_error (gives (index_of k)) (λ z. gives (bytes_item bs z)) (index_named k) (λ z. fails_or item_error _ _ refl)
item_errors (tuple vs) k = fails_then item_error (gives (index_of k)) (λ z. gives (list_item vs z)) (index_named k) (λ z. fails_or item_error _ _ refl)
item_errors (list vs) k = fails_then item_error (gives (index_of k)) (λ z. gives (list_item vs z)) (index_named k) (λ z. fails_or item_error _ _ refl)
item_errors (dict es) k = fails_then item_error (gives (key_of_value k)) (λ key. gives (found_under key (lookup key es))) (key_named k) (λ key. fails_or item_error _ _ refl)
item_errors (handle h) k = λ has. by_items h k has

pub attr_errors : (v : Plain) (name : List ℕ) → Fails attr_error (attr v name)
attr_errors none name = refl
attr_errors (bool b) name = refl
attr_errors (int z) name = refl
attr_errors (str cs) name = refl
attr_errors (bytes bs) name = refl
attr_errors (tuple vs) name = refl
attr_errors (list vs) name = refl
attr_errors (dict es) name = refl
attr_errors (handle h) name = λ found. fails_or attr_error found (NoAttribute Object) refl
