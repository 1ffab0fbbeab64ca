-- A value without handles asks a host nothing.
use Rattle.std.proofs.Common.{◌≡◌, ◌∙◌, ℕ, suc, zero, Bool, true, false, ◌&&◌, List, ◌++◌, Result, Ok, Err, refl, cond, nat_le, codes, []}
use Rattle.py_base.specs.declared.error.PyError.{PyError}
use Rattle.py_value.specs.Asking.{Asking, gives, asks, tests, ◌and_then◌, silent}
use Rattle.py_value.specs.Lookup.{item, attr, index_of, text_item, bytes_item, list_item, key_of_value, found_under}
use Rattle.py_value.specs.Dict.{lookup}
use Rattle.py_value.specs.Plain.{Plain, Plains, Entries, none, bool, int, str, bytes, tuple, list, dict, handle, empty, ◌then◌, no_entries, entry, bare, values_bare, entries_bare, depth}

pub silent_then : {A B : Type 0} (call : Asking A) (f : A → Asking B) → silent call ≡ true → ((a : A) → silent (f a) ≡ true) → silent (call and_then f) ≡ true
silent_then (gives (Ok a)) f h more = more a
silent_then (gives (Err e)) f h more = refl
silent_then (asks q m k next) f h more = absurd (cc)
silent_then (tests q next) f h more = absurd (cc)

given_then : {A B : Type 0} (r : Result A PyError) (f : A → Asking B) → ((a : A) → silent (f a) ≡ true) → silent (gives r and_then f) ≡ true
given_then (Ok a) f more = more a
given_then (Err e) f more = refl

pub item_silent : (v k : Plain) → bare v ≡ true → silent (item v k) ≡ true
item_silent none k h = refl
item_silent (bool b) k h = refl
item_silent (int z) k h = refl
item_silent (str cs) k h = given_then (index_of k) (λ z. gives (text_item cs z)) (λ z. refl)
item_silent (bytes bs) k h = given_then (index_of k) (λ z. gives (bytes_item bs z)) (λ z. refl)
item_silent (tuple vs) k h = given_then (index_of k) (λ z. gives (list_item vs z)) (λ z. refl)
item_silent (list vs) k h = given_then (index_of k) (λ z. gives (list_item vs z)) (λ z. refl)
item_silent (dict es) k h = given_then (key_of_value k) (λ key. gives (found_under key (lookup key es))) (λ key. refl)
item_silent (handle x) k h = absurd (cc)

pub attr_silent : (v : Plain) (name : List ℕ) → bare v ≡ true → silent (attr v name) ≡ true
attr_silent none name h = refl
attr_silent (bool b) name h = refl
attr_silent (int z) name h = refl
attr_silent (str cs) name h = refl
attr_silent (bytes bs) name h = refl
attr_silent (tuple vs) name h = refl
attr_silent (list vs) name h = refl
attr_silent (dict es) name h = refl
attr_silent (handle x) name h = absurd (cc)
