-- The keys of a dictionary.
use Rattle.std.specs.Prelude.{ℕ, zero, suc, Bool, true, false, ◌&&◌, not, ◌==◌, if◌then◌else◌, Option, Some, None}
use Rattle.std.specs.Option.{option_map}
use Rattle.std.specs.Ordering.{int_eq}
use Rattle.std.specs.Cmp.Lexicographic.{pointwise}
use Rattle.py_value.specs.declared.value.DictKey.{DictKey}
use Rattle.py_value.specs.declared.value.DictKey.TheVariants.{Int, Str, Bytes}
use Rattle.py_value.specs.Plain.{Plain, Entries, no_entries, entry}

abbrev pub same_key : DictKey → DictKey → Bool
same_key (Int a) (Int b) = int_eq a b
same_key (Str a) (Str b) = pointwise ◌==◌ a b
same_key (Bytes a) (Bytes b) = pointwise ◌==◌ a b
same_key _ _ = false

-- the value of a key
abbrev pub lookup : DictKey → Entries → Option Plain
lookup k no_entries = None
lookup k (entry j v es) = if same_key j k then Some v else lookup k es

-- the key and the value at a place
abbrev pub entry_at : ℕ → Entries → Option (DictKey × Plain)
entry_at i no_entries = None
entry_at zero (entry k v es) = Some (k, v)
entry_at (suc i) (entry k v es) = entry_at i es

-- the place of a key
abbrev pub place_of : DictKey → Entries → Option ℕ
place_of k no_entries = None
place_of k (entry j v es) = if same_key j k then Some 0 else option_map suc (place_of k es)

-- a key that is there keeps its place and takes the value; another comes last
abbrev pub put : DictKey → Plain → Entries → Entries
put k v no_entries = entry k v no_entries
put k v (entry j w es) = if same_key j k then entry j v es else entry j w (put k v es)

abbrev pub size_of_entries : Entries → ℕ
size_of_entries no_entries = zero
size_of_entries (entry k v es) = suc (size_of_entries es)

-- a key is none of those
abbrev pub apart : DictKey → Entries → Bool
apart j no_entries = true
apart j (entry k v es) = not (same_key j k) && apart j es

-- no key is there twice
abbrev pub distinct : Entries → Bool
distinct no_entries = true
distinct (entry k v es) = apart k es && distinct es
