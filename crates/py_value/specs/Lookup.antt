-- The items and attributes of values, by the rules of Python.
use Rattle.std.specs.Prelude.{◌≡◌, ◌⊎◌, ℕ, ◌+◌, ◌-◌, nat_lt, slice_get, if◌then◌else◌, length, Bool, true, false, List, [], ◌∷◌, ℤ, pos, negsuc, Option, Some, None, is_some, Result, Ok, Err, ok_or}
use Rattle.std.specs.Option.{option_map}
use Rattle.py_base.specs.declared.error.type_names.ClassName.{ClassName}
use Rattle.py_base.specs.declared.error.type_names.ClassName.TheVariants.{Int as IntClass, Str as StrClass, Object}
use Rattle.py_base.specs.declared.error.key.KeyName.{KeyName}
use Rattle.py_base.specs.declared.error.key.KeyName.TheVariants.{Int as IntName, Text, Bytes as BytesName}
use Rattle.py_base.specs.declared.error.PyError.{PyError}
use Rattle.py_base.specs.declared.error.PyError.TheVariants.{Downcast, IndexOutOfRange, TupleIndex, Key, NotSubscriptable, NoAttribute}
use Rattle.py_int.specs.Boolean.{int_of_bool}
use Rattle.py_text.specs.Subscript.{item_of}
use Rattle.py_value.specs.declared.host.HostMethod.TheVariants.{GetAttr, GetItem}
use Rattle.py_value.specs.declared.value.DictKey.{DictKey}
use Rattle.py_value.specs.declared.value.DictKey.TheVariants.{Int, Str, Bytes}
use Rattle.py_value.specs.declared.host.HostAnswer.TheVariants.{NoMemory as RanOut}
use Rattle.py_value.specs.Asking.{Asking, gives, asks, tests, ◌and_then◌, Seen, Tells}
use Rattle.py_value.specs.Classes.{class_of, integer_of}
use Rattle.py_value.specs.Dict.{lookup}
use Rattle.py_value.specs.Plain.{Plain, Plains, none, bool, int, str, bytes, tuple, list, dict, handle, value_at, size_of_values}

-- the value as a key; a bool is the integer 0 or 1
abbrev pub key_of : Plain → Option DictKey
key_of (bool b) = Some (Int (int_of_bool b))
key_of (int z) = Some (Int z)
key_of (str cs) = Some (Str cs)
key_of (bytes bs) = Some (Bytes bs)
key_of _ = None

-- how an error names a key
abbrev pub name_of : DictKey → KeyName
name_of (Int z) = IntName z
name_of (Str cs) = Text cs
name_of (Bytes bs) = BytesName bs

-- the number that a value is as an index
abbrev pub index_of : Plain → Result ℤ PyError
index_of k = ok_or (integer_of k) (Downcast IntClass (class_of k))

-- the key that a value is
abbrev pub key_of_value : Plain → Result DictKey PyError
key_of_value k = ok_or (key_of k) (Downcast StrClass (class_of k))

-- what was found under a key, or the error that names it
abbrev pub found_under : DictKey → Option Plain → Result Plain PyError
found_under key found = ok_or found (Key (name_of key))

-- the place in n items that an index means, where there is one; a negative one counts from the end
abbrev pub place_in : ℕ → ℤ → Option ℕ
place_in n (pos i) = if nat_lt i n then Some i else None
place_in n (negsuc i) = if nat_lt i n then Some (n - (i + 1)) else None

-- the value at a place
abbrev pub value_in : Plains → Option ℕ → Option Plain
value_in vs None = None
value_in vs (Some i) = value_at vs i

-- the byte at a place
abbrev pub byte_in : List ℕ → Option ℕ → Option ℕ
byte_in bs None = None
byte_in bs (Some i) = slice_get bs i

abbrev pub list_item : Plains → ℤ → Result Plain PyError
list_item vs z = ok_or (value_in vs (place_in (size_of_values vs) z)) TupleIndex

abbrev pub bytes_item : List ℕ → ℤ → Result Plain PyError
bytes_item bs z =
    ok_or (option_map (λ b. int (pos b)) (byte_in bs (place_in (length bs) z))) TupleIndex

abbrev pub text_item : List ℕ → ℤ → Result Plain PyError
text_item cs z = ok_or (option_map (λ c. str (c ∷ [])) (item_of cs z)) IndexOutOfRange

-- the text of the character at an index
abbrev pub char_at : List ℕ → Result ℤ PyError → Result (List ℕ) PyError
char_at cs (Ok z) = ok_or (option_map (λ c. c ∷ []) (item_of cs z)) IndexOutOfRange
char_at cs (Err e) = Err e

-- a key that is not there
abbrev pub missing : Result DictKey PyError → Result Plain PyError
missing (Ok key) = found_under key None
missing (Err e) = Err e

-- a handle that has items is asked with the key as it is
abbrev pub handle_item : ℕ → Plain → Bool → Asking Plain
handle_item h k false = gives (Err (NotSubscriptable Object))
handle_item h k true =
    gives (key_of_value k) and_then λ key.
    asks h GetItem k (λ found. gives (found_under key found))

-- `v[k]`
abbrev pub item : Plain → Plain → Asking Plain
item (str cs) k = gives (index_of k) and_then λ z. gives (text_item cs z)
item (bytes bs) k = gives (index_of k) and_then λ z. gives (bytes_item bs z)
item (tuple vs) k = gives (index_of k) and_then λ z. gives (list_item vs z)
item (list vs) k = gives (index_of k) and_then λ z. gives (list_item vs z)
item (dict es) k = gives (key_of_value k) and_then λ key. gives (found_under key (lookup key es))
item (handle h) k = tests h (handle_item h k)
item v k = gives (Err (NotSubscriptable (class_of v)))

-- a look-up takes memory where it finds a value, of which it gives a copy, and where its error names
-- a key
abbrev pub takes_memory : Result Plain PyError → Bool
takes_memory (Ok v) = true
takes_memory (Err (Key _)) = true
takes_memory (Err e) = false

abbrev pub look_up_takes_memory : Asking Plain → Bool
look_up_takes_memory (gives r) = takes_memory r
look_up_takes_memory call = false

-- memory ran out where an item was looked up: in a copy of it, in a key, in the host, or in the name
-- of a key that the host does not have; a byte is no copy
abbrev pub ItemRanOut : Plain → Plain → Seen → Seen → Type 0
ItemRanOut (handle h) k old new =
    Tells h GetItem k old new (Err RanOut) ⊎ Tells h GetItem k old new (Ok None)
ItemRanOut (bytes bs) k old new = ⊥
ItemRanOut v k old new = look_up_takes_memory (item v k) ≡ true

-- the errors of `v[k]`
abbrev pub item_error : PyError → Bool
item_error IndexOutOfRange = true
item_error (Downcast _ _) = true
item_error TupleIndex = true
item_error (Key _) = true
item_error (NotSubscriptable _) = true
item_error _ = false

-- `v.name`, which handles alone have
abbrev pub attr : Plain → List ℕ → Asking Plain
attr (handle h) name = asks h GetAttr (str name) (λ found. gives (ok_or found (NoAttribute Object)))
attr v name = gives (Err (NoAttribute (class_of v)))

-- the errors of `v.name`
abbrev pub attr_error : PyError → Bool
attr_error (NoAttribute _) = true
attr_error _ = false

-- the host ran out of memory when it was asked for the attribute
abbrev pub HostRanOut : Plain → List ℕ → Seen → Seen → Type 0
HostRanOut (handle h) name old new = Tells h GetAttr (str name) old new (Err RanOut)
HostRanOut v name old new = ⊥
