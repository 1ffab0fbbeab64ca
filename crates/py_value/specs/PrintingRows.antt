-- Worked rows of printed values.
use Rattle.std.specs.Prelude.{◌≡◌, refl, ℕ, zero, suc, true, [], ◌∷◌, codes, Ok, Err}
use Rattle.py_base.specs.declared.error.PyError.TheVariants.{TooDeep}
use Rattle.py_value.specs.declared.value.DictKey.TheVariants.{Bytes}
use Rattle.py_value.specs.Asking.{gives}
use Rattle.py_value.specs.Plain.{Plain, none, bool, bytes, tuple, list, dict, empty, ◌then◌, no_entries, entry}
use Rattle.py_value.specs.Printing.{repr_of, escaped}

-- `repr([None, (True,)])`
pub printed_list : repr_of (list (none then tuple (bool true then empty) then empty))
    ≡ gives (Ok (codes "[None, (True,)]"))
printed_list = refl

-- `aé` in ASCII
pub escaped_text : escaped (97 ∷ 233 ∷ []) ≡ codes "a\\xe9"
escaped_text = refl

-- `repr({b'a': (None,)})`
pub printed_dict : repr_of (dict (entry (Bytes (97 ∷ [])) (tuple (none then empty)) no_entries))
    ≡ gives (Ok (codes "{b'a': (None,)}"))
printed_dict = refl

-- `repr(b"a\xff")`
pub printed_bytes : repr_of (bytes (97 ∷ 255 ∷ [])) ≡ gives (Ok (codes "b'a\\xff'"))
printed_bytes = refl

-- so many lists inside one another
abbrev lists : ℕ → Plain
lists zero = none
lists (suc n) = list (lists n then empty)

-- 201 of them are too deep
pub one_too_deep : repr_of (lists 201) ≡ gives (Err TooDeep)
one_too_deep = refl
