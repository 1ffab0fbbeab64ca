-- Worked rows of values.
use Rattle.std.specs.Prelude.{◌≡◌, refl, true, pos, negsuc, Ok}
use Rattle.py_value.specs.declared.value.DictKey.TheVariants.{Int}
use Rattle.py_value.specs.Asking.{gives}
use Rattle.py_value.specs.Dict.{put}
use Rattle.py_value.specs.Lookup.{item}
use Rattle.py_value.specs.Plain.{bool, int, list, dict, empty, ◌then◌, no_entries, entry}

-- `{1: 10, 2: 20}` with 1 put again
pub key_keeps_its_place : put (Int (pos 1)) (int (pos 30))
    (entry (Int (pos 1)) (int (pos 10)) (entry (Int (pos 2)) (int (pos 20)) no_entries))
    ≡ entry (Int (pos 1)) (int (pos 30)) (entry (Int (pos 2)) (int (pos 20)) no_entries)
key_keeps_its_place = refl

-- `[1, 2][-1]`
pub last_item : item (list (int (pos 1) then int (pos 2) then empty)) (int (negsuc 0))
    ≡ gives (Ok (int (pos 2)))
last_item = refl

-- `{1: 5}[True]`
pub bool_key : item (dict (entry (Int (pos 1)) (int (pos 5)) no_entries)) (bool true)
    ≡ gives (Ok (int (pos 5)))
bool_key = refl
