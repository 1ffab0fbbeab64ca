-- Worked rows of texts that are tested or changed by values.
use Rattle.std.specs.Prelude.{◌≡◌, refl, true, false, List, [], ◌∷◌, pos, negsuc, Some, None, Ok, Err}
use Rattle.py_base.specs.declared.error.causes.MaketransKind.TheVariants.{KeyLength}
use Rattle.py_base.specs.declared.error.PyError.TheVariants.{Maketrans}
use Rattle.py_value.specs.declared.value.DictKey.TheVariants.{Int, Str}
use Rattle.py_value.specs.Affix.{starts_with_value, ends_with_value}
use Rattle.py_value.specs.Maketrans.{maketrans}
use Rattle.py_value.specs.NoHost.{no_table}
use Rattle.py_value.specs.Plain.{none, int, str, tuple, dict, empty, ◌then◌, no_entries, entry}
use Rattle.py_value.specs.Translate.{translated_by}

-- `str.maketrans("ab", "xy", "b")`
pub made_table : maketrans (str (97 ∷ 98 ∷ [])) (Some (120 ∷ 121 ∷ [])) (Some (98 ∷ []))
    ≡ Ok (entry (Int (pos 97)) (int (pos 120)) (entry (Int (pos 98)) none no_entries))
made_table = refl

-- `str.maketrans({"ab": 1})`
pub long_key : maketrans (dict (entry (Str (97 ∷ 98 ∷ [])) (int (pos 1)) no_entries)) None None
    ≡ Err (Maketrans KeyLength)
long_key = refl

-- `"abc".translate({97: "xyz", 98: None})`
pub changed_text : translated_by no_table
    (dict (entry (Int (pos 97)) (str (120 ∷ 121 ∷ 122 ∷ []))
    (entry (Int (pos 98)) none no_entries))) [] (97 ∷ 98 ∷ 99 ∷ [])
    ≡ Ok (120 ∷ 121 ∷ 122 ∷ 99 ∷ [])
changed_text = refl

-- `"ab".startswith(("b", "a"))`, and from 2 on
pub one_of_two : starts_with_value (97 ∷ 98 ∷ [])
    (tuple (str (98 ∷ []) then str (97 ∷ []) then empty)) None None ≡ Ok true
one_of_two = refl

pub none_of_two : starts_with_value (97 ∷ 98 ∷ [])
    (tuple (str (98 ∷ []) then str (97 ∷ []) then empty)) (Some (pos 2)) None ≡ Ok false
none_of_two = refl

-- `"ab".endswith("b", -1)`
pub at_the_end : ends_with_value (97 ∷ 98 ∷ []) (str (98 ∷ [])) (Some (negsuc 0)) None ≡ Ok true
at_the_end = refl
