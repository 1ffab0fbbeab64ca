-- A value that is a key has one.
use Rattle.std.proofs.Common.{◌≡◌, true, Ok, refl}
use Rattle.std.specs.Prelude.{is_some}
use Rattle.py_int.specs.Boolean.{int_of_bool}
use Rattle.py_value.specs.declared.value.DictKey.{DictKey}
use Rattle.py_value.specs.declared.value.DictKey.TheVariants.{Int, Str, Bytes}
use Rattle.py_value.specs.Lookup.{key_of, key_of_value}
use Rattle.py_value.specs.Plain.{Plain, none, bool, int, str, bytes, tuple, list, dict, handle}

pub key_there : (k : Plain) → is_some (key_of k) ≡ true → (d : DictKey) × (key_of_value k ≡ Ok d)
key_there none h = absurd (cc h)
key_there (bool b) h = (Int (int_of_bool b), refl)
key_there (int z) h = (Int z, refl)
key_there (str cs) h = (Str cs, refl)
key_there (bytes bs) h = (Bytes bs, refl)
key_there (tuple vs) h = absurd (cc h)
key_there (list vs) h = absurd (cc h)
key_there (dict es) h = absurd (cc h)
key_there (handle x) h = absurd (cc h)
