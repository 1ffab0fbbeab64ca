use Rattle.std.proofs.Common.{◌≡◌, vec_len, reverse}
use Rattle.py_value.specs.Maketrans.{put_keys}
use Rattle.py_value.specs.Plain.{no_entries}
use Rattle.py_value.specs.ValueView.{entries_of}
use Rattle.py_value.proofs.maketrans.of_dict.Given as goal

abbrev pub invariant-items : goal.invariant-items
invariant-items l = put_keys (entries_of (reverse l.left.items)) l.table ≡ put_keys l.fn.dict no_entries

abbrev pub decreases-items : goal.decreases-items
decreases-items l = vec_len l.left
