use Rattle.std.proofs.Common.{◌≡◌, ◌++◌, length, chars}
use Rattle.std.specs.Str.{IsUtf8}
use Rattle.std.specs.Str.Iter.{chars_rest}
use Rattle.py_value.specs.Maketrans.{put_nones}
use Rattle.py_value.proofs.maketrans.put_nones.Given as goal

abbrev pub invariant-chars : goal.invariant-chars
invariant-chars l = record {
  utf8 : IsUtf8 (chars_rest l.rest);
  whole : put_nones (chars (chars_rest l.rest)) l.table ≡ put_nones (chars l.dropped) l.initial.table;
}

abbrev pub decreases-chars : goal.decreases-chars
decreases-chars l = length (chars_rest l.rest)
