use Rattle.std.proofs.Common.{◌≡◌, ◌++◌, length, chars}
use Rattle.std.specs.Str.{IsUtf8}
use Rattle.std.specs.Str.Iter.{chars_rest}
use Rattle.py_value.specs.Maketrans.{put_pairs}
use Rattle.py_value.proofs.maketrans.put_pairs.Given as goal

abbrev pub invariant-chars : goal.invariant-chars
invariant-chars l = record {
  left : IsUtf8 (chars_rest l.left);
  right : IsUtf8 (chars_rest l.right);
  whole : put_pairs (chars (chars_rest l.left)) (chars (chars_rest l.right)) l.table ≡ put_pairs (chars l.from) (chars l.to) l.initial.table;
}

abbrev pub decreases-chars : goal.decreases-chars
decreases-chars l = length (chars_rest l.left)
