use Rattle.std.proofs.Common.{◌≡◌, ◌++◌, chars, length, true}
use Rattle.std.specs.Str.{IsUtf8}
use Rattle.std.specs.Str.Iter.{chars_rest}
use Rattle.py_spec.specs.Percent.ByteParts.{all_bytes}
use Rattle.py_spec.proofs.percent.latin.bytes_of_text.Given as goal

abbrev pub invariant-chars : goal.invariant-chars
invariant-chars l = record {
  utf8 : IsUtf8 (chars_rest l.rest);
  narrow : all_bytes (chars (chars_rest l.rest)) ≡ true;
  sofar : l.made.items ++ chars (chars_rest l.rest) ≡ l.text;
}

abbrev pub decreases-chars : goal.decreases-chars
decreases-chars l = length (chars_rest l.rest)
