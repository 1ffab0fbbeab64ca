use Rattle.std.proofs.Common.{◌≡◌, ◌++◌, ◌<◌, length, reverse, chars, string_bytes, length}
use Rattle.std.specs.Str.{IsUtf8}
use Rattle.std.specs.Str.Iter.{chars_rest}
use Rattle.py_text.specs.Strides.{every, every_after}
use Rattle.py_text.proofs.strides.every_char_back.Given as goal

abbrev pub invariant-chars : goal.invariant-chars
invariant-chars l = record {
  utf8 : IsUtf8 (chars_rest l.rest);
  below : l.skip < l.step;
  count : l.count ≡ length (chars (string_bytes l.text));
  sofar : chars (string_bytes l.text) ++ every_after l.step l.skip (reverse (chars (chars_rest l.rest))) ≡ every l.step (reverse (chars l.part));
}

abbrev pub decreases-chars : goal.decreases-chars
decreases-chars l = length (chars_rest l.rest)
