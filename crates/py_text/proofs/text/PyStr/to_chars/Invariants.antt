use Rattle.std.proofs.Common.{◌≡◌, ◌++◌, chars, length}
use Rattle.std.specs.Str.{IsUtf8}
use Rattle.std.specs.Str.Iter.{chars_rest}
use Rattle.py_text.proofs.text.PyStr.to_chars.Given as goal

abbrev pub invariant-chars : goal.invariant-chars
invariant-chars l = record {
  utf8 : IsUtf8 (chars_rest l.rest);
  sofar : l.made.items ++ chars (chars_rest l.rest) ≡ l.self;
}

abbrev pub decreases-chars : goal.decreases-chars
decreases-chars l = length (chars_rest l.rest)
