use Rattle.std.proofs.Common.{◌≡◌, length, chars, false}
use Rattle.std.specs.Str.{IsUtf8}
use Rattle.std.specs.Str.Iter.{chars_rest}
use Rattle.py_str.specs.TestsOf.{titled}
use Rattle.py_str.proofs.tests_of.is_titled.Given as goal

abbrev pub invariant-chars : goal.invariant-chars
invariant-chars l = record {
  utf8 : IsUtf8 (chars_rest l.rest);
  whole : titled l.after_cased (chars (chars_rest l.rest)) ≡ titled false (chars l.text);
}

abbrev pub decreases-chars : goal.decreases-chars
decreases-chars l = length (chars_rest l.rest)
