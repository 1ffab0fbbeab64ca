use Rattle.std.proofs.Common.{◌≡◌, ◌++◌, length, chars}
use denote.Text.{Utf8}
use denote.Shadow.{shadow}
use Rattle.py_base.specs.Chars.Quoting.{quoted_chars}
use Rattle.py_str.specs.Quote.{plain_of}
use Rattle.py_str.proofs.quote.push_chars.Given as goal

abbrev pub invariant-runs : goal.invariant-runs
invariant-runs l = record {
  utf8 : shadow (Utf8 l.rest);
  whole : l.out ++ quoted_chars l.quote (plain_of l.ascii) (chars l.rest) ≡ l.initial.out ++ quoted_chars l.quote (plain_of l.ascii) (chars l.text);
}

abbrev pub decreases-runs : goal.decreases-runs
decreases-runs l = length l.rest
