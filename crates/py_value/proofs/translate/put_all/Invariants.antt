use Rattle.std.proofs.Common.{◌≡◌, length, chars, Result, List, ℕ, true}
use Rattle.std.specs.Str.{IsUtf8}
use Rattle.std.specs.Str.Iter.{chars_rest}
use Rattle.py_base.specs.declared.error.PyError.{PyError}
use Rattle.py_value.specs.Asking.{Seen}
use Rattle.py_value.specs.Plain.{bare}
use Rattle.py_value.specs.Translate.{GoesOn}
use Rattle.py_value.specs.ValueView.{plain_of}
use Rattle.py_value.proofs.translate.put_all.Given as goal

abbrev pub invariant-chars : goal.invariant-chars
invariant-chars g l = record {
  utf8 : IsUtf8 (chars_rest l.rest);
  quiet : bare (plain_of l.table) ≡ true → l.host ≡ l.fn.host;
  whole : (r : Result (List ℕ) PyError) (new : Seen) → GoesOn (plain_of l.table) (chars (chars_rest l.rest)) l.out (g.H.Host.seen l.host) new r → GoesOn (plain_of l.table) (chars l.text) l.fn.out (g.H.Host.seen l.fn.host) new r;
}

abbrev pub decreases-chars : goal.decreases-chars
decreases-chars g l = length (chars_rest l.rest)
