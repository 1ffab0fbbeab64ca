use Rattle.std.proofs.Common.{length}
use Rattle.std.specs.Str.Iter.{chars_rest}
use Rattle.py_str.specs.Quote.{plain_of, is_kept}
use Rattle.py_str.specs.Passing.{IsPassed}
use Rattle.py_str.proofs.quote.first_escaped.Given as goal

abbrev pub invariant-chars : goal.invariant-chars
invariant-chars l = IsPassed (λ c. is_kept l.quote (plain_of l.ascii c) c) l.text (chars_rest l.rest) l.at

abbrev pub decreases-chars : goal.decreases-chars
decreases-chars l = length (chars_rest l.rest)
