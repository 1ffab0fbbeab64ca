use Rattle.std.proofs.Common.{◌-◌, Bool, drop, length}
use Rattle.py_str.specs.Quote.{plain_of, is_kept}
use Rattle.py_str.specs.Passing.{IsPassed}
use Rattle.py_str.proofs.quote.kept_ascii.Given as goal

abbrev pub invariant-bytes : goal.invariant-bytes
invariant-bytes l = (ascii : Bool) → IsPassed (λ c. is_kept l.quote (plain_of ascii c) c) l.text (drop l.at l.text) l.at

abbrev pub decreases-bytes : goal.decreases-bytes
decreases-bytes l = length l.bytes - l.at
