use Rattle.std.proofs.Common.{drop, Result, List, ℕ}
use Rattle.py_base.specs.declared.error.PyError.{PyError}
use Rattle.py_value.specs.Asking.{Seen, Answers}
use Rattle.py_value.specs.ValueView.{plain_of}
use Rattle.py_format.specs.Percent.Fold.{put_keyed_parts}
use Rattle.py_format.proofs.percent.keyed.put_keyed_parts.Given as goal

abbrev pub invariant-loop-entry : goal.invariant-loop-entry
invariant-loop-entry g l =
    (r : Result (List ℕ) PyError) (new : Seen) → Answers (put_keyed_parts g.O.Output.kind (drop l.entry-index l.parts) (plain_of l.values) (g.O.Output.units l.out)) (g.H.Host.seen l.host) new r → Answers (put_keyed_parts g.O.Output.kind l.parts (plain_of l.values) (g.O.Output.units l.fn.out)) (g.H.Host.seen l.fn.host) new r
