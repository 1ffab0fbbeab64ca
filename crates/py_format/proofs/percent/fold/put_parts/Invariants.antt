use Rattle.std.proofs.Common.{drop, Result, List, ℕ}
use Rattle.py_base.specs.declared.error.PyError.{PyError}
use Rattle.py_value.specs.Asking.{Seen, Answers}
use Rattle.py_format.specs.Percent.Fold.{put_parts}
use Rattle.py_format.proofs.percent.fold.put_parts.Given as goal

abbrev pub invariant-loop-entry : goal.invariant-loop-entry
invariant-loop-entry g l =
    (r : Result (List ℕ) PyError) (new : Seen) → Answers (put_parts g.O.Output.kind l.mapping (drop l.entry-index l.parts) l.left (g.O.Output.units l.out)) (g.H.Host.seen l.host) new r → Answers (put_parts g.O.Output.kind l.mapping l.parts l.fn.left (g.O.Output.units l.fn.out)) (g.H.Host.seen l.fn.host) new r
