use Rattle.std.proofs.Common.{map}
use Rattle.call_tables.specs.Lines.{AddsLines}
use Rattle.call_tables.proofs.table.add_table.Given as goal

abbrev pub invariant-loop-line : goal.invariant-loop-line
invariant-loop-line g l = AddsLines (g.C.Calls.may_give l.table) (map (λ x. x.now) l.yielded) l.initial.report.all l.report.all
