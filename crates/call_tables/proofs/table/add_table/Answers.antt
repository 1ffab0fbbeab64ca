use Rattle.std.proofs.Common.{rules, List, ℕ, Bor}
use Rattle.std.proofs.lemmas.Iterator.{YieldsList}
use Rattle.std.proofs.lemmas.Iterator.Consumers.{YieldsList-end}
use Rattle.std.proofs.lemmas.Iterator.Splits.{YieldsList-from_lines}
use Rattle.std.specs.Str.Iter.{lines_steps}
use Rattle.std.specs.Str.Lines.{lines}
use Rattle.call_tables.proofs.LineLemmas.{add_item, all_told}
use Rattle.call_tables.proofs.table.add_table.Goals as goal

pub loop-line-preserved : goal.loop-line-preserved
loop-line-preserved g c =
    add_item (g.C.Calls.may_give c.args.table.now) c.loop-line.yielded c.in-Some.line c.begin.new.self.all c.loop-line.report.all
    c.add_line.new.report.all c.loop-line.invariant c.in_ok-add_line.ensures

pub returns : goal.returns
returns g c =
    let road : YieldsList lines_steps (λ (x : Bor (List ℕ)). x.now) c.into_iter-line-iterator.result (lines c.args.text.now) =
    YieldsList-from_lines c.args.text.now (search rules) in
    let all = YieldsList-end road c.loop-line.yielded _ c.loop-line.yielded_by _ _ c.in-None.is c.next.ensures.steps in
    all_told (g.C.Calls.may_give c.args.table.now) c.loop-line.yielded (lines c.args.text.now) c.args.report.now.all c.begin.new.self.all
    c.loop-line.report.all c.loop-line.invariant all.0 c.begin.ensures.counts
