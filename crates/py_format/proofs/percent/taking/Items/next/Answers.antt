use Rattle.std.proofs.Common.{◌∙◌, sym, arith}
use Rattle.py_format.proofs.ItemLemmas.{from_some, from_none, from_end}
use Rattle.py_format.proofs.percent.taking.Items.next.Goals as goal

pub returns-in-Some : goal.returns-in-Some
returns-in-Some c = sym c.self.view_is ∙ from_some c.self.inside.values.now c.self.inside.at _ c.in-Some.ensures

pub returns-in-None : goal.returns-in-None
returns-in-None c = sym c.self.view_is ∙ from_none c.self.inside.values.now c.self.inside.at c.in-None.ensures

pub returns-then-self-len : goal.returns-then-self-len
returns-then-self-len c = sym c.self.view_is ∙ from_end c.self.inside.values.now c.self.inside.at (omega (arith, c.len.ensures, c.if-self-len.true))
