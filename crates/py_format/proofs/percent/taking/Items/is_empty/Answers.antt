use Rattle.py_format.proofs.ItemLemmas.{size_from, same_test}
use Rattle.py_format.proofs.percent.taking.Items.is_empty.Goals as goal

pub returns : goal.returns
returns c =
    let e = size_from c.self.inside.values.now c.self.inside.at c.self.invariant in
    rw (c.len.ensures, ← e, ← c.self.view_is) (same_test c.self.inside.at _)
