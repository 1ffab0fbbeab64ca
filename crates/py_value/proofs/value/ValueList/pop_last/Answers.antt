use Rattle.std.proofs.Common.{rules, ◌≡◌, length, vec_len}
use Rattle.py_value.proofs.WeightLemmas.{popped}
use Rattle.py_value.proofs.value.ValueList.pop_last.Goals as goal

pub returns : goal.returns
returns c =
    let n : vec_len c.pop.new.self ≡ length c.pop.new.self.items = search rules in
    rw c.self.view_is at (popped c.pop.result c.self.inside.items.items c.pop.new.self.items _ _ c.pop.ensures.items n c.pop.ensures.cases)
