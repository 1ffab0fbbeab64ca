use Rattle.std.proofs.Common.{rules, ◌≡◌, ◌+◌, length, vec_len, arith, Some}
use Rattle.py_value.proofs.DictLemmas.{distinct_popped}
use Rattle.py_value.proofs.WeightLemmas.{item_popped}
use Rattle.py_value.proofs.value.PyDict.pop_last.Goals as goal

pub invariant_of-self-2 : goal.invariant_of-self-2
invariant_of-self-2 c = distinct_popped (Some c.in-Some.item) c.self.inside.entries.items c.pop.new.self.items c.in-Some.ensures.items c.self.invariant

pub returns : goal.returns
returns c =
    let n : vec_len c.pop.new.self ≡ length c.pop.new.self.items = search rules in
    rw c.self.view_is at (item_popped (Some c.in-Some.item) c.self.inside.entries.items c.pop.new.self.items _ _ c.in-Some.ensures.items n c.in-Some.ensures.cases)
