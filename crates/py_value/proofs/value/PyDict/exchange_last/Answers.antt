use Rattle.std.proofs.Common.{rules, ◌≡◌, ◌∙◌, ap, ◌-◌, ◌<◌, ◌≤◌, ◌+◌, length, vec_len, arith}
use Rattle.py_value.proofs.DictLemmas.{distinct_exchanged}
use Rattle.py_value.proofs.WeightLemmas.{items_exchanged, item_held}
use Rattle.py_value.specs.Weight.{weight, entries_weight}
use Rattle.py_value.specs.ValueView.{plain_of, entries_of}
use Rattle.py_value.proofs.value.PyDict.exchange_last.Goals as goal

pub invariant_of-self : goal.invariant_of-self
invariant_of-self c =
    distinct_exchanged c.self.inside.entries.items (c.len-count.result - 1) c.index_mut.result.now c.swap.new.x c.index_mut.ensures.value ∙ c.self.invariant

pub returns-clause-total : goal.returns-clause-total
returns-clause-total c =
    let n : vec_len c.self.inside.entries ≡ length c.self.inside.entries.items = search rules in
    let lt : c.len-count.result - 1 < length c.self.inside.entries.items = grind (arith, n, c.len-count.ensures, c.if-count-eq0.false) in
    let done = items_exchanged c.self.inside.entries.items (c.len-count.result - 1) c.index_mut.result.now c.swap.new.x lt c.index_mut.ensures.value in
    rw (c.swap.ensures.y_after, ← c.self.view_is) (done ∙ ap (λ v. entries_weight (entries_of c.self.inside.entries.items) + weight (plain_of v)) c.swap.ensures.x_after)

pub returns-clause-lighter : goal.returns-clause-lighter
returns-clause-lighter c =
    let n : vec_len c.self.inside.entries ≡ length c.self.inside.entries.items = search rules in
    let lt : c.len-count.result - 1 < length c.self.inside.entries.items = grind (arith, n, c.len-count.ensures, c.if-count-eq0.false) in
    λ e. rw (c.swap.ensures.y_after, ← c.self.view_is) (item_held c.self.inside.entries.items (c.len-count.result - 1) c.index_mut.result.now lt c.index_mut.ensures.value)
