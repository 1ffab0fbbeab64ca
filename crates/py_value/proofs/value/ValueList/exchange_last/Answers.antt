use Rattle.std.proofs.Common.{rules, ◌≡◌, ◌∙◌, ap, ◌-◌, ◌<◌, ◌≤◌, ◌+◌, length, vec_len, arith}
use Rattle.py_value.proofs.WeightLemmas.{exchanged, held}
use Rattle.py_value.specs.Weight.{weight, values_weight}
use Rattle.py_value.specs.ValueView.{plain_of, values_of}
use Rattle.py_value.proofs.value.ValueList.exchange_last.Goals as goal

pub returns-clause-total : goal.returns-clause-total
returns-clause-total c =
    let n : vec_len c.self.inside.items ≡ length c.self.inside.items.items = search rules in
    let lt : c.len-count.result - 1 < length c.self.inside.items.items = grind (arith, n, c.len-count.ensures, c.if-count-eq0.false) in
    let done = exchanged c.self.inside.items.items (c.len-count.result - 1) c.index_mut.result.now c.swap.new.x lt c.index_mut.ensures.value in
    rw (c.swap.ensures.y_after, ← c.self.view_is) (done ∙ ap (λ v. values_weight (values_of c.self.inside.items.items) + weight (plain_of v)) c.swap.ensures.x_after)

pub returns-clause-lighter : goal.returns-clause-lighter
returns-clause-lighter c =
    let n : vec_len c.self.inside.items ≡ length c.self.inside.items.items = search rules in
    let lt : c.len-count.result - 1 < length c.self.inside.items.items = grind (arith, n, c.len-count.ensures, c.if-count-eq0.false) in
    λ e. rw (c.swap.ensures.y_after, ← c.self.view_is) (held c.self.inside.items.items (c.len-count.result - 1) c.index_mut.result.now lt c.index_mut.ensures.value)
