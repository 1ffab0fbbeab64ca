use Rattle.std.proofs.Common.{rules, ◌≡◌, None, subst, sym}
use Rattle.py_intern.specs.Pool.{place_of, AreDistinct}
use Rattle.py_intern.proofs.ListLemmas.{distinct_pushed}
use Rattle.py_intern.proofs.pool.StringPool.intern.Goals as goal

pub returns-clause-distinct : goal.returns-clause-distinct
returns-clause-distinct g c =
    let none : place_of c.in_ok-text.text c.args.self.now ≡ None = search rules in
    subst AreDistinct (sym c.in_ok-put_last.ensures.ok) (distinct_pushed c.in_ok-text.text c.args.self.now c.len-place.ensures.distinct none)
