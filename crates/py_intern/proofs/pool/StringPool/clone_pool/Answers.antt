use Rattle.std.proofs.Common.{◌≡◌, ◌∙◌, ◌++◌, ◌∷◌, [], Some, slice_get, ap, sym}
use Rattle.py_intern.specs.Pool.{place_of}
use Rattle.py_intern.proofs.ListLemmas.{not_before, take_next}
use Rattle.py_intern.proofs.pool.StringPool.clone_pool.Goals as goal

pub put_last-requires : goal.put_last-requires
put_last-requires c =
    let there : slice_get c.args.self.now c.loop-place.place ≡ Some c.in_ok-to_exact.field-0 =
    ap (slice_get c.args.self.now) (sym c.at.ensures) ∙ c.in_ok-to_exact.ensures.ok in
    ap (place_of c.in_ok-to_exact.field-0) c.loop-place.invariant
    ∙ not_before c.in_ok-to_exact.field-0 c.args.self.now c.loop-place.place c.len-place-end.ensures.distinct there

pub loop-place-preserved : goal.loop-place-preserved
loop-place-preserved c =
    let there : slice_get c.args.self.now c.loop-place.place ≡ Some c.in_ok-to_exact.field-0 =
    ap (slice_get c.args.self.now) (sym c.at.ensures) ∙ c.in_ok-to_exact.ensures.ok in
    c.in_ok-put_last.ensures.ok ∙ ap (λ l. l ++ c.in_ok-to_exact.field-0 ∷ []) c.loop-place.invariant
    ∙ sym (take_next c.in_ok-to_exact.field-0 c.args.self.now c.loop-place.place there)
