use Rattle.std.proofs.Common.{sym, ap, ◌∙◌, arith, take}
use Rattle.py_text.specs.Points as spec
use Rattle.py_text.proofs.StartLemmas.{starts_are_points, place_before, place_after, boundary_at}
use Rattle.py_text.proofs.points.offset_of.Goals as goal

pub bytes_before-requires : goal.bytes_before-requires
bytes_before-requires c = omega (arith, c.requires, ap spec.starts_in c.as_bytes.ensures.value, starts_are_points c.args.s.now c.utf8.s)

pub returns-clause-place : goal.returns-clause-place
returns-clause-place c = boundary_at _ _ _ c.as_bytes.ensures.value c.bytes_before.ensures.inside c.bytes_before.ensures.start

pub returns-clause-before : goal.returns-clause-before
returns-clause-before c =
    let b = boundary_at _ _ _ c.as_bytes.ensures.value c.bytes_before.ensures.inside c.bytes_before.ensures.start in
    place_before c.args.s.now c.bytes_before.result c.args.n c.utf8.s b (ap (λ l. spec.starts_in (take c.bytes_before.result l)) (sym c.as_bytes.ensures.value) ∙ c.bytes_before.ensures.count)

pub returns-clause-after : goal.returns-clause-after
returns-clause-after c =
    let b = boundary_at _ _ _ c.as_bytes.ensures.value c.bytes_before.ensures.inside c.bytes_before.ensures.start in
    place_after c.args.s.now c.bytes_before.result c.args.n c.utf8.s b (ap (λ l. spec.starts_in (take c.bytes_before.result l)) (sym c.as_bytes.ensures.value) ∙ c.bytes_before.ensures.count)
