use Rattle.std.proofs.Common.{ap, ◌-◌, arith, length, chars}
use Rattle.py_text.specs.Points as spec
use Rattle.py_text.proofs.StartLemmas.{starts_are_points, place_before, place_after, boundary_at, starts_left}
use Rattle.py_text.proofs.points.offset_before.Goals as goal

pub bytes_before_last-requires : goal.bytes_before_last-requires
bytes_before_last-requires c = omega (arith, c.requires, ap spec.starts_in c.as_bytes.ensures.value, starts_are_points c.args.s.now c.utf8.s)

pub returns-clause-place : goal.returns-clause-place
returns-clause-place c = boundary_at _ _ _ c.as_bytes.ensures.value c.bytes_before_last.ensures.inside c.bytes_before_last.ensures.start

pub returns-clause-before : goal.returns-clause-before
returns-clause-before c =
    let b = boundary_at _ _ _ c.as_bytes.ensures.value c.bytes_before_last.ensures.inside c.bytes_before_last.ensures.start in
    place_before c.args.s.now c.bytes_before_last.result (length (chars c.args.s.now) - c.args.n) c.utf8.s b
    (starts_left c.args.s.now _ c.bytes_before_last.result c.args.n c.utf8.s c.as_bytes.ensures.value c.bytes_before_last.ensures.count)

pub returns-clause-after : goal.returns-clause-after
returns-clause-after c =
    let b = boundary_at _ _ _ c.as_bytes.ensures.value c.bytes_before_last.ensures.inside c.bytes_before_last.ensures.start in
    place_after c.args.s.now c.bytes_before_last.result (length (chars c.args.s.now) - c.args.n) c.utf8.s b
    (starts_left c.args.s.now _ c.bytes_before_last.result c.args.n c.utf8.s c.as_bytes.ensures.value c.bytes_before_last.ensures.count)
