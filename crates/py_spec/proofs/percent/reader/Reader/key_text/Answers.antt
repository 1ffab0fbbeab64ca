use Rattle.std.proofs.Common.{rules, ◌<◌, ◌^◌, arith, ap, length}
use Rattle.py_spec.proofs.percent.reader.Reader.key_text.Goals as goal

pub open_after-requires : goal.open_after-requires
open_after-requires c =
    let fits : c.left-most.result < 2 ^ 64 = search rules in
    omega (arith, fits, c.left-most.ensures, c.key.invariant.few, ap length c.in-Some.ensures)
