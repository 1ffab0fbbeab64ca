use Rattle.std.proofs.Common.{◌∙◌, ap, pos, arith}
use Rattle.std.specs.Int.{w128}
use Rattle.std.specs.Int.Signed.{le_z}
use Rattle.std.proofs.Math.Nat.{pow-le-pow_right}
use Rattle.std.proofs.lemmas.Int.{to_z-of_z}
use Rattle.py_int.proofs.ByteDigitLemmas.{held_signed, held_unsigned}
use Rattle.py_int.proofs.bytes.is_held.Goals as goal

pub pow-requires : goal.pow-requires
pow-requires c = omega (arith, pow-le-pow_right {n = 256} (omega arith) {i = c.args.length} {j = 15} (omega arith))

pub returns-then-signed : goal.returns-then-signed
returns-then-signed c =
    rw c.if-signed.true (held_signed c.args.length c.args.value c.ranges.value c.if-length-ge16.true)

pub returns-else-signed : goal.returns-else-signed
returns-else-signed c =
    rw c.if-signed.false (ap (le_z (pos 0)) (to_z-of_z w128 c.args.value c.ranges.value) ∙ held_unsigned c.args.length c.args.value c.ranges.value c.if-length-ge16.true)
