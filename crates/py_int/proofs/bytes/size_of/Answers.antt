use Rattle.std.proofs.Common.{arith}
use Rattle.std.proofs.lemmas.Int.Digits.{number_more}
use Rattle.py_int.specs.Bytes.{in_order, digits_if}
use Rattle.py_int.proofs.ByteDigitLemmas.{too_big, place_within}
use Rattle.py_int.proofs.bytes.size_of.Goals as goal

pub returns-then-size : goal.returns-then-size
returns-then-size c =
    too_big (digits_if c.args.turned (in_order c.args.byteorder c.args.bytes.now)) c.loop-place.place c.loop-place.size (place_within c.args.turned c.args.byteorder c.args.bytes.now c.loop-place.place (omega arith)) c.loop-place.invariant.value (omega arith)

pub loop-place-preserved : goal.loop-place-preserved
loop-place-preserved c =
    let w = place_within c.args.turned c.args.byteorder c.args.bytes.now c.loop-place.place (omega arith) in
    let m = number_more 256 (digits_if c.args.turned (in_order c.args.byteorder c.args.bytes.now)) c.loop-place.place w in
    record { small = omega arith; value = omega arith }
