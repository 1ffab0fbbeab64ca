use Rattle.std.proofs.Common.{◌≡◌, ◌<◌, ◌^◌, ap, ◌∙◌}
use Rattle.std.specs.Int.Digits.{number_from_digits}
use Rattle.py_int.specs.Bytes.{in_order, is_high, digits_if}
use Rattle.py_int.proofs.ByteDigitLemmas.{refused_bytes, taken_bytes, below_in_order}
use Rattle.py_int.proofs.number.PyInt.from_bytes.Goals as goal

pub returns-in-None : goal.returns-in-None
returns-in-None c =
    let below = below_in_order c.args.byteorder c.args.bytes.now (λ i. (c.type_inv.bytes i).fits) in
    refused_bytes c.args.signed (in_order c.args.byteorder c.args.bytes.now) below (rw (← c.spells_negative-negative.ensures) c.in-None.ensures)

pub returns-in-Some : goal.returns-in-Some
returns-in-Some c =
    let bs = in_order c.args.byteorder c.args.bytes.now in
    let below = below_in_order c.args.byteorder c.args.bytes.now (λ i. (c.type_inv.bytes i).fits) in
    let e : (c.in-Some.size < 2 ^ 127) × (c.in-Some.size ≡ number_from_digits 256 (digits_if c.spells_negative-negative.result bs)) = c.in-Some.ensures in
    let high = c.spells_negative-negative.ensures in
    let size : c.in-Some.size ≡ number_from_digits 256 (digits_if (is_high c.args.signed bs) bs) = e.1 ∙ ap (λ h. number_from_digits 256 (digits_if h bs)) high in
    rw (c.complement.ensures, high, size) (taken_bytes c.args.signed bs below (rw (← size) e.0))
