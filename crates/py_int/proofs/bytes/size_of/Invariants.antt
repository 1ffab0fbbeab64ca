use Rattle.std.proofs.Common.{◌≡◌, ◌<◌, ◌^◌, take}
use Rattle.std.specs.Int.Digits.{number_from_digits}
use Rattle.py_int.specs.Bytes.{in_order, digits_if}
use Rattle.py_int.proofs.bytes.size_of.Given as goal

abbrev pub invariant-loop-place : goal.invariant-loop-place
invariant-loop-place l = record {
  small : l.size < 2 ^ 127;
  value : l.size ≡ number_from_digits 256 (take l.place (digits_if l.turned (in_order l.byteorder l.bytes)));
}
