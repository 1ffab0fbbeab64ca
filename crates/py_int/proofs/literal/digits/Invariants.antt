use Rattle.std.proofs.Common.{◌≡◌, ◌<◌, ◌^◌, drop, false}
use Rattle.py_int.specs.Literal.{saturated}
use Rattle.py_int.specs.Literal.{digits_after}
use Rattle.py_int.proofs.literal.digits.Given as goal

abbrev pub invariant-loop-byte : goal.invariant-loop-byte
invariant-loop-byte l = record {
  small : l.size < 2 ^ 128;
  same : saturated (digits_after l.base false 0 l.text) ≡ saturated (digits_after l.base l.after_digit l.size (drop l.byte-index l.text));
}
