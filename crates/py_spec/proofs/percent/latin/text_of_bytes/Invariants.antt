use Rattle.std.proofs.Common.{◌≡◌, take, chars, string_bytes, true}
use Rattle.py_spec.specs.Percent.ByteParts.{all_bytes}
use Rattle.py_spec.proofs.percent.latin.text_of_bytes.Given as goal

abbrev pub invariant-loop-byte : goal.invariant-loop-byte
invariant-loop-byte l = record {
  sofar : chars (string_bytes l.text) ≡ take l.byte-index l.bytes;
  narrow : all_bytes (take l.byte-index l.bytes) ≡ true;
}
