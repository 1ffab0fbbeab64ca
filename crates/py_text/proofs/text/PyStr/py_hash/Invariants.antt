use Rattle.std.proofs.Common.{◌≡◌, take}
use Rattle.std.specs.Prelude.{bit_xor, fold}
use Rattle.py_text.specs.Hash.{mixed, fnv_offset_basis}
use Rattle.py_text.proofs.text.PyStr.py_hash.Given as goal

abbrev pub invariant-loop-byte : goal.invariant-loop-byte
invariant-loop-byte l = l.hash ≡ fold mixed (bit_xor l.seed fnv_offset_basis) (take l.byte-index l.byte-items)
