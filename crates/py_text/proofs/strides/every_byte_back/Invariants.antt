use Rattle.std.proofs.Common.{◌≡◌, ◌≤◌, ◌*◌, ◌++◌, length, drop, reverse, true, vec_capacity}
use Rattle.py_text.specs.Text.{all_ascii}
use Rattle.py_text.specs.Strides.{every}
use Rattle.py_text.proofs.strides.every_byte_back.Given as goal

abbrev pub invariant-loop-i : goal.invariant-loop-i
invariant-loop-i l = record {
  kept_ascii : all_ascii l.kept.items ≡ true;
  size : length l.kept.items ≡ l.i;
  room : l.count ≤ vec_capacity l.kept;
  sofar : l.kept.items ++ every l.step (drop (l.i * l.step) (reverse l.bytes)) ≡ every l.step (reverse l.bytes);
}
