use Rattle.std.proofs.Common.{◌≡◌, ◌≤◌, ◌-◌, length, drop}
use Rattle.py_base.specs.Chars.Whitespace.{is_ascii_whitespace, skip_while}
use Rattle.py_base.proofs.chars.whitespace.trim_start.Given as goal

abbrev pub invariant-loop-start : goal.invariant-loop-start
invariant-loop-start l = record {
  within : l.start ≤ length l.bytes;
  same : skip_while is_ascii_whitespace l.bytes ≡ skip_while is_ascii_whitespace (drop l.start l.bytes);
}

abbrev pub decreases-loop-start : goal.decreases-loop-start
decreases-loop-start l = length l.bytes - l.start
