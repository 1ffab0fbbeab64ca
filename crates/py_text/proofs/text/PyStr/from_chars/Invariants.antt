use Rattle.std.proofs.Common.{◌≡◌, take, chars, string_bytes}
use Rattle.py_text.proofs.text.PyStr.from_chars.Given as goal

abbrev pub invariant-loop-point : goal.invariant-loop-point
invariant-loop-point l = chars (string_bytes l.text) ≡ take l.point-index l.points
