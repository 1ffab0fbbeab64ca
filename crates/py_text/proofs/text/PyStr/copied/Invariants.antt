use Rattle.std.proofs.Common.{◌≡◌, chars, length, string_bytes}
use Rattle.py_text.specs.Sums.{copies}
use Rattle.py_text.proofs.text.PyStr.copied.Given as goal

abbrev pub invariant-loop-n : goal.invariant-loop-n
invariant-loop-n l = record { text : chars (string_bytes l.text) ≡ copies l._n l.self; count : l.points ≡ length (chars (string_bytes l.text)) }
