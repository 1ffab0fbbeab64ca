use Rattle.std.proofs.Common.{◌≡◌, ◌++◌, true, length, chars}
use denote.Text.{Utf8}
use denote.Shadow.{shadow}
use Rattle.py_text.specs.Text.{all_ascii}
use Rattle.py_text.specs.Lines.{split_lines}
use Rattle.py_text.proofs.text.PyStr.splitlines.Given as goal

abbrev pub invariant-loop-whole : goal.invariant-loop-whole
invariant-loop-whole l = record { utf8 : shadow (Utf8 l.rest); ascii : l.ascii ≡ true → all_ascii (chars l.rest) ≡ true; lines : l.list ++ split_lines l.keepends (chars l.rest) ≡ split_lines l.keepends l.self }

abbrev pub decreases-loop-whole : goal.decreases-loop-whole
decreases-loop-whole l = length (chars l.rest)
