use Rattle.std.proofs.Common.{◌≡◌, true, chars}
use denote.Shadow.{shadow}
use denote.Text.{Utf8}
use Rattle.py_text.specs.Text.{all_ascii}
use Rattle.py_text.specs.Pieces.{split}
use Rattle.py_text.proofs.PieceLemmas.{Cutting}
use Rattle.py_text.proofs.pieces.split_at.Given as goal

abbrev pub invariant-loop-left : goal.invariant-loop-left
invariant-loop-left l = record { utf8 : shadow (Utf8 l.rest); ascii : l.ascii ≡ true → all_ascii (chars l.rest) ≡ true; cutting : Cutting (chars l.sep) l.text (chars l.rest) l.list (split l.limit (chars l.sep) l.text) l.left }

abbrev pub decreases-loop-left : goal.decreases-loop-left
decreases-loop-left l = l.left
