use Rattle.std.proofs.Common.{◌≡◌, true, chars}
use denote.Shadow.{shadow}
use denote.Text.{Utf8}
use Rattle.py_text.specs.Text.{all_ascii}
use Rattle.py_text.specs.Whitespace.{split_whitespace}
use Rattle.py_text.proofs.WhitespaceLemmas.{Wording}
use Rattle.py_text.proofs.whitespace.split_whitespace.Given as goal

abbrev pub invariant-loop-rest : goal.invariant-loop-rest
invariant-loop-rest l = record { utf8 : shadow (Utf8 l.rest); ascii : l.ascii ≡ true → all_ascii (chars l.rest) ≡ true; wording : Wording (chars l.rest) l.list (split_whitespace l.limit l.text) l.left }

abbrev pub decreases-loop-rest : goal.decreases-loop-rest
decreases-loop-rest l = l.left
