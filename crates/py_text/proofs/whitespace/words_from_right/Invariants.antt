use Rattle.std.proofs.Common.{◌≡◌, true, chars, map, reverse}
use denote.Shadow.{shadow}
use denote.Text.{Utf8}
use Rattle.py_text.specs.Text.{all_ascii}
use Rattle.py_text.specs.Whitespace.{split_whitespace}
use Rattle.py_text.proofs.WhitespaceLemmas.{Wording}
use Rattle.py_text.proofs.whitespace.words_from_right.Given as goal

abbrev pub invariant-loop-rest : goal.invariant-loop-rest
invariant-loop-rest l = record { utf8 : shadow (Utf8 l.rest); ascii : l.ascii ≡ true → all_ascii (reverse (chars l.rest)) ≡ true; wording : Wording (reverse (chars l.rest)) (map reverse l.list) (split_whitespace l.limit (reverse l.text)) l.left }

abbrev pub decreases-loop-rest : goal.decreases-loop-rest
decreases-loop-rest l = l.left
