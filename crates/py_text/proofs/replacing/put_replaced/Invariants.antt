use Rattle.std.proofs.Common.{chars}
use denote.Text.{Utf8}
use denote.Shadow.{shadow}
use Rattle.py_text.proofs.ReplacingLemmas.{Replacing}
use Rattle.py_text.proofs.replacing.put_replaced.Given as goal

abbrev pub invariant-loop-left : goal.invariant-loop-left
invariant-loop-left l = record { utf8 : shadow (Utf8 l.rest); replacing : Replacing (chars l.old) l.new (chars l.text) (chars l.rest) l.initial.out l.out l.limit l.left }

abbrev pub decreases-loop-left : goal.decreases-loop-left
decreases-loop-left l = l.left
