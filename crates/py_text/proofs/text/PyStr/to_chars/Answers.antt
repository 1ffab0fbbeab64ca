use Rattle.std.proofs.Common.{rules}
use Rattle.std.specs.Str.Iter.{chars_rest}
use Rattle.std.proofs.lemmas.Str.{IsUtf8-past_char}
use Rattle.py_text.proofs.BuildingLemmas.{one_taken, all_taken}
use Rattle.py_text.proofs.text.PyStr.to_chars.Goals as goal

pub chars-preserved : goal.chars-preserved
chars-preserved c = record {
  utf8 = IsUtf8-past_char _ _ c.in-Some.point c.chars.invariant.utf8 c.in-Some.ensures.steps.0;
  sofar = rw c.in_ok-push.ensures.items (one_taken c.chars.made.items (chars_rest c.chars.rest) (chars_rest c.next.new.self) c.in-Some.point _ c.chars.invariant.utf8 c.in-Some.ensures.steps.0 c.chars.invariant.sofar);
}

pub returns-clause-ok : goal.returns-clause-ok
returns-clause-ok c = all_taken c.chars.made.items (chars_rest c.chars.rest) _ (search rules) c.chars.invariant.sofar
