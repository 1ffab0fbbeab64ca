use Rattle.std.proofs.Common.{rules, ◌∙◌, arith}
use Rattle.std.specs.Str.Iter.{chars_rest}
use Rattle.std.proofs.lemmas.Str.{IsUtf8-past_char}
use Rattle.py_text.proofs.BuildingLemmas.{one_taken, all_taken}
use Rattle.py_spec.proofs.BytePartLemmas.{byte_within, char_narrow}
use Rattle.py_spec.proofs.percent.latin.bytes_of_text.Goals as goal

pub overflow_cast-c : goal.overflow_cast-c
overflow_cast-c c =
    let n = char_narrow (chars_rest c.chars.rest) (chars_rest c.next.new.self) c.in-Some.c c.chars.invariant.utf8 c.in-Some.ensures.steps.0 c.chars.invariant.narrow in
    omega (arith, byte_within c.in-Some.c n.0)

pub chars-preserved : goal.chars-preserved
chars-preserved c =
    let n = char_narrow (chars_rest c.chars.rest) (chars_rest c.next.new.self) c.in-Some.c c.chars.invariant.utf8 c.in-Some.ensures.steps.0 c.chars.invariant.narrow in
    record {
      utf8 = IsUtf8-past_char _ _ c.in-Some.c c.chars.invariant.utf8 c.in-Some.ensures.steps.0;
      narrow = n.1;
      sofar = rw c.in_ok-push.ensures.items (one_taken c.chars.made.items (chars_rest c.chars.rest) (chars_rest c.next.new.self) c.in-Some.c _ c.chars.invariant.utf8 c.in-Some.ensures.steps.0 c.chars.invariant.sofar);
    }

pub returns-clause-ok : goal.returns-clause-ok
returns-clause-ok c = c.from.ensures ∙ all_taken c.chars.made.items (chars_rest c.chars.rest) _ (search rules) c.chars.invariant.sofar
