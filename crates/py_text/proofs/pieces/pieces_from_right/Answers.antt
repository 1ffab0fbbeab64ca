use Rattle.std.proofs.Common.{◌<◌, ◌-◌, ◌∷◌, ◌++◌, [], length, map, reverse, ◌∙◌, ap, sym, arith, chars}
use Rattle.std.proofs.lemmas.List.{length-reverse, map_push}
use Rattle.py_text.specs.Text.{all_ascii}
use Rattle.py_text.proofs.AsciiLemmas.{ascii_before, ascii_after}
use Rattle.py_text.proofs.PieceLemmas.{cutting_none, cutting_more, cutting_stops, cutting_ends, ok_turned}
use Rattle.py_text.proofs.MirrorLemmas.{mirror_none, mirror_cut}
use Rattle.py_text.proofs.pieces.pieces_from_right.Goals as goal

pub loop-left-init : goal.loop-left-init
loop-left-init c = record {
  utf8 = c.as_str-rest.utf8;
  ascii = λ h. ap all_ascii c.as_str-rest.ensures.value ∙ sym c.is_ascii-ascii.ensures ∙ h;
  cutting = rw (c.new-list.ensures, c.as_str-rest.ensures.value) (cutting_none _ _ _);
}

pub push_copy-requires : goal.push_copy-requires
push_copy-requires c = λ h. ascii_after _ _ _ _ _ c.in-Some.ensures.around (c.loop-left.invariant.ascii h)

pub loop-left-preserved : goal.loop-left-preserved
loop-left-preserved c =
    let some : 0 < length (reverse (chars c.args.sep.now)) = omega (arith, c.requires, length-reverse (chars c.args.sep.now)) in
    record {
      utf8 = c.in-Some.ensures.text.0;
      ascii = λ h. ascii_before _ _ _ _ _ c.in-Some.ensures.around (c.loop-left.invariant.ascii h);
      cutting = cutting_more _ _ _ (reverse (chars c.in-Some.back.now)) _ (map reverse c.loop-left.list) _ _ c.loop-left.left (c.loop-left.left - 1) some (omega arith)
          (ap (map reverse) c.in_ok-push_copy-in-Some.ensures.ok ∙ map_push reverse c.loop-left.list (chars c.in-Some.back.now))
          (mirror_cut _ _ _ _ c.in-Some.ensures.around) c.loop-left.invariant.cutting;
    }

pub returns-in-None-clause-ok : goal.returns-in-None-clause-ok
returns-in-None-clause-ok c =
    ok_turned c.finished.result (c.loop-left.list ++ chars c.loop-left.rest.now ∷ []) _ c.finished.ensures.ok
    (map_push reverse c.loop-left.list (chars c.loop-left.rest.now) ∙ cutting_stops _ _ _ _ _ _ (mirror_none (chars c.args.sep.now) (chars c.loop-left.rest.now) c.in-None.ensures.around) c.loop-left.invariant.cutting)

pub returns-clause-ok : goal.returns-clause-ok
returns-clause-ok c =
    ok_turned c.finished-2.result (c.loop-left.list ++ chars c.loop-left.rest.now ∷ []) _ c.finished-2.ensures.ok
    (map_push reverse c.loop-left.list (chars c.loop-left.rest.now) ∙ cutting_ends _ _ _ _ _ _ (omega arith) c.loop-left.invariant.cutting)
