use Rattle.std.proofs.Common.{rules, ◌≡◌, ◌∙◌, ◌<◌, ap, sym, arith, chars, length, length-append, ◌^◌, reverse, string_bytes, ◌++◌, ◌∷◌, []}
use Rattle.std.specs.Str.Iter.{chars_rest}
use Rattle.std.specs.Char.{IsScalar}
use Rattle.py_text.proofs.PointLemmas.{points_at_most}
use Rattle.std.proofs.lemmas.Str.{chars-nil, IsUtf8-string_bytes}
use Rattle.py_text.specs.Strides.{every}
use Rattle.py_text.proofs.StrideLemmas.{back_taken, back_passed, front_utf8, begun, ended_back, pushed}
use Rattle.py_text.proofs.strides.every_char_back.Goals as goal
use Rattle.py_text.proofs.strides.every_char_back.Goals.{then-skip-eq0+in_ok-push, else-skip-eq0}

pub chars-init : goal.chars-init
chars-init c = record {
  utf8 = search rules;
  count = let e : string_bytes c.in_ok-text.text ≡ [] = search rules in sym (ap length (ap chars e ∙ chars-nil));
  below = omega arith;
  sofar = begun c.args.step (string_bytes c.in_ok-text.text) (reverse (chars (chars_rest c.chars-rest.result))) (search rules) ∙ ap (λ bs. every c.args.step (reverse (chars bs))) c.chars-rest.ensures.rest;
}

pub chars-preserved : goal.chars-preserved
chars-preserved c = elim c.if-skip-eq0.branch [
  | then-skip-eq0+in_ok-push w ↦
      let scalar : IsScalar c.in-Some.c = search rules in
      let none : c.chars.skip ≡ 0 = search rules in
      let more : chars (string_bytes w.push.new.self) ≡ chars (string_bytes c.chars.text) ++ c.in-Some.c ∷ [] = pushed _ _ c.in-Some.c scalar (IsUtf8-string_bytes c.chars.text) w.in_ok-push.ensures.bytes in
      record {
        utf8 = front_utf8 _ _ c.in-Some.c scalar c.chars.invariant.utf8 c.in-Some.ensures.steps;
        below = omega arith;
        count = rw (w.text-is, w.count-is) (omega (arith, ap length more, length-append (chars (string_bytes c.chars.text)) (c.in-Some.c ∷ []), c.chars.invariant.count));
        sofar = rw (w.text-is, w.skip-is, more) (back_taken c.args.step _ (chars_rest c.chars.rest) (chars_rest c.next_back.new.self) c.in-Some.c _ scalar c.chars.invariant.utf8 c.in-Some.ensures.steps (rw none at c.chars.invariant.sofar));
      }
  | else-skip-eq0 w ↦
      let scalar : IsScalar c.in-Some.c = search rules in
      let some : 0 < c.chars.skip = omega arith in
      record {
        utf8 = front_utf8 _ _ c.in-Some.c scalar c.chars.invariant.utf8 c.in-Some.ensures.steps;
        below = omega arith;
        count = rw (w.text-is, w.count-is) c.chars.invariant.count;
        sofar = rw (w.text-is, w.skip-is) (back_passed c.args.step c.chars.skip _ (chars_rest c.chars.rest) (chars_rest c.next_back.new.self) c.in-Some.c _ some scalar c.chars.invariant.utf8 c.in-Some.ensures.steps c.chars.invariant.sofar);
      }
]

pub overflow_add-count : goal.overflow_add-count
overflow_add-count c =
    let scalar : IsScalar c.in-Some.c = search rules in
    let more : chars (string_bytes c.push.new.self) ≡ chars (string_bytes c.chars.text) ++ c.in-Some.c ∷ [] = pushed _ _ c.in-Some.c scalar (IsUtf8-string_bytes c.chars.text) c.in_ok-push.ensures.bytes in
    let f : length (string_bytes c.push.new.self) < 2 ^ 64 = search rules in
    omega (arith, f, ap length more, length-append (chars (string_bytes c.chars.text)) (c.in-Some.c ∷ []), c.chars.invariant.count, points_at_most (string_bytes c.push.new.self) (IsUtf8-string_bytes c.push.new.self))

pub with_count-requires : goal.with_count-requires
with_count-requires c = c.chars.invariant.count

pub returns-clause-ok : goal.returns-clause-ok
returns-clause-ok c = c.with_count.ensures ∙ ended_back c.args.step c.chars.skip _ (chars_rest c.chars.rest) _ (search rules) c.chars.invariant.sofar
