use Rattle.std.proofs.Common.{◌≡◌, ◌<◌, ◌∙◌, ap, chars, length, arith, ◌-◌}
use Rattle.std.proofs.lemmas.Bool.Decides.{nat_tests}
use Rattle.std.proofs.lemmas.Str.{chars-nil, IsUtf8-drop}
use Rattle.std.proofs.lemmas.List.{nil_from_length}
use Rattle.py_text.proofs.UntilLemmas.{some_chars}
use Rattle.py_text.proofs.ReplacingLemmas.{spreading_none, spreading_put, spread_stops, spread_on, spreading_ends, on_ok}
use Rattle.py_text.proofs.replacing.put_between.Goals as goal

pub loop-left-init : goal.loop-left-init
loop-left-init c = record { utf8 = c.utf8.text; spreading = spreading_none _ _ _ _ }

pub returns-then-is_empty-clause-ok : goal.returns-then-is_empty-clause-ok
returns-then-is_empty-clause-ok c =
    let bytes : length c.loop-left.rest.now ≡ 0 = grind (arith, nat_tests) in
    spread_stops _ _ (chars c.loop-left.rest.now) _ c.append_text.new.self _ (c.loop-left.left - 1) (ap chars (nil_from_length c.loop-left.rest.now bytes) ∙ chars-nil)
    (spreading_put _ _ (chars c.loop-left.rest.now) _ c.loop-left.out c.append_text.new.self _ c.loop-left.left (c.loop-left.left - 1) (omega arith) c.in_ok-append_text.ensures.ok c.loop-left.invariant.spreading)

pub offset_of-requires : goal.offset_of-requires
offset_of-requires c =
    let bytes : 0 < length c.loop-left.rest.now = grind (arith, nat_tests) in
    omega (arith, some_chars c.loop-left.rest.now c.loop-left.invariant.utf8 bytes)

pub loop-left-preserved : goal.loop-left-preserved
loop-left-preserved c =
    let bytes : 0 < length c.loop-left.rest.now = grind (arith, nat_tests) in
    record {
      utf8 = rw c.split_at.ensures.back (IsUtf8-drop c.loop-left.rest.now c.offset_of.result c.loop-left.invariant.utf8 c.offset_of.ensures.place);
      spreading = spread_on _ _ (chars c.loop-left.rest.now) (chars c.split_at.result.0.now) (chars c.split_at.result.1.now) _ c.append_text.new.self c.append.new.self _ (c.loop-left.left - 1)
          (some_chars c.loop-left.rest.now c.loop-left.invariant.utf8 bytes)
          (ap chars c.split_at.ensures.front ∙ c.offset_of.ensures.before) (ap chars c.split_at.ensures.back ∙ c.offset_of.ensures.after) c.in_ok-append.ensures.ok
          (spreading_put _ _ (chars c.loop-left.rest.now) _ c.loop-left.out c.append_text.new.self _ c.loop-left.left (c.loop-left.left - 1) (omega arith) c.in_ok-append_text.ensures.ok c.loop-left.invariant.spreading);
    }

pub returns-clause-ok : goal.returns-clause-ok
returns-clause-ok c = on_ok c.append-2.result (λ h. spreading_ends _ _ (chars c.loop-left.rest.now) _ c.loop-left.out _ _ c.loop-left.left (omega arith) h c.loop-left.invariant.spreading) c.append-2.ensures.ok
