use Rattle.std.proofs.Common.{chars, arith, ◌-◌}
use Rattle.py_text.proofs.ReplacingLemmas.{replacing_none, replacing_more, replacing_stops, replacing_ends, on_ok}
use Rattle.py_text.proofs.replacing.put_replaced.Goals as goal

pub loop-left-init : goal.loop-left-init
loop-left-init c = record { utf8 = c.utf8.text; replacing = replacing_none _ _ _ _ _ }

pub loop-left-preserved : goal.loop-left-preserved
loop-left-preserved c = record {
  utf8 = c.in-Some.ensures.text.2;
  replacing = replacing_more _ _ _ (chars c.loop-left.rest.now) (chars c.in-Some.front.now) (chars c.in-Some.back.now) _ c.loop-left.out c.append.new.self _ _ c.loop-left.left (c.loop-left.left - 1) c.requires (omega arith)
      c.in_ok-append-in-Some.ensures.ok c.in_ok-append_text-in-Some.ensures.ok c.in-Some.ensures.around c.loop-left.invariant.replacing;
}

pub returns-in-None-clause-ok : goal.returns-in-None-clause-ok
returns-in-None-clause-ok c = on_ok c.append-in-None.result (λ h. replacing_stops _ _ _ (chars c.loop-left.rest.now) _ c.loop-left.out _ _ c.loop-left.left c.in-None.ensures.around h c.loop-left.invariant.replacing) c.append-in-None.ensures.ok

pub returns-clause-ok : goal.returns-clause-ok
returns-clause-ok c = on_ok c.append-2.result (λ h. replacing_ends _ _ _ (chars c.loop-left.rest.now) _ c.loop-left.out _ _ c.loop-left.left (omega arith) h c.loop-left.invariant.replacing) c.append-2.ensures.ok
