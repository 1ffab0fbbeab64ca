use Rattle.std.proofs.Common.{sym, ◌∙◌, ◌<◌, drop, length, arith}
use Rattle.std.specs.Prelude.{nat_eq, slice_range}
use Rattle.std.specs.List.{starts_with}
use Rattle.sre_match.proofs.UnitLemmas.{starts_more, starts_differ}
use Rattle.sre_match.proofs.matcher.references.same_text.Goals as goal

pub returns-then-a-b-clause-same : goal.returns-then-a-b-clause-same
returns-then-a-b-clause-same g c =
    let u = c.args.s.now in
    let a = c.loop-i.there.place in
    let b = c.loop-i.cursor.place in
    let h : a < c.args.stop = omega (arith, c.loop-i.invariant.here) in
    let k : b < length u = omega (arith, c.count-count.ensures.count) in
    sym (c.loop-i.invariant.same ∙ starts_differ u a b c.args.stop h c.requires.stop k (λ e. c.if-a-b.true (c.peek-a.ensures.unit ∙ e ∙ sym c.peek-b.ensures.unit)))

pub loop-i-preserved : goal.loop-i-preserved
loop-i-preserved g c =
    let u = c.args.s.now in
    let a = c.loop-i.there.place in
    let b = c.loop-i.cursor.place in
    let h : a < c.args.stop = omega (arith, c.loop-i.invariant.here) in
    let k : b < length u = omega (arith, c.count-count.ensures.count) in
    record {
      same = c.loop-i.invariant.same ∙ starts_more u a b c.args.stop h c.requires.stop k (sym c.peek-a.ensures.unit ∙ c.if-a-b.false ∙ c.peek-b.ensures.unit)
          ∙ (λ x. starts_with nat_eq (drop (sym c.skip-in-loop-i.ensures.place x) u) (slice_range u (sym c.skip.ensures.place x) c.args.stop));
      here = omega (arith, c.skip.ensures.place, c.loop-i.invariant.here);
      place = omega (arith, c.skip-in-loop-i.ensures.place, c.loop-i.invariant.place);
      cost = omega (arith, c.loop-i.invariant.cost, c.peek-a.ensures.step, c.peek-b.ensures.step);
      there_fits = c.skip.ensures.fits;
      fits = c.skip-in-loop-i.ensures.fits;
    }
