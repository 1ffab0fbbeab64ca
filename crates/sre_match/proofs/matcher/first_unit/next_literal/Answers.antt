use Rattle.std.proofs.Common.{◌≡◌, sym, ap, ◌∙◌, ◌+◌, ◌==◌, ℕ, Bool, true, false, arith}
use Rattle.std.specs.Prelude.{slice_get}
use Rattle.std.proofs.lemmas.Bool.{eq-eqb, ne_eqb}
use Rattle.sre_match.specs.Anchors.{is_met}
use Rattle.sre_match.proofs.ScanLemmas.{passed_none, passed_one, passed_to}
use Rattle.sre_match.proofs.matcher.first_unit.next_literal.Goals as goal

pub units-init : goal.units-init
units-init g c = record {
  passed = λ t a h. passed_none t c.args.s.now c.args.cursor.now.place a;
  onward = omega arith;
  fits = c.requires.fits;
  cost = omega arith;
}

pub returns-then-unit-wanted-clause-meets : goal.returns-then-unit-wanted-clause-meets
returns-then-unit-wanted-clause-meets g c = eq-eqb c.in-Some.unit c.args.wanted c.if-unit-wanted.true

pub units-preserved : goal.units-preserved
units-preserved g c =
    let s = c.args.s.now in
    let f : ℕ → Bool = λ u. u == c.args.wanted in
    let p = c.units.cursor.place in
    let out : is_met f (slice_get s p) ≡ false = ap (is_met f) (sym c.unit_at.ensures.unit ∙ c.in-Some.is) ∙ ne_eqb c.in-Some.unit c.args.wanted c.if-unit-wanted.false in
    record {
      passed = λ t a h. passed_to t s _ _ _ a (sym c.skip.ensures.place) (passed_one t f s c.args.cursor.now.place p a h c.units.invariant.onward (g.met.S.StrDrive.within s c.units.cursor c.units.invariant.fits) out (c.units.invariant.passed t a h));
      onward = omega (arith, c.units.invariant.onward, c.skip.ensures.place);
      fits = c.skip.ensures.fits;
      cost = omega (arith, c.units.invariant.cost, c.unit_at.ensures.cost, c.skip.ensures.place);
    }
