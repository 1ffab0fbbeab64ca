use Rattle.std.proofs.Common.{◌≡◌, sym, ap, ◌∙◌, ◌+◌, false, arith}
use Rattle.std.specs.Prelude.{slice_get}
use Rattle.sre_match.specs.Anchors.{is_met}
use Rattle.sre_match.specs.FirstUnit.{first_unit_tree, meets_first}
use Rattle.sre_match.specs.Matches.{Allowed}
use Rattle.sre_match.proofs.ScanLemmas.{tree_reads_first_unit, passed_none, passed_one, passed_to}
use Rattle.sre_match.proofs.matcher.first_unit.next_tested.Goals as goal

pub units-preserved : goal.units-preserved
units-preserved g c =
    let s = c.args.s.now in
    let l = c.args.first_unit.now in
    let p = c.units.cursor.place in
    let out : is_met (meets_first l) (slice_get s p) ≡ false = ap (is_met (meets_first l)) (sym c.unit_at.ensures.unit ∙ c.in-Some.is) ∙ sym c.meets_first.ensures ∙ c.if-meets_first.false in
    record {
      passed = λ a. passed_to (first_unit_tree l) s _ _ _ a (sym c.skip.ensures.place) (passed_one (first_unit_tree l) (meets_first l) s c.args.cursor.now.place p a (tree_reads_first_unit l c.requires.begins) c.units.invariant.onward (g.met.S.StrDrive.within s c.units.cursor c.units.invariant.fits) out (c.units.invariant.passed a));
      onward = omega (arith, c.units.invariant.onward, c.skip.ensures.place);
      fits = c.skip.ensures.fits;
      cost = omega (arith, c.units.invariant.cost, c.unit_at.ensures.cost, c.skip.ensures.place);
    }
