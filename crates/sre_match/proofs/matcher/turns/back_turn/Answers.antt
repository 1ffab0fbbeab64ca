use Rattle.std.proofs.Common.{subst, sym, ap, length, arith}
use Rattle.sre_match.specs.declared.matcher.trail.Trail.{Trail}
use Rattle.sre_match.specs.Fits.{Fit}
use Rattle.sre_match.specs.Machine.{Sound}
use Rattle.sre_match.proofs.matcher.turns.back_turn.Goals.{then-count-gt0+in-Ok, else-count-gt0}
use Rattle.sre_match.proofs.matcher.turns.back_turn.Goals as goal

pub returns-clause-ready : goal.returns-clause-ready
returns-clause-ready g c =
    let ok = g.S.StrDrive.fits c.args.s.now in
    record {
      sound = elim c.if-count-gt0.branch [
        | then-count-gt0+in-Ok w ↦ subst Sound (sym w.trail-is) w.in-Ok.ensures.sound
        | else-count-gt0 w ↦ subst Sound (sym w.trail-is) c.requires.ready.sound
      ];
      deep = elim c.if-count-gt0.branch [
        | then-count-gt0+in-Ok w ↦ omega (arith, ap (λ (t : Trail). length t.frames.items) w.trail-is, ap length w.in-Ok.ensures.frames, c.requires.ready.deep)
        | else-count-gt0 w ↦ omega (arith, ap (λ (t : Trail). length t.frames.items) w.trail-is, c.requires.ready.deep)
      ];
      here = c.requires.ready.here;
      kept = elim c.if-count-gt0.branch [
        | then-count-gt0+in-Ok w ↦ subst (Fit ok) (sym w.trail-is) (w.in-Ok.ensures.fit ok w.one_before-before.ensures.fits c.requires.ready.kept)
        | else-count-gt0 w ↦ subst (Fit ok) (sym w.trail-is) c.requires.ready.kept
      ];
    }
