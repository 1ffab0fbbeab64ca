use Rattle.sre_match.specs.Matches.{is_allowed}
use Rattle.sre_match.specs.Machine.{ahead_of, Less, allowed_by}
use Rattle.sre_match.specs.Fits.{Ready}
use Rattle.sre_match.proofs.matcher.machine.run_from.Given as goal

abbrev pub invariant-loop-turn : goal.invariant-loop-turn
invariant-loop-turn g l = record {
  less : Less (is_allowed l.s l.start (allowed_by l.ends)) l.fn.steps l.steps (ahead_of l.fn.current l.s l.fn.trail) (ahead_of l.current l.s l.trail);
  ready : Ready (g.S.StrDrive.fits l.s) l.current l.trail;
}
