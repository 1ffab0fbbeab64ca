use Rattle.std.proofs.Common.{◌≡◌, true}
use Rattle.sre_match.proofs.Spans.{turns}
use Rattle.py_sre.specs.Pieces.{replacement_of}
use Rattle.py_sre.proofs.WalkLemmas.{Built}
use Rattle.py_sre.proofs.engine.replaced_over.Given as goal

abbrev pub invariant-spans : goal.invariant-spans
invariant-spans g l = record {
  tree : l.walk.search.tree ≡ l.code.tree;
  subject : l.walk.search.subject ≡ g.S.StrDrive.units l.fn.view;
  units : l.walk.search.units ≡ g.S.StrDrive.units l.fn.view;
  fits : g.S.StrDrive.fits (g.S.StrDrive.units l.fn.view) l.from ≡ true;
  built : Built (replacement_of g.B.Built.literal_units l.pieces l.unset) (g.S.StrDrive.units l.fn.view) l.code.tree l.limit l.count l.walk.next_start l.from.place (g.B.Built.units l.out);
}

abbrev pub decreases-spans : goal.decreases-spans
decreases-spans g l = turns (g.S.StrDrive.units l.fn.view) l.walk.next_start.place l.walk.next_start.advance
