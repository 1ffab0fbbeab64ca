use Rattle.std.proofs.Common.{◌≡◌, ◌-◌, ◌+◌, ◌≤◌, true, length}
use Rattle.sre_match.specs.Matches.{next_span, next_reads}
use Rattle.sre_match.specs.Search.{allowed_in}
use Rattle.sre_match.proofs.matcher.search.tried_ends.Given as goal

abbrev pub invariant-places : goal.invariant-places
invariant-places g l = record {
  same : next_span l.request.tree l.request.subject l.start.place (allowed_in l.request l.must_advance) ≡ next_span l.request.tree l.request.subject l.from.place (allowed_in l.request l.advance);
  cost : l.steps + next_reads l.request.tree l.request.subject l.start.place (allowed_in l.request l.must_advance) ≤ l.fn.steps + next_reads l.request.tree l.request.subject l.from.place (allowed_in l.request l.advance);
  fits : g.S.StrDrive.fits l.request.subject l.start ≡ true;
}

abbrev pub decreases-places : goal.decreases-places
decreases-places g l = length l.request.subject + 1 - l.start.place
