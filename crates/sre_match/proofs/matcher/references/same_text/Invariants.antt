use Rattle.std.proofs.Common.{◌≡◌, ◌+◌, ◌*◌, ◌≤◌, true, drop}
use Rattle.std.specs.Prelude.{nat_eq, slice_range}
use Rattle.std.specs.List.{starts_with}
use Rattle.sre_match.proofs.matcher.references.same_text.Given as goal

abbrev pub invariant-loop-i : goal.invariant-loop-i
invariant-loop-i g l = record {
  same : starts_with nat_eq (drop l.fn.cursor.place l.s) (slice_range l.s l.from.place l.stop) ≡ starts_with nat_eq (drop l.cursor.place l.s) (slice_range l.s l.there.place l.stop);
  here : l.there.place ≡ l._i;
  place : l.cursor.place + l.from.place ≡ l.fn.cursor.place + l._i;
  cost : l.steps + 2 * l.from.place ≤ l.fn.steps + 2 * l._i;
  there_fits : g.S.StrDrive.fits l.s l.there ≡ true;
  fits : g.S.StrDrive.fits l.s l.cursor ≡ true;
}
