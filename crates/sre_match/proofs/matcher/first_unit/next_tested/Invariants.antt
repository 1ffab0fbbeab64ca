use Rattle.std.proofs.Common.{◌≡◌, ◌-◌, ◌+◌, ◌≤◌, true, length}
use Rattle.sre_match.specs.FirstUnit.{first_unit_tree, PassedOver}
use Rattle.sre_match.specs.Matches.{Allowed}
use Rattle.sre_match.proofs.matcher.first_unit.next_tested.Given as goal

abbrev pub invariant-units : goal.invariant-units
invariant-units g l = record {
  passed : (a : Allowed) → PassedOver (first_unit_tree l.first_unit) l.s l.fn.cursor.place l.cursor.place a;
  onward : l.fn.cursor.place ≤ l.cursor.place;
  fits : g.S.StrDrive.fits l.s l.cursor ≡ true;
  cost : l.steps + l.fn.cursor.place ≤ l.fn.steps + l.cursor.place;
}

abbrev pub decreases-units : goal.decreases-units
decreases-units g l = length l.s - l.cursor.place
