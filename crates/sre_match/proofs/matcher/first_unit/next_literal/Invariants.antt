use Rattle.std.proofs.Common.{◌≡◌, ◌-◌, ◌+◌, ◌≤◌, ◌==◌, true, length}
use Rattle.sre_code.specs.PlainTree.{PlainTree}
use Rattle.sre_match.specs.FirstUnit.{reads_first, PassedOver}
use Rattle.sre_match.specs.Matches.{Allowed}
use Rattle.sre_match.proofs.matcher.first_unit.next_literal.Given as goal

abbrev pub invariant-units : goal.invariant-units
invariant-units g l = record {
  passed : (t : PlainTree) (a : Allowed) → reads_first t 0 (λ c. c == l.wanted) → PassedOver t l.s l.fn.cursor.place l.cursor.place a;
  onward : l.fn.cursor.place ≤ l.cursor.place;
  fits : g.S.StrDrive.fits l.s l.cursor ≡ true;
  cost : l.steps + l.fn.cursor.place ≤ l.fn.steps + l.cursor.place;
}

abbrev pub decreases-units : goal.decreases-units
decreases-units g l = length l.s - l.cursor.place
