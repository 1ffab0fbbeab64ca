use Rattle.std.proofs.Common.{◌-◌, ◌≡◌, ◌+◌, ◌≤◌, true}
use Rattle.sre_code.specs.TreeView.{node_of}
use Rattle.sre_match.specs.Singles.{meets, run_of, run_cost}
use Rattle.sre_match.proofs.matcher.singles.run_length.Given as goal

abbrev pub invariant-loop-n : goal.invariant-loop-n
invariant-loop-n g l = record {
  run : run_of (meets (node_of l.node)) l.s l.fn.cursor.place l.most ≡ l.n + run_of (meets (node_of l.node)) l.s (l.fn.cursor.place + l.n) (l.most - l.n);
  cost : l.steps + run_cost (meets (node_of l.node)) l.s (l.fn.cursor.place + l.n) (l.most - l.n) ≤ l.fn.steps + run_cost (meets (node_of l.node)) l.s l.fn.cursor.place l.most;
  most : l.n ≤ l.most;
  place : l.cursor.place ≡ l.fn.cursor.place + l.n;
  fits : g.S.StrDrive.fits l.s l.cursor ≡ true;
}

abbrev pub decreases-loop-n : goal.decreases-loop-n
decreases-loop-n g l = l.most - l.n
