use Rattle.std.proofs.Common.{◌≡◌, ◌+◌, true, sym, ap, ◌∙◌, arith}
use Rattle.sre_code.specs.TreeView.{node_of}
use Rattle.sre_match.specs.Singles.{meets}
use Rattle.sre_match.specs.Anchors.{met_at}
use Rattle.sre_match.proofs.RunLemmas.{run_on}
use Rattle.sre_match.proofs.matcher.singles.run_length.Goals as goal

pub loop-n-preserved : goal.loop-n-preserved
loop-n-preserved g c =
    let test = meets (node_of c.args.node.now) in
    let s = c.args.s.now in
    let p = c.args.cursor.now.place in
    let met : met_at test s (p + c.loop-n.n) ≡ true = ap (met_at test s) (sym c.loop-n.invariant.place) ∙ sym c.met_at.ensures.met ∙ c.if-not-met_at.false in
    let on = run_on test s p c.args.most c.loop-n.n (omega arith) met in
    record {
      run = omega (arith, c.loop-n.invariant.run, on.0);
      cost = omega (arith, c.loop-n.invariant.cost, c.met_at.ensures.cost, on.1);
      most = omega arith;
      place = omega (arith, c.skip.ensures.place, c.loop-n.invariant.place);
      fits = c.skip.ensures.fits;
    }
