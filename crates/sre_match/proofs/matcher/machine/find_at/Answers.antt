use Rattle.std.proofs.Common.{ap, refl, ◌∙◌, [], arith}
use Rattle.sre_match.specs.declared.matcher.trail.Current.{Current}
use Rattle.sre_match.specs.declared.matcher.trail.Part.TheVariants.{Nodes}
use Rattle.sre_match.specs.Machine.{part_next, allowed_by}
use Rattle.sre_match.specs.Attempts.{chosen, cost_of}
use Rattle.sre_match.specs.Matches.{is_allowed}
use Rattle.sre_match.proofs.LessLemmas.{leaves_is}
use Rattle.sre_match.proofs.ProgressLemmas.{begins, first_ends, first_cost, leaves_tree, if_ok}
use Rattle.sre_match.proofs.matcher.machine.find_at.Goals as goal

pub returns-clause-found : goal.returns-clause-found
returns-clause-found g c =
    let s = c.args.s.now in
    let n = c.args.steps.now in
    let i = c.args.start.now.place in
    let t = c.clear.new.trail in
    let e = c.clear.ensures in
    let start : Current = record { part = Nodes c.nodes.result; rest = 0; cursor = c.args.start.now } in
    let xs = part_next start.part s i [] in
    if_ok c.run_from.result
    (λ o h. first_ends c.args.tree.now s i (allowed_by c.args.ends) n n n xs _ (g.met.S.StrDrive.within s c.args.start.now c.requires.fits)
    (leaves_tree _ c.args.tree.now s i n n xs c.nodes.ensures (leaves_is n _ _ refl))
    (h ∙ ap (chosen (is_allowed s i (allowed_by c.args.ends))) (begins start s t e.marks e.frames e.choices refl)))
    c.run_from.ensures.found

pub returns-clause-cost : goal.returns-clause-cost
returns-clause-cost g c =
    let s = c.args.s.now in
    let n = c.args.steps.now in
    let i = c.args.start.now.place in
    let t = c.clear.new.trail in
    let e = c.clear.ensures in
    let start : Current = record { part = Nodes c.nodes.result; rest = 0; cursor = c.args.start.now } in
    let xs = part_next start.part s i [] in
    first_cost c.args.tree.now s i (allowed_by c.args.ends) n n c.run_from.new.steps xs (g.met.S.StrDrive.within s c.args.start.now c.requires.fits)
    (leaves_tree _ c.args.tree.now s i n n xs c.nodes.ensures (leaves_is n _ _ refl))
    (omega (arith, c.run_from.ensures.cost, ap (cost_of (is_allowed s i (allowed_by c.args.ends))) (begins start s t e.marks e.frames e.choices refl)))
