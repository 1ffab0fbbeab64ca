use Rattle.std.proofs.Common.{refl, sym, ◌+◌, [], arith}
use Rattle.sre_match.specs.declared.matcher.trail.Current.{Current}
use Rattle.sre_match.specs.declared.matcher.trail.Part.TheVariants.{Skip}
use Rattle.sre_match.specs.FirstUnit.{first_unit_tree}
use Rattle.sre_match.specs.Machine.{ahead_of, allowed_by, Leaves}
use Rattle.sre_match.specs.Paths.{paths}
use Rattle.sre_match.proofs.KnownLemmas.{begins_with, first_read_paid}
use Rattle.sre_match.proofs.ProgressLemmas.{first_ends, first_cost, if_ok}
use Rattle.sre_match.proofs.LessLemmas.{leaves_then, leaves_is}
use Rattle.sre_match.proofs.matcher.candidate.find_at_candidate.Goals as goal

pub returns-in-Err-clause-cost : goal.returns-in-Err-clause-cost
returns-in-Err-clause-cost g c =
    omega (arith, first_read_paid c.args.first_unit.now c.args.s.now c.args.start.now.place (allowed_by c.args.ends) c.requires.begins (g.met.S.StrDrive.within c.args.s.now c.args.start.now c.requires.fits))

pub returns-in-Ok-clause-found : goal.returns-in-Ok-clause-found
returns-in-Ok-clause-found g c =
    let s = c.args.s.now in
    let n = c.args.steps.now in
    let i = c.args.start.now.place in
    let t = c.clear.new.trail in
    let e = c.clear.ensures in
    let start : Current = record { part = Skip; rest = 0; cursor = c.args.start.now } in
    let tree = first_unit_tree c.args.first_unit.now in
    let xs = ahead_of c.candidate_turn.new.current s c.candidate_turn.new.trail in
    let all : Leaves n (n + 1) (paths tree s i []) xs = leaves_then n n (n + 1) _ _ _ (leaves_is n _ _ (sym (begins_with (paths tree s) start s t e.marks e.frames e.choices refl))) (c.in-Ok.ensures.gives n) in
    if_ok c.run_from.result
    (λ o h. first_ends tree s i (allowed_by c.args.ends) n (n + 1) n xs _ (g.met.S.StrDrive.within s c.args.start.now c.requires.fits) all h)
    c.run_from.ensures.found

pub returns-in-Ok-clause-cost : goal.returns-in-Ok-clause-cost
returns-in-Ok-clause-cost g c =
    let s = c.args.s.now in
    let n = c.args.steps.now in
    let i = c.args.start.now.place in
    let t = c.clear.new.trail in
    let e = c.clear.ensures in
    let start : Current = record { part = Skip; rest = 0; cursor = c.args.start.now } in
    let tree = first_unit_tree c.args.first_unit.now in
    let xs = ahead_of c.candidate_turn.new.current s c.candidate_turn.new.trail in
    let all : Leaves n (n + 1) (paths tree s i []) xs = leaves_then n n (n + 1) _ _ _ (leaves_is n _ _ (sym (begins_with (paths tree s) start s t e.marks e.frames e.choices refl))) (c.in-Ok.ensures.gives n) in
    first_cost tree s i (allowed_by c.args.ends) n (n + 1) (c.run_from.new.steps + 1) xs (g.met.S.StrDrive.within s c.args.start.now c.requires.fits) all (omega (arith, c.run_from.ensures.cost))
