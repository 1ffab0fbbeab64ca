use Rattle.sre_match.specs.Captures.{captures}
use Rattle.std.proofs.Common.{◌≡◌, ◌+◌, ◌≤◌, false, None, Some, sym, ap, ◌∙◌, arith}
use Rattle.sre_match.specs.FirstUnit.{first_unit_tree, allowed_from}
use Rattle.sre_match.specs.Machine.{allowed_by, outcome_at}
use Rattle.sre_match.specs.Search.{allowed_in}
use Rattle.sre_match.specs.Matches.{first_allowed, next_span, next_reads, reads}
use Rattle.sre_match.proofs.ScanLemmas.{scan_found, scan_cost, scan_on, scan_none}
use Rattle.sre_match.proofs.matcher.search.candidate_ends.Goals as goal

pub returns-in_default-clause-found : goal.returns-in_default-clause-found
returns-in_default-clause-found g c =
    let r = c.args.request.now in
    let s = c.subject_of-subject.result in
    let a = allowed_in r c.places.must_advance in
    let at = c.next_candidate.new.cursor in
    (scan_none c.args.first_unit.now r.tree s r.subject c.places.start.place at.place a c.places.steps c.next_candidate.new.steps c.requires.begins c.requires.tree c.subject_of-subject.ensures (c.next_candidate.ensures.passed a) (g.met.S.StrDrive.within s at c.next_candidate.ensures.fits) (sym c.in_default.is ∙ c.next_candidate.ensures.unit) c.next_candidate.ensures.cost).0
    ∙ c.places.invariant.same

pub returns-in_default-clause-cost : goal.returns-in_default-clause-cost
returns-in_default-clause-cost g c =
    let r = c.args.request.now in
    let s = c.subject_of-subject.result in
    let a = allowed_in r c.places.must_advance in
    let at = c.next_candidate.new.cursor in
    let none = scan_none c.args.first_unit.now r.tree s r.subject c.places.start.place at.place a c.places.steps c.next_candidate.new.steps c.requires.begins c.requires.tree c.subject_of-subject.ensures (c.next_candidate.ensures.passed a) (g.met.S.StrDrive.within s at c.next_candidate.ensures.fits) (sym c.in_default.is ∙ c.next_candidate.ensures.unit) c.next_candidate.ensures.cost in
    omega (arith, none.1, c.places.invariant.cost)

pub returns-in_err-stop-clause-cost : goal.returns-in_err-stop-clause-cost
returns-in_err-stop-clause-cost g c =
    let r = c.args.request.now in
    let s = c.subject_of-subject.result in
    let a = allowed_in r c.places.must_advance in
    let at = c.next_candidate.new.cursor in
    let tree = first_unit_tree c.args.first_unit.now in
    let cost = scan_cost tree r.tree s r.subject c.places.start.place at.place a c.places.steps c.next_candidate.new.steps c.find_at_candidate.new.steps c.requires.tree c.subject_of-subject.ensures (c.next_candidate.ensures.passed a) (g.met.S.StrDrive.within s at c.next_candidate.ensures.fits) c.next_candidate.ensures.cost
    (omega (arith, c.find_at_candidate.ensures.cost, ap (λ x. reads tree s at.place x) c.ends_from-ends.ensures)) in
    omega (arith, cost, c.places.invariant.cost)

pub returns-in-Some-2-clause-found : goal.returns-in-Some-2-clause-found
returns-in-Some-2-clause-found g c =
    let r = c.args.request.now in
    let s = c.subject_of-subject.result in
    let a = allowed_in r c.places.must_advance in
    let at = c.next_candidate.new.cursor in
    let tree = first_unit_tree c.args.first_unit.now in
    scan_found tree r.tree s r.subject c.places.start.place at.place a (outcome_at (captures c.find_at_candidate.new.trail.marks.items) c.in-Some-2.stop) c.requires.tree c.subject_of-subject.ensures (c.next_candidate.ensures.passed a) (g.met.S.StrDrive.within s at c.next_candidate.ensures.fits)
    ((rw c.in-Some-2.is at c.in_ok-stop.ensures.found) ∙ ap (λ x. first_allowed tree s at.place x) c.ends_from-ends.ensures)
    ∙ c.places.invariant.same

pub returns-in-Some-2-clause-cost : goal.returns-in-Some-2-clause-cost
returns-in-Some-2-clause-cost g c =
    let r = c.args.request.now in
    let s = c.subject_of-subject.result in
    let a = allowed_in r c.places.must_advance in
    let at = c.next_candidate.new.cursor in
    let tree = first_unit_tree c.args.first_unit.now in
    let cost = scan_cost tree r.tree s r.subject c.places.start.place at.place a c.places.steps c.next_candidate.new.steps c.find_at_candidate.new.steps c.requires.tree c.subject_of-subject.ensures (c.next_candidate.ensures.passed a) (g.met.S.StrDrive.within s at c.next_candidate.ensures.fits) c.next_candidate.ensures.cost
    (omega (arith, c.find_at_candidate.ensures.cost, ap (λ x. reads tree s at.place x) c.ends_from-ends.ensures)) in
    omega (arith, cost, c.places.invariant.cost)

pub places-preserved : goal.places-preserved
places-preserved g c =
    let r = c.args.request.now in
    let s = c.subject_of-subject.result in
    let a = allowed_in r c.places.must_advance in
    let at = c.next_candidate.new.cursor in
    let tree = first_unit_tree c.args.first_unit.now in
    let out : None ≡ first_allowed tree s at.place (allowed_by c.ends_from-ends.result) = grind (arith, c.in_default-2.is, c.in_ok-stop.ensures.found) in
    let none : None ≡ first_allowed tree s at.place (allowed_from c.places.start.place at.place a) = out ∙ ap (λ x. first_allowed tree s at.place x) c.ends_from-ends.ensures in
    let on = scan_on tree r.tree s r.subject c.places.start.place at.place a c.places.steps c.next_candidate.new.steps c.find_at_candidate.new.steps c.requires.tree c.subject_of-subject.ensures (c.next_candidate.ensures.passed a) (g.met.S.StrDrive.within s at c.next_candidate.ensures.fits) none c.next_candidate.ensures.cost
    (omega (arith, c.find_at_candidate.ensures.cost, ap (λ x. reads tree s at.place x) c.ends_from-ends.ensures)) in
    let moved : c.skip.new.cursor.place ≡ at.place + 1 = c.skip.ensures.place in
    record {
      same = ap (λ p. next_span r.tree r.subject p (allowed_in r false)) moved ∙ on.0 ∙ c.places.invariant.same;
      cost = omega (arith, on.1, c.places.invariant.cost, ap (λ p. next_reads r.tree r.subject p (allowed_in r false)) moved);
      fits = ap (λ u. g.S.StrDrive.fits u c.skip.new.cursor) (sym c.subject_of-subject.ensures) ∙ c.skip.ensures.fits;
    }
