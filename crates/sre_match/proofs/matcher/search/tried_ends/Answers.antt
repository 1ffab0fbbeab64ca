use Rattle.sre_match.specs.Captures.{captures}
use Rattle.std.proofs.Common.{◌≡◌, ◌+◌, false, None, sym, ap, ◌∙◌, arith}
use Rattle.sre_match.specs.Machine.{outcome_at}
use Rattle.sre_match.specs.Search.{allowed_in}
use Rattle.sre_match.specs.Matches.{first_allowed, next_span, next_reads}
use Rattle.sre_match.proofs.NextSpanLemmas.{next_past, next_found, next_on, reads_here, reads_on}
use Rattle.sre_match.proofs.matcher.search.tried_ends.Goals as goal

pub returns-in_err-stop-clause-cost : goal.returns-in_err-stop-clause-cost
returns-in_err-stop-clause-cost g c =
    let r = c.args.request.now in
    let q = c.places.start.place in
    omega (arith, c.in_err-stop.ensures.cost, c.places.invariant.cost, reads_here r.tree r.subject q (allowed_in r c.places.must_advance) (g.met.S.StrDrive.within r.subject c.places.start c.places.invariant.fits))

pub returns-in-Some-clause-found : goal.returns-in-Some-clause-found
returns-in-Some-clause-found g c =
    let r = c.args.request.now in
    let q = c.places.start.place in
    next_found r.tree r.subject q (allowed_in r c.places.must_advance) (outcome_at (captures c.first_end.new.trail.marks.items) c.in-Some.stop) (g.met.S.StrDrive.within r.subject c.places.start c.places.invariant.fits) (rw c.in-Some.is at c.in_ok-stop.ensures.found)
    ∙ c.places.invariant.same

pub returns-in-Some-clause-cost : goal.returns-in-Some-clause-cost
returns-in-Some-clause-cost g c =
    let r = c.args.request.now in
    let q = c.places.start.place in
    omega (arith, c.in_ok-stop.ensures.cost, c.places.invariant.cost, reads_here r.tree r.subject q (allowed_in r c.places.must_advance) (g.met.S.StrDrive.within r.subject c.places.start c.places.invariant.fits))

pub returns-in-None-clause-found : goal.returns-in-None-clause-found
returns-in-None-clause-found g c =
    let r = c.args.request.now in
    let q = c.places.start.place in
    let none : None ≡ first_allowed r.tree r.subject q (allowed_in r c.places.must_advance) = grind (arith, c.in_default.is, c.in_ok-stop.ensures.found) in
    sym (next_past r.tree r.subject (q + 1) (allowed_in r false) (omega (arith, c.one_on.ensures.none c.in-None.is)))
    ∙ next_on r.tree r.subject q (allowed_in r c.places.must_advance) (g.met.S.StrDrive.within r.subject c.places.start c.places.invariant.fits) none ∙ c.places.invariant.same

pub returns-in-None-clause-cost : goal.returns-in-None-clause-cost
returns-in-None-clause-cost g c =
    let r = c.args.request.now in
    let q = c.places.start.place in
    omega (arith, c.in_ok-stop.ensures.cost, c.places.invariant.cost, reads_here r.tree r.subject q (allowed_in r c.places.must_advance) (g.met.S.StrDrive.within r.subject c.places.start c.places.invariant.fits))

pub places-preserved : goal.places-preserved
places-preserved g c =
    let r = c.args.request.now in
    let q = c.places.start.place in
    let le = g.met.S.StrDrive.within r.subject c.places.start c.places.invariant.fits in
    let none : None ≡ first_allowed r.tree r.subject q (allowed_in r c.places.must_advance) = grind (arith, c.in_default.is, c.in_ok-stop.ensures.found) in
    let on : c.in-Some-one_on.next.place ≡ q + 1 = c.in-Some-one_on.ensures.place in
    record {
      same = ap (λ p. next_span r.tree r.subject p (allowed_in r false)) on ∙ next_on r.tree r.subject q (allowed_in r c.places.must_advance) le none ∙ c.places.invariant.same;
      cost = omega (arith, c.in_ok-stop.ensures.cost, c.places.invariant.cost, reads_on r.tree r.subject q (allowed_in r c.places.must_advance) le none, ap (λ p. next_reads r.tree r.subject p (allowed_in r false)) on);
      fits = c.in-Some-one_on.ensures.fits;
    }
