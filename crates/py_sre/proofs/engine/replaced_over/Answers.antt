use Rattle.std.proofs.Common.{◌≡◌, ℕ, true, List, ◌++◌, Some, None, drop, refl, ap, sym, subst, ◌∙◌, arith}
use Rattle.py_sre.proofs.ReplacingLemmas.{rest_whole}
use Rattle.sre_match.specs.Matches.{Span}
use Rattle.sre_match.specs.Search.{Search}
use Rattle.py_sre.specs.Pieces.{replacement_of}
use Rattle.py_sre.proofs.WalkLemmas.{built_start, built_more, built_end, follows_here, falls, over_same, moved_same, standing_start, subject_start}
use Rattle.py_sre.proofs.engine.replaced_over.Goals as goal

pub spans-init : goal.spans-init
spans-init g c =
    let asked = c.new-walk.ensures.search ∙ c.new-request.ensures in
    let units = ap (λ (r : Search). r.units) asked in
    record {
      tree = ap (λ (r : Search). r.tree) asked;
      subject = ap (λ (r : Search). r.subject) asked ∙ subject_start _ _ _ refl c.count-end.ensures.count;
      units = units;
      fits = subst (λ (u : List ℕ). g.S.StrDrive.fits u c.create_cursor-from.result ≡ true) (c.view.ensures ∙ units) c.create_cursor-from.ensures.fits;
      built = rw (c.empty-out.ensures, c.create_cursor-from.ensures.place) (built_start (replacement_of g.B.Built.literal_units c.args.pieces.now c.args.unset.now) (g.S.StrDrive.units c.args.view) c.args.code.now.tree c.args.limit c.new-walk.result.next_start
          (standing_start c.new-request.result c.new-walk.result.next_start _ _ (ap (λ (r : Search). r.start) c.new-request.ensures) c.new-walk.ensures.next_start));
    }

pub append_span-requires-clause-taken : goal.append_span-requires-clause-taken
append_span-requires-clause-taken g c =
    let units = c.view-in-spans.ensures ∙ ap (λ (r : Search). r.units) c.has_next.ensures.search ∙ c.spans.invariant.units in
    subst g.B.Built.takes (sym units) c.requires.taken

pub append_span-requires-clause-fits : goal.append_span-requires-clause-fits
append_span-requires-clause-fits g c =
    let units = c.view-in-spans.ensures ∙ ap (λ (r : Search). r.units) c.has_next.ensures.search ∙ c.spans.invariant.units in
    subst (λ (u : List ℕ). g.S.StrDrive.fits u c.spans.from ≡ true) (sym units) c.spans.invariant.fits

pub append_span-requires-clause-follows : goal.append_span-requires-clause-follows
append_span-requires-clause-follows g c =
    let inv = c.spans.invariant in
    let x : Span = c.has_next.new.walk.span in
    let f = follows_here _ _ _ _ _ _ _ _ x _ _ inv.tree inv.subject inv.built (rw c.if-branch.true at c.in_ok-has_next.ensures.found) in
    let start = ap (λ (y : Span). y.start) c.state.ensures in
    omega (arith, f.from, start)

pub append_span-requires-clause-order : goal.append_span-requires-clause-order
append_span-requires-clause-order g c =
    let inv = c.spans.invariant in
    let x : Span = c.has_next.new.walk.span in
    let f = follows_here _ _ _ _ _ _ _ _ x _ _ inv.tree inv.subject inv.built (rw c.if-branch.true at c.in_ok-has_next.ensures.found) in
    rw c.state.ensures f.order

pub append_span-requires-clause-within : goal.append_span-requires-clause-within
append_span-requires-clause-within g c =
    let inv = c.spans.invariant in
    let x : Span = c.has_next.new.walk.span in
    let f = follows_here _ _ _ _ _ _ _ _ x _ _ inv.tree inv.subject inv.built (rw c.if-branch.true at c.in_ok-has_next.ensures.found) in
    let units = c.view-in-spans.ensures ∙ ap (λ (r : Search). r.units) c.has_next.ensures.search ∙ inv.units in
    rw (c.state.ensures, units) f.to

pub overflow_add-count : goal.overflow_add-count
overflow_add-count g c =
    let inv = c.spans.invariant in
    let x : Span = c.has_next.new.walk.span in
    let e = over_same c.spans.walk.search.tree c.args.code.now.tree c.spans.walk.search.subject (g.S.StrDrive.units c.args.view) c.args.limit c.spans.count c.spans.walk.next_start.place c.spans.walk.next_start.advance (Some x) inv.tree inv.subject (rw c.if-branch.true at c.in_ok-has_next.ensures.found) in
    let m = moved_same c.spans.walk.search.tree c.args.code.now.tree c.spans.walk.search.subject (g.S.StrDrive.units c.args.view) c.args.limit c.spans.count c.spans.walk.next_start c.has_next.new.walk.next_start inv.tree inv.subject c.in_ok-has_next.ensures.moved in
    let fall = falls (replacement_of g.B.Built.literal_units c.args.pieces.now c.args.unset.now) (g.S.StrDrive.units c.args.view) c.args.code.now.tree c.args.limit c.spans.count c.spans.walk.next_start c.has_next.new.walk.next_start c.spans.from.place (g.B.Built.units c.spans.out) x inv.built e m in
    let n = c.count-end.ensures.count in
    omega (arith, fall, inv.built.room, n, c.count-end.ensures.bound)

pub spans-smaller : goal.spans-smaller
spans-smaller g c =
    let inv = c.spans.invariant in
    let x : Span = c.has_next.new.walk.span in
    let e = over_same c.spans.walk.search.tree c.args.code.now.tree c.spans.walk.search.subject (g.S.StrDrive.units c.args.view) c.args.limit c.spans.count c.spans.walk.next_start.place c.spans.walk.next_start.advance (Some x) inv.tree inv.subject (rw c.if-branch.true at c.in_ok-has_next.ensures.found) in
    let m = moved_same c.spans.walk.search.tree c.args.code.now.tree c.spans.walk.search.subject (g.S.StrDrive.units c.args.view) c.args.limit c.spans.count c.spans.walk.next_start c.has_next.new.walk.next_start inv.tree inv.subject c.in_ok-has_next.ensures.moved in
    let fall = falls (replacement_of g.B.Built.literal_units c.args.pieces.now c.args.unset.now) (g.S.StrDrive.units c.args.view) c.args.code.now.tree c.args.limit c.spans.count c.spans.walk.next_start c.has_next.new.walk.next_start c.spans.from.place (g.B.Built.units c.spans.out) x inv.built e m in
    omega (arith, fall)

pub spans-preserved : goal.spans-preserved
spans-preserved g c =
    let inv = c.spans.invariant in
    let x : Span = c.has_next.new.walk.span in
    let e = over_same c.spans.walk.search.tree c.args.code.now.tree c.spans.walk.search.subject (g.S.StrDrive.units c.args.view) c.args.limit c.spans.count c.spans.walk.next_start.place c.spans.walk.next_start.advance (Some x) inv.tree inv.subject (rw c.if-branch.true at c.in_ok-has_next.ensures.found) in
    let m = moved_same c.spans.walk.search.tree c.args.code.now.tree c.spans.walk.search.subject (g.S.StrDrive.units c.args.view) c.args.limit c.spans.count c.spans.walk.next_start c.has_next.new.walk.next_start inv.tree inv.subject c.in_ok-has_next.ensures.moved in
    let units = c.view-in-spans.ensures ∙ ap (λ (r : Search). r.units) c.has_next.ensures.search ∙ inv.units in
    let appended = rw (units, c.state.ensures) at c.in_ok-from.ensures.ok in
    record {
      tree = ap (λ (r : Search). r.tree) c.has_next.ensures.search ∙ inv.tree;
      subject = ap (λ (r : Search). r.subject) c.has_next.ensures.search ∙ inv.subject;
      units = ap (λ (r : Search). r.units) c.has_next.ensures.search ∙ inv.units;
      fits = rw units at c.in_ok-from.ensures.fits;
      built = rw (c.in_ok-from.ensures.place, c.state.ensures) (built_more (replacement_of g.B.Built.literal_units c.args.pieces.now c.args.unset.now) (g.S.StrDrive.units c.args.view) c.args.code.now.tree c.args.limit c.spans.count c.spans.walk.next_start c.has_next.new.walk.next_start c.spans.from.place (g.B.Built.units c.spans.out) (g.B.Built.units c.append_span.new.out) x inv.built e m appended);
    }

pub append_part-requires-clause-taken : goal.append_part-requires-clause-taken
append_part-requires-clause-taken g c =
    let units = c.view-3.ensures ∙ ap (λ (r : Search). r.units) c.has_next.ensures.search ∙ c.spans.invariant.units in
    subst g.B.Built.takes (sym units) c.requires.taken

pub append_part-requires-clause-from_fits : goal.append_part-requires-clause-from_fits
append_part-requires-clause-from_fits g c =
    let units = c.view-3.ensures ∙ ap (λ (r : Search). r.units) c.has_next.ensures.search ∙ c.spans.invariant.units in
    subst (λ (u : List ℕ). g.S.StrDrive.fits u c.spans.from ≡ true) (sym units) c.spans.invariant.fits

pub append_part-requires-clause-order : goal.append_part-requires-clause-order
append_part-requires-clause-order g c =
    let n = c.count-end.ensures.count in
    omega (arith, c.spans.invariant.built.within, c.create_cursor-last.ensures.place, n)

pub returns-clause-ok : goal.returns-clause-ok
returns-clause-ok g c =
    let inv = c.spans.invariant in
    let e = over_same c.spans.walk.search.tree c.args.code.now.tree c.spans.walk.search.subject (g.S.StrDrive.units c.args.view) c.args.limit c.spans.count c.spans.walk.next_start.place c.spans.walk.next_start.advance None inv.tree inv.subject (rw c.if-branch.false at c.in_ok-has_next.ensures.found) in
    let units = c.view-3.ensures ∙ ap (λ (r : Search). r.units) c.has_next.ensures.search ∙ inv.units in
    let n = c.create_cursor-last.ensures.place ∙ c.count-end.ensures.count in
    let last = rw (units, n, rest_whole c.spans.from.place (g.S.StrDrive.units c.args.view)) at c.in_ok-append_part.ensures.ok in
    (built_end (replacement_of g.B.Built.literal_units c.args.pieces.now c.args.unset.now) (g.S.StrDrive.units c.args.view) c.args.code.now.tree c.args.limit c.spans.count c.spans.walk.next_start c.spans.from.place (g.B.Built.units c.spans.out) (g.B.Built.units c.append_part.new.self) inv.built e last).0

pub returns-clause-count : goal.returns-clause-count
returns-clause-count g c =
    let inv = c.spans.invariant in
    let e = over_same c.spans.walk.search.tree c.args.code.now.tree c.spans.walk.search.subject (g.S.StrDrive.units c.args.view) c.args.limit c.spans.count c.spans.walk.next_start.place c.spans.walk.next_start.advance None inv.tree inv.subject (rw c.if-branch.false at c.in_ok-has_next.ensures.found) in
    (built_end (replacement_of g.B.Built.literal_units c.args.pieces.now c.args.unset.now) (g.S.StrDrive.units c.args.view) c.args.code.now.tree c.args.limit c.spans.count c.spans.walk.next_start c.spans.from.place (g.B.Built.units c.spans.out) ((g.B.Built.units c.spans.out) ++ drop c.spans.from.place (g.S.StrDrive.units c.args.view)) inv.built e refl).1
