use Rattle.std.proofs.Common.{◌≡◌, ℕ, ◌-◌, true, List, ◌++◌, Some, None, length, drop, refl, ap, sym, subst, ◌∙◌, encode_utf8_all, arith}
use Rattle.sre_commands.proofs.StreamLemmas.{rest_whole}
use Rattle.sre_match.specs.Matches.{Span}
use Rattle.sre_match.specs.Search.{Search}
use Rattle.sre_commands.specs.Commands.Sub.Template.{replacement_of}
use Rattle.sre_commands.proofs.WalkLemmas.{copied_start, copied_more, copied_end, follows_here, falls, over_same, moved_same, standing_start, subject_start}
use Rattle.sre_commands.proofs.commands.sub.answer.replaced_over.Goals as goal

pub spans-init : goal.spans-init
spans-init g c =
    let asked = c.new-walk.ensures.search ∙ c.new-request.ensures in
    let units = ap (λ (r : Search). r.units) asked ∙ c.requires.units in
    record {
      tree = ap (λ (r : Search). r.tree) asked;
      subject = ap (λ (r : Search). r.subject) asked ∙ subject_start _ _ _ c.requires.units (c.count-end.ensures.count ∙ ap length c.requires.units);
      units = units;
      is_text = subst g.S.TextParts.is_text c.requires.units c.requires.is_text;
      fits = subst (λ (u : List ℕ). g.S.StrDrive.fits u c.create_cursor-from.result ≡ true) (c.view.ensures ∙ units) c.create_cursor-from.ensures.fits;
      copied = rw (c.new-bytes.ensures.items, c.create_cursor-from.ensures.place) (copied_start (replacement_of c.args.asked.now.template) c.args.asked.now.subject c.args.code.now.tree c.args.asked.now.limit c.new-walk.result.next_start
          (standing_start c.new-request.result c.new-walk.result.next_start _ _ (ap (λ (r : Search). r.start) c.new-request.ensures) c.new-walk.ensures.next_start));
    }

pub append_span-requires-clause-is_text : goal.append_span-requires-clause-is_text
append_span-requires-clause-is_text g c =
    let units = c.view-in-spans.ensures ∙ ap (λ (r : Search). r.units) c.has_next.ensures.search ∙ c.spans.invariant.units in
    subst g.S.TextParts.is_text (sym units) c.spans.invariant.is_text

pub append_span-requires-clause-fits : goal.append_span-requires-clause-fits
append_span-requires-clause-fits g c =
    let units = c.view-in-spans.ensures ∙ ap (λ (r : Search). r.units) c.has_next.ensures.search ∙ c.spans.invariant.units in
    subst (λ (u : List ℕ). g.S.StrDrive.fits u c.spans.from ≡ true) (sym units) c.spans.invariant.fits

pub append_span-requires-clause-follows : goal.append_span-requires-clause-follows
append_span-requires-clause-follows g c =
    let inv = c.spans.invariant in
    let x : Span = c.has_next.new.walk.span in
    let f = follows_here _ _ _ _ _ _ _ _ x _ _ inv.tree inv.subject inv.copied (rw c.if-branch.true at c.in_ok-has_next.ensures.found) in
    let start = ap (λ (y : Span). y.start) c.state.ensures in
    omega (arith, f.from, start)

pub append_span-requires-clause-order : goal.append_span-requires-clause-order
append_span-requires-clause-order g c =
    let inv = c.spans.invariant in
    let x : Span = c.has_next.new.walk.span in
    let f = follows_here _ _ _ _ _ _ _ _ x _ _ inv.tree inv.subject inv.copied (rw c.if-branch.true at c.in_ok-has_next.ensures.found) in
    rw c.state.ensures f.order

pub append_span-requires-clause-within : goal.append_span-requires-clause-within
append_span-requires-clause-within g c =
    let inv = c.spans.invariant in
    let x : Span = c.has_next.new.walk.span in
    let f = follows_here _ _ _ _ _ _ _ _ x _ _ inv.tree inv.subject inv.copied (rw c.if-branch.true at c.in_ok-has_next.ensures.found) in
    let units = c.view-in-spans.ensures ∙ ap (λ (r : Search). r.units) c.has_next.ensures.search ∙ inv.units in
    rw (c.state.ensures, units) f.to

pub overflow_add-count : goal.overflow_add-count
overflow_add-count g c =
    let inv = c.spans.invariant in
    let x : Span = c.has_next.new.walk.span in
    let e = over_same c.spans.walk.search.tree c.args.code.now.tree c.spans.walk.search.subject c.args.asked.now.subject c.args.asked.now.limit c.spans.count c.spans.walk.next_start.place c.spans.walk.next_start.advance (Some x) inv.tree inv.subject (rw c.if-branch.true at c.in_ok-has_next.ensures.found) in
    let m = moved_same c.spans.walk.search.tree c.args.code.now.tree c.spans.walk.search.subject c.args.asked.now.subject c.args.asked.now.limit c.spans.count c.spans.walk.next_start c.has_next.new.walk.next_start inv.tree inv.subject c.in_ok-has_next.ensures.moved in
    let fall = falls (replacement_of c.args.asked.now.template) c.args.asked.now.subject c.args.code.now.tree c.args.asked.now.limit c.spans.count c.spans.walk.next_start c.has_next.new.walk.next_start c.spans.from.place c.spans.bytes.items x inv.copied e m in
    let n = c.count-end.ensures.count ∙ ap length c.requires.units in
    omega (arith, fall, inv.copied.room, n, c.count-end.ensures.bound)

pub spans-smaller : goal.spans-smaller
spans-smaller g c =
    let inv = c.spans.invariant in
    let x : Span = c.has_next.new.walk.span in
    let e = over_same c.spans.walk.search.tree c.args.code.now.tree c.spans.walk.search.subject c.args.asked.now.subject c.args.asked.now.limit c.spans.count c.spans.walk.next_start.place c.spans.walk.next_start.advance (Some x) inv.tree inv.subject (rw c.if-branch.true at c.in_ok-has_next.ensures.found) in
    let m = moved_same c.spans.walk.search.tree c.args.code.now.tree c.spans.walk.search.subject c.args.asked.now.subject c.args.asked.now.limit c.spans.count c.spans.walk.next_start c.has_next.new.walk.next_start inv.tree inv.subject c.in_ok-has_next.ensures.moved in
    let fall = falls (replacement_of c.args.asked.now.template) c.args.asked.now.subject c.args.code.now.tree c.args.asked.now.limit c.spans.count c.spans.walk.next_start c.has_next.new.walk.next_start c.spans.from.place c.spans.bytes.items x inv.copied e m in
    omega (arith, fall)

pub spans-preserved : goal.spans-preserved
spans-preserved g c =
    let inv = c.spans.invariant in
    let x : Span = c.has_next.new.walk.span in
    let e = over_same c.spans.walk.search.tree c.args.code.now.tree c.spans.walk.search.subject c.args.asked.now.subject c.args.asked.now.limit c.spans.count c.spans.walk.next_start.place c.spans.walk.next_start.advance (Some x) inv.tree inv.subject (rw c.if-branch.true at c.in_ok-has_next.ensures.found) in
    let m = moved_same c.spans.walk.search.tree c.args.code.now.tree c.spans.walk.search.subject c.args.asked.now.subject c.args.asked.now.limit c.spans.count c.spans.walk.next_start c.has_next.new.walk.next_start inv.tree inv.subject c.in_ok-has_next.ensures.moved in
    let units = c.view-in-spans.ensures ∙ ap (λ (r : Search). r.units) c.has_next.ensures.search ∙ inv.units in
    let appended = rw (units, c.state.ensures) at c.in_ok-from.ensures.bytes in
    record {
      tree = ap (λ (r : Search). r.tree) c.has_next.ensures.search ∙ inv.tree;
      subject = ap (λ (r : Search). r.subject) c.has_next.ensures.search ∙ inv.subject;
      units = ap (λ (r : Search). r.units) c.has_next.ensures.search ∙ inv.units;
      is_text = inv.is_text;
      fits = rw units at c.in_ok-from.ensures.fits;
      copied = rw (c.in_ok-from.ensures.place, c.state.ensures) (copied_more (replacement_of c.args.asked.now.template) c.args.asked.now.subject c.args.code.now.tree c.args.asked.now.limit c.spans.count c.spans.walk.next_start c.has_next.new.walk.next_start c.spans.from.place c.spans.bytes.items c.append_span.new.bytes.items x inv.copied e m appended);
    }

pub append-requires-clause-is_text : goal.append-requires-clause-is_text
append-requires-clause-is_text g c =
    let units = c.view-3.ensures ∙ ap (λ (r : Search). r.units) c.has_next.ensures.search ∙ c.spans.invariant.units in
    subst g.S.TextParts.is_text (sym units) c.spans.invariant.is_text

pub append-requires-clause-from_fits : goal.append-requires-clause-from_fits
append-requires-clause-from_fits g c =
    let units = c.view-3.ensures ∙ ap (λ (r : Search). r.units) c.has_next.ensures.search ∙ c.spans.invariant.units in
    subst (λ (u : List ℕ). g.S.StrDrive.fits u c.spans.from ≡ true) (sym units) c.spans.invariant.fits

pub append-requires-clause-order : goal.append-requires-clause-order
append-requires-clause-order g c =
    let n = c.count-end.ensures.count ∙ ap length c.requires.units in
    omega (arith, c.spans.invariant.copied.within, c.create_cursor-last.ensures.place, n)

pub returns-clause-text : goal.returns-clause-text
returns-clause-text g c =
    let inv = c.spans.invariant in
    let e = over_same c.spans.walk.search.tree c.args.code.now.tree c.spans.walk.search.subject c.args.asked.now.subject c.args.asked.now.limit c.spans.count c.spans.walk.next_start.place c.spans.walk.next_start.advance None inv.tree inv.subject (rw c.if-branch.false at c.in_ok-has_next.ensures.found) in
    let units = c.view-3.ensures ∙ ap (λ (r : Search). r.units) c.has_next.ensures.search ∙ inv.units in
    let n = c.create_cursor-last.ensures.place ∙ c.count-end.ensures.count ∙ ap length c.requires.units in
    let last = rw (units, n, rest_whole c.spans.from.place c.args.asked.now.subject) at c.in_ok-append.ensures in
    (copied_end (replacement_of c.args.asked.now.template) c.args.asked.now.subject c.args.code.now.tree c.args.asked.now.limit c.spans.count c.spans.walk.next_start c.spans.from.place c.spans.bytes.items c.append.new.bytes.items inv.copied e last).0

pub returns-clause-count : goal.returns-clause-count
returns-clause-count g c =
    let inv = c.spans.invariant in
    let e = over_same c.spans.walk.search.tree c.args.code.now.tree c.spans.walk.search.subject c.args.asked.now.subject c.args.asked.now.limit c.spans.count c.spans.walk.next_start.place c.spans.walk.next_start.advance None inv.tree inv.subject (rw c.if-branch.false at c.in_ok-has_next.ensures.found) in
    (copied_end (replacement_of c.args.asked.now.template) c.args.asked.now.subject c.args.code.now.tree c.args.asked.now.limit c.spans.count c.spans.walk.next_start c.spans.from.place c.spans.bytes.items (c.spans.bytes.items ++ encode_utf8_all (drop c.spans.from.place c.args.asked.now.subject)) inv.copied e refl).1
