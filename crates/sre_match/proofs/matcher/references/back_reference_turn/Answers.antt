use Rattle.sre_match.specs.Captures.{captures}
use Rattle.std.proofs.Common.{◌≡◌, sym, ap, ◌∙◌, arith, ℕ, []}
use Rattle.std.specs.Prelude.{Option, Some, option_map}
use Rattle.sre_match.specs.Captures.{span_by}
use Rattle.sre_match.specs.Machine.{run, to_try}
use Rattle.sre_match.specs.Attempts.{after, Next, span_of}
use Rattle.sre_match.specs.Paths.{back_reference}
use Rattle.sre_match.proofs.ChoiceLemmas.{pile_fail}
use Rattle.sre_match.proofs.LessLemmas.{gives_is, leaves_failed}
use Rattle.sre_match.proofs.matcher.references.back_reference_turn.Goals as goal

pub returns-in-None-clause-gives : goal.returns-in-None-clause-gives
returns-in-None-clause-gives g c =
    let s = c.args.s.now in
    let t = c.args.trail.now in
    let m = captures t.marks.items in
    let p = c.args.current.now.cursor.place in
    let f : Next = run t.frames.items c.args.current.now.rest s in
    leaves_failed _ _ 0 _ _ (omega arith)
    (ap (λ (x : Option (ℕ × ℕ)). to_try s t (after (back_reference x s p m) f)) (sym c.capture_of.ensures.span ∙ ap (option_map span_by) c.in-None.is)
    ∙ pile_fail s t.frames.items m t.choices.items 0 [])

pub span_again_turn-requires-clause-stop : goal.span_again_turn-requires-clause-stop
span_again_turn-requires-clause-stop g c =
    g.met.S.StrDrive.within c.args.s.now c.in-Some.capture.stop (c.in-Some.ensures.fits (g.S.StrDrive.fits c.args.s.now) c.requires.ready.kept.marks).1

pub span_again_turn-requires-clause-from_fits : goal.span_again_turn-requires-clause-from_fits
span_again_turn-requires-clause-from_fits g c = (c.in-Some.ensures.fits (g.S.StrDrive.fits c.args.s.now) c.requires.ready.kept.marks).0

pub returns-in-Some-clause-gives : goal.returns-in-Some-clause-gives
returns-in-Some-clause-gives g c =
    let s = c.args.s.now in
    let t = c.args.trail.now in
    let m = captures t.marks.items in
    let p = c.args.current.now.cursor.place in
    let x = c.in-Some.capture in
    let f : Next = run t.frames.items c.args.current.now.rest s in
    let o : span_of m c.args.group ≡ Some (span_by x) = sym c.capture_of.ensures.span ∙ ap (option_map span_by) c.in-Some.is in
    gives_is c.span_again_turn.result _ s t _ _ _ _
    (ap (λ (x : Option (ℕ × ℕ)). to_try s t (after (back_reference x s p m) f)) o)
    c.span_again_turn.ensures.gives
