use Rattle.sre_match.specs.Captures.{captures}
use Rattle.std.proofs.Common.{ap, sym, ◌∙◌, arith, take, [], ◌∷◌, ◌++◌, length}
use Rattle.sre_match.specs.declared.matcher.trail.ChoiceKind.{ChoiceKind}
use Rattle.sre_match.specs.Attempts.{passed}
use Rattle.sre_match.specs.Cursor.{Cursor}
use Rattle.sre_match.specs.Machine.{onward, part_next, wrap, to_try, level_of}
use Rattle.sre_match.proofs.AfterLemmas.{stay_after}
use Rattle.sre_match.proofs.ChoiceLemmas.{pile_fail}
use Rattle.sre_match.proofs.LessLemmas.{leaves_is, leaves_failed}
use Rattle.sre_match.proofs.matcher.turns.leave.Goals as goal

pub returns-in-Atomic-clause-gives : goal.returns-in-Atomic-clause-gives
returns-in-Atomic-clause-gives c s n =
    let t = c.pop.new.trail in
    let d = c.in-Some.choice in
    let p = c.args.current.now.cursor.place in
    let old = c.loop-choice.invariant.same s in
    let m = (captures c.loop-choice.trail.marks.items) in
    let f = onward t.frames.items (part_next d.part s) d.rest s in
    leaves_is n _ _
    (old.1 ∙ c.in-Some.ensures.popped.tried s (passed 0 p m ∷ old.0)
    ∙ ap (λ (k : ChoiceKind). to_try s t (wrap k f d.cursor.place (take d.marks m) (passed 0 p m ∷ old.0))) c.in-Atomic.is
    ∙ ap (to_try s t) (stay_after p m f)
    ∙ ap (λ l. to_try s t (f p l)) (sym c.in-Some.ensures.popped.marks)
    ∙ ap (λ q. to_try s t (f q (captures t.marks.items))) (sym c.loop-choice.invariant.here))

pub returns-in-Ahead-clause-gives : goal.returns-in-Ahead-clause-gives
returns-in-Ahead-clause-gives c s n =
    let t = c.pop.new.trail in
    let d = c.in-Some.choice in
    let p = c.args.current.now.cursor.place in
    let old = c.loop-choice.invariant.same s in
    let m = (captures c.loop-choice.trail.marks.items) in
    let f = onward t.frames.items (part_next d.part s) d.rest s in
    leaves_is n _ _
    (old.1 ∙ c.in-Some.ensures.popped.tried s (passed 0 p m ∷ old.0)
    ∙ ap (λ (k : ChoiceKind). to_try s t (wrap k f d.cursor.place (take d.marks m) (passed 0 p m ∷ old.0))) c.in-Ahead.is
    ∙ ap (to_try s t) (stay_after d.cursor.place m f)
    ∙ ap (λ l. to_try s t (f d.cursor.place l)) (sym c.in-Some.ensures.popped.marks)
    ∙ ap (λ (q : Cursor). to_try s t (f q.place (captures t.marks.items))) (sym c.wide-current.ensures))

pub returns-in-Not-clause-gives : goal.returns-in-Not-clause-gives
returns-in-Not-clause-gives c s n =
    let t = c.pop.new.trail in
    let d = c.in-Some.choice in
    let p = c.args.current.now.cursor.place in
    let old = c.loop-choice.invariant.same s in
    let m = (captures c.loop-choice.trail.marks.items) in
    let f = onward t.frames.items (part_next d.part s) d.rest s in
    leaves_failed n n 0 _ _ (omega arith)
    (old.1 ∙ c.in-Some.ensures.popped.tried s (passed 0 p m ∷ old.0)
    ∙ ap (λ (k : ChoiceKind). to_try s t (wrap k f d.cursor.place (take d.marks m) (passed 0 p m ∷ old.0))) c.in-Not.is
    ∙ pile_fail s t.frames.items (captures t.marks.items) t.choices.items 0 [])

pub loop-choice-preserved : goal.loop-choice-preserved
loop-choice-preserved c = record {
  same = λ s.
      let t = c.pop.new.trail in
      let d = c.in-Some.choice in
      let p = c.args.current.now.cursor.place in
      let old = c.loop-choice.invariant.same s in
      let m = (captures c.loop-choice.trail.marks.items) in
      let f = onward t.frames.items (part_next d.part s) d.rest s in (
        old.0 ++ f d.cursor.place (take d.marks m),
        old.1 ∙ c.in-Some.ensures.popped.tried s (passed 0 p m ∷ old.0)
            ∙ ap (λ (k : ChoiceKind). to_try s t (wrap k f d.cursor.place (take d.marks m) (passed 0 p m ∷ old.0))) c.in-Try.is
            ∙ ap (λ l. to_try s t (passed 0 p l ∷ (old.0 ++ f d.cursor.place (take d.marks m)))) (sym c.in-Some.ensures.popped.marks),
      );
  here = c.loop-choice.invariant.here;
  cursor = c.loop-choice.invariant.cursor;
  fit = λ ok f. c.pop.ensures.fit ok (c.loop-choice.invariant.fit ok f);
  sound = c.in-Some.ensures.sound;
  inside = omega (arith, c.in-Some.ensures.popped.inside, ap level_of c.in-Try.is, c.loop-choice.invariant.inside);
}

pub returns-in-Atomic-clause-ready : goal.returns-in-Atomic-clause-ready
returns-in-Atomic-clause-ready c ok p = record { sound = c.in-Some.ensures.sound; deep = omega (arith, c.in-Some.ensures.popped.reach, c.in-Some.ensures.popped.deep, ap length c.in-Some.ensures.popped.frames); here = ap ok c.loop-choice.invariant.cursor ∙ p.here; kept = c.pop.ensures.fit ok (c.loop-choice.invariant.fit ok p.kept) }

pub returns-in-Ahead-clause-ready : goal.returns-in-Ahead-clause-ready
returns-in-Ahead-clause-ready c ok p = record { sound = c.in-Some.ensures.sound; deep = omega (arith, c.in-Some.ensures.popped.reach, c.in-Some.ensures.popped.deep, ap length c.in-Some.ensures.popped.frames); here = ap ok c.wide-current.ensures ∙ c.in-Some.ensures.here ok (c.loop-choice.invariant.fit ok p.kept); kept = c.pop.ensures.fit ok (c.loop-choice.invariant.fit ok p.kept) }

pub returns-in-Not-clause-ready : goal.returns-in-Not-clause-ready
returns-in-Not-clause-ready c ok p = (c.in-Some.ensures.sound, c.pop.ensures.fit ok (c.loop-choice.invariant.fit ok p.kept))

pub returns-clause-ready : goal.returns-clause-ready
returns-clause-ready c ok p = record { sound = c.pop.ensures.sound; here = ap ok c.loop-choice.invariant.cursor ∙ p.here; kept = c.pop.ensures.fit ok (c.loop-choice.invariant.fit ok p.kept) }
