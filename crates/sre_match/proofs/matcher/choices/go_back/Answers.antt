use Rattle.std.proofs.Common.{rules}
use Rattle.sre_match.proofs.matcher.choices.go_back.Goals as goal

pub loop-choice-preserved : goal.loop-choice-preserved
loop-choice-preserved c = record {
  same = search rules;
  sound = c.pop.ensures.sound;
  fit = λ ok f. c.pop.ensures.fit ok (c.loop-choice.invariant.fit ok f);
}

pub returns-in-Try-clause-fit : goal.returns-in-Try-clause-fit
returns-in-Try-clause-fit c ok f = c.rewind.ensures.fit ok (c.pop.ensures.fit ok (c.loop-choice.invariant.fit ok f))

pub returns-in-Try-clause-here : goal.returns-in-Try-clause-here
returns-in-Try-clause-here c ok f _ = rw c.current_of.ensures (c.in-Some.ensures.here ok (c.loop-choice.invariant.fit ok f))

pub returns-in-Not-clause-fit : goal.returns-in-Not-clause-fit
returns-in-Not-clause-fit c ok f = c.rewind-in-Not.ensures.fit ok (c.pop.ensures.fit ok (c.loop-choice.invariant.fit ok f))

pub returns-in-Not-clause-here : goal.returns-in-Not-clause-here
returns-in-Not-clause-here c ok f _ = rw c.current_of-in-Not.ensures (c.in-Some.ensures.here ok (c.loop-choice.invariant.fit ok f))

pub returns-clause-fit : goal.returns-clause-fit
returns-clause-fit c ok f = c.pop.ensures.fit ok (c.loop-choice.invariant.fit ok f)
