use Rattle.sre_match.specs.Captures.{captures}
use Rattle.std.proofs.Common.{arith, ap, refl, length, length-append, [], ◌∷◌}
use Rattle.sre_match.proofs.ChoiceLemmas.{pile_drop, rising_at, rising_drop, stacked_at, stacked_drop, levels_back}
use Rattle.std.specs.Prelude.{Some}
use Rattle.std.proofs.lemmas.List.Elements.{All-pop}
use Rattle.sre_match.specs.Fits.{choice_fits}
use Rattle.sre_match.proofs.matcher.choices.pop.Goals as goal

pub overflow_sub-trail : goal.overflow_sub-trail
overflow_sub-trail c =
    omega (arith, c.level.ensures, c.requires.inside, levels_back c.args.trail.now.choices.items c.pop.new.self.items c.in_ok-choice.choice c.in_ok-choice.ensures.items)

pub returns-clause-popped : goal.returns-clause-popped
returns-clause-popped c =
    let ds = c.args.trail.now.choices.items in
    let cs = c.pop.new.self.items in
    let d = c.in_ok-choice.choice in
    let e = c.in_ok-choice.ensures.items in
    let k = stacked_at 0 ds cs d (length c.args.trail.now.frames.items) e c.requires.stacked in
    let r = rising_at 0 ds cs d (length (captures c.args.trail.now.marks.items)) e c.requires.rising in
    record {
      marks = refl;
      frames = refl;
      tried = λ s xs. pile_drop s c.args.trail.now.frames.items (captures c.args.trail.now.marks.items) ds cs d xs e;
      rising = r.0;
      within = r.1;
      stacked = k.0;
      reach = k.1;
      deep = k.2;
      inside = omega (arith, c.level.ensures, c.requires.inside, levels_back ds cs d e);
      fewer = omega (arith, ap length e, length-append cs (d ∷ []));
    }

pub returns-clause-sound : goal.returns-clause-sound
returns-clause-sound c =
    let ds = c.args.trail.now.choices.items in
    let cs = c.pop.new.self.items in
    let d = c.in_ok-choice.choice in
    let e = c.in_ok-choice.ensures.items in
    record {
      rising = rising_drop (captures c.args.trail.now.marks.items) ds cs d e c.requires.rising;
      stacked = stacked_drop c.args.trail.now.frames.items ds cs d e c.requires.stacked;
      inside = omega (arith, c.level.ensures, c.requires.inside, levels_back ds cs d e);
      down = c.requires.down;
    }

pub returns-clause-fit : goal.returns-clause-fit
returns-clause-fit c ok f =
    let both = All-pop (choice_fits ok) c.args.trail.now.choices.items c.pop.new.self.items (Some c.in_ok-choice.choice) c.in_ok-choice.ensures.items f.choices in
    record { choices = both.0; frames = f.frames; marks = f.marks }

pub returns-clause-here : goal.returns-clause-here
returns-clause-here c ok f =
    (All-pop (choice_fits ok) c.args.trail.now.choices.items c.pop.new.self.items (Some c.in_ok-choice.choice) c.in_ok-choice.ensures.items f.choices).1
