use Rattle.std.proofs.Common.{◌≡◌, sym, ◌∙◌, Bool, true, false, [], ℕ}
use Rattle.sre_match.specs.Matches.{is_allowed}
use Rattle.sre_match.specs.Machine.{to_try, ahead_of, allowed_by}
use Rattle.sre_match.proofs.ProgressLemmas.{progress_less, progress_found, progress_skip}
use Rattle.sre_match.proofs.matcher.machine.next_turn.Goals as goal

pub returns-in-Fail-clause-progress : goal.returns-in-Fail-clause-progress
returns-in-Fail-clause-progress g c =
    let s = c.args.s.now in
    let ok : ℕ → Bool = is_allowed s c.args.start (allowed_by c.args.ends) in
    progress_less c.retry.result c.retry.new.current ok s c.retry.new.trail c.args.steps.now c.take_turn.new.steps c.take_turn.new.steps (ahead_of c.args.current.now s c.args.trail.now) (to_try s c.take_turn.new.trail [])
    ((rw c.in-Fail.is at c.take_turn.ensures.gives) ok) (c.retry.ensures.progress ok s c.take_turn.new.steps)

pub returns-then-is_allowed-clause-progress : goal.returns-then-is_allowed-clause-progress
returns-then-is_allowed-clause-progress g c =
    let s = c.args.s.now in
    let ok : ℕ → Bool = is_allowed s c.args.start (allowed_by c.args.ends) in
    let e : ok c.take_turn.new.current.cursor.place ≡ true = sym (c.is_allowed.ensures s (sym c.count.ensures.count)) ∙ c.if-is_allowed.true in
    progress_found c.take_turn.new.current ok s c.take_turn.new.trail c.args.steps.now c.take_turn.new.steps (ahead_of c.args.current.now s c.args.trail.now)
    (rw c.in-Done.is at c.take_turn.ensures.ready).sound (rw c.in-Done.is at c.take_turn.ensures.gives) e

pub returns-else-is_allowed-clause-progress : goal.returns-else-is_allowed-clause-progress
returns-else-is_allowed-clause-progress g c =
    let s = c.args.s.now in
    let ok : ℕ → Bool = is_allowed s c.args.start (allowed_by c.args.ends) in
    let e : ok c.take_turn.new.current.cursor.place ≡ false = sym (c.is_allowed.ensures s (sym c.count.ensures.count)) ∙ c.if-is_allowed.false in
    progress_skip c.retry-else-is_allowed.result c.take_turn.new.current c.retry-else-is_allowed.new.current ok s c.take_turn.new.trail c.retry-else-is_allowed.new.trail c.args.steps.now c.take_turn.new.steps (ahead_of c.args.current.now s c.args.trail.now)
    (rw c.in-Done.is at c.take_turn.ensures.ready).sound (rw c.in-Done.is at c.take_turn.ensures.gives) e
    (c.retry-else-is_allowed.ensures.progress ok s c.take_turn.new.steps)
