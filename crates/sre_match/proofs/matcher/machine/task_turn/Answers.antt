use Rattle.sre_match.proofs.matcher.machine.task_turn.Goals as goal

pub returns-in-EndGroup-clause-ready : goal.returns-in-EndGroup-clause-ready
returns-in-EndGroup-clause-ready g c = c.end_group_turn.ensures.ready _ (rw c.in-EndGroup.is at c.requires.task) c.requires.ready
