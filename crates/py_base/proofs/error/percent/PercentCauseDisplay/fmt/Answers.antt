use Rattle.py_base.proofs.error.percent.PercentCauseDisplay.fmt.Goals as goal

pub returns-in-NumberRequired-clause-writes : goal.returns-in-NumberRequired-clause-writes
returns-in-NumberRequired-clause-writes g c = λ p o. rw c.in-NumberRequired.is (c.write.ensures.writes p o)

pub returns-in-IntegerRequired-clause-writes : goal.returns-in-IntegerRequired-clause-writes
returns-in-IntegerRequired-clause-writes g c = λ p o. rw c.in-IntegerRequired.is (c.write-in-IntegerRequired.ensures.writes p o)
