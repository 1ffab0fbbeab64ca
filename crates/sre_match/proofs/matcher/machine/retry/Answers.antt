use Rattle.sre_match.proofs.matcher.machine.retry.Goals as goal

pub returns-then-go_back-clause-ready : goal.returns-then-go_back-clause-ready
returns-then-go_back-clause-ready c ok f = record { sound = c.go_back.ensures.sound; deep = c.go_back.ensures.below c.if-go_back.true; here = c.go_back.ensures.here ok f c.if-go_back.true; kept = c.go_back.ensures.fit ok f }
