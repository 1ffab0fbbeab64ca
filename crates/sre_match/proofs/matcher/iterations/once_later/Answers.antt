use Rattle.std.proofs.Common.{ap, length, arith}
use Rattle.sre_match.proofs.matcher.iterations.once_later.Goals as goal

pub returns-clause-ready : goal.returns-clause-ready
returns-clause-ready c ok p = record { sound = c.in-Ok.ensures.sound; deep = omega (arith, ap length c.in-Ok.ensures.frames, p.deep); here = p.here; kept = c.in-Ok.ensures.fit ok p.here p.kept }
