use Rattle.sre_match.specs.Captures.{captures}
use Rattle.std.proofs.Common.{sym, ◌∙◌, ap, arith}
use Rattle.sre_match.specs.Machine.{wrap, to_try, part_next}
use Rattle.sre_match.specs.Attempts.{Next}
use Rattle.sre_match.proofs.FrameLemmas.{skip_is, end_is}
use Rattle.sre_match.proofs.LessLemmas.{leaves_is}
use Rattle.sre_match.proofs.matcher.turns.enter.Goals as goal

pub returns-clause-gives : goal.returns-clause-gives
returns-clause-gives c s n =
    let old = c.args.trail.now in
    let new = c.keep.new.trail in
    let m = (captures old.marks.items) in
    let xs = part_next c.args.part s c.args.start.place m in
    leaves_is n _ _
    (ap (λ (f : Next). to_try s old (wrap c.args.kind f c.args.current.now.cursor.place m xs)) (sym (skip_is old.frames.items c.args.current.now.rest s))
    ∙ sym (c.in-Ok.ensures.tried s xs)
    ∙ ap (to_try s new) (sym (end_is new.frames.items (part_next c.args.part s) s c.args.start.place (captures new.marks.items) ∙ ap (part_next c.args.part s c.args.start.place) c.in-Ok.ensures.marks)))

pub returns-clause-ready : goal.returns-clause-ready
returns-clause-ready c ok h p = record { sound = c.in-Ok.ensures.sound; deep = omega arith; here = h; kept = c.in-Ok.ensures.fit ok p.here p.kept }
