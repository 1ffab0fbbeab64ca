use Rattle.sre_match.specs.Captures.{captures}
use Rattle.std.proofs.Common.{◌≡◌, sym, ap, ◌∙◌, ◌++◌, ◌∷◌, ◌+◌, arith}
use Rattle.sre_match.specs.declared.matcher.trail.Turn.TheVariants.{Go}
use Rattle.sre_match.specs.Machine.{run, to_try}
use Rattle.sre_match.specs.Attempts.{after, Next}
use Rattle.sre_match.specs.Paths.{paths}
use Rattle.sre_match.specs.Branches.{each_paths, left_of, is_out}
use Rattle.sre_match.proofs.BranchLemmas.{out_paths, leaves_thin, thin_after, thin_left, left_thin, met_paid}
use Rattle.sre_match.proofs.ChoiceLemmas.{pile_fail}
use Rattle.sre_match.proofs.LessLemmas.{leaves_then, leaves_is, leaves_failed, gives_less, gives_more}
use Rattle.sre_match.proofs.TurnLemmas.{run_full}
use Rattle.sre_match.proofs.matcher.branches.read_turn.Goals as goal

pub returns-then-is_out-clause-gives : goal.returns-then-is_out-clause-gives
returns-then-is_out-clause-gives g c =
    let s = c.args.s.now in
    let p = c.args.current.now.cursor.place in
    let t = c.args.trail.now in
    let m = (captures t.marks.items) in
    let k : Next = run t.frames.items c.args.current.now.rest s in
    let more = each_paths c.args.more.now s p m in
    let unit = c.unit_at-unit.result in
    let n = c.unit_at-unit.new.steps in
    gives_less c.others_turn.result _ s _ c.args.steps.now n n _ _
    (leaves_failed c.args.steps.now n 1 _ _ c.unit_at-unit.ensures.cost
    (ap (λ l. to_try s t (after (l ++ more) k)) (out_paths c.args.t.now s p m unit c.unit_at-unit.ensures.unit (sym c.is_out.ensures ∙ c.if-is_out.true))
    ∙ pile_fail s t.frames.items m t.choices.items 1 (after more k)))
    (c.others_turn.ensures.gives s n c.unit_at-unit.ensures.unit)

pub returns-in-Err-clause-gives : goal.returns-in-Err-clause-gives
returns-in-Err-clause-gives g c ok =
    let s = c.args.s.now in
    let p = c.args.current.now.cursor.place in
    let t = c.args.trail.now in
    let m = (captures t.marks.items) in
    let k : Next = run t.frames.items c.args.current.now.rest s in
    let x = c.args.t.now in
    let more = c.args.more.now in
    let within : is_out x _ ≡ _ = ap (is_out x) (sym c.unit_at-unit.ensures.unit) ∙ sym c.is_out.ensures ∙ c.if-is_out.false in
    omega (arith, c.unit_at-unit.ensures.cost, met_paid ok s t x p m (each_paths more s p m) k (run_full t.frames.items c.args.current.now.rest s) c.requires.begins within)

pub returns-in-Ok-clause-gives : goal.returns-in-Ok-clause-gives
returns-in-Ok-clause-gives g c =
    let s = c.args.s.now in
    let p = c.args.current.now.cursor.place in
    let t = c.args.trail.now in
    let m = (captures t.marks.items) in
    let k : Next = run t.frames.items c.args.current.now.rest s in
    let x = c.args.t.now in
    let more = c.args.more.now in
    let unit = c.unit_at-unit.result in
    let n = c.args.steps.now in
    gives_more Go c.met_turn.new.current s c.met_turn.new.trail n (n + 1) c.unit_at-unit.new.steps _ c.unit_at-unit.ensures.cost
    (leaves_then n n (n + 1) _ _ _
    (leaves_thin s t n _ _ (thin_after (each_paths (x ∷ more) s p m) (paths x s p m ++ each_paths (left_of more unit) s p m) k (thin_left (paths x s p m) _ _ (left_thin more s p m unit c.unit_at-unit.ensures.unit))))
    (leaves_then n n (n + 1) _ _ _
    (leaves_is n _ _ (ap (λ ts. to_try s t (after (paths x s p m ++ each_paths ts s p m) k)) (sym c.left_of.ensures)))
    (c.in-Ok.ensures.gives n)))

pub met_turn-requires-clause-met : goal.met_turn-requires-clause-met
met_turn-requires-clause-met g c = ap (is_out c.args.t.now) (sym c.unit_at-unit.ensures.unit) ∙ sym c.is_out.ensures ∙ c.if-is_out.false
