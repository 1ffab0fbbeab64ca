use Rattle.sre_match.specs.Captures.{captures}
use Rattle.std.proofs.Common.{◌≡◌, sym, ◌∙◌, ap, ◌-◌, ◌++◌, Bool, true, false, arith}
use Rattle.std.specs.Prelude.{Some}
use Rattle.sre_match.specs.Machine.{run, to_try}
use Rattle.sre_match.specs.Attempts.{after, stay, Next}
use Rattle.sre_match.specs.Paths.{paths}
use Rattle.sre_match.specs.Repeats.{optional, is_past}
use Rattle.sre_match.proofs.AfterLemmas.{after-append, stay_after}
use Rattle.sre_match.proofs.RepeatLemmas.{optional_either}
use Rattle.sre_match.proofs.LessLemmas.{gives_is}
use Rattle.sre_match.proofs.matcher.iterations.optional_turn.Goals as goal

pub returns-then-greedy-clause-gives : goal.returns-then-greedy-clause-gives
returns-then-greedy-clause-gives c s n =
    let p = c.args.current.now.cursor.place in
    let old = c.args.trail.now in
    let m = (captures old.marks.items) in
    let j = c.args.room in
    let g = c.args.greedy in
    let went : is_past c.args.previous p ≡ true = sym c.is_past.ensures ∙ c.if-not-is_past.false in
    let some : j ≡ 0 → ⊥ = λ e. omega (arith, e) in
    let body : Next = paths c.args.body.now s in
    let k : Next = run old.frames.items c.args.current.now.rest s in
    let more : Next = optional body true (j - 1) (Some p) in
    gives_is c.once_first.result _ s c.once_first.new.trail n n _ _
    (ap (to_try s old) (ap (λ (b : Bool). after (optional body b j c.args.previous p m) k) c.if-greedy.true
    ∙ ap (λ l. after l k) (optional_either body true j c.args.previous p m some went)
    ∙ after-append (after (body p m) more) (stay p m) k
    ∙ ap (λ l. after (after (body p m) more) k ++ l) (stay_after p m k)))
    (c.once_first.ensures.gives s n)

pub returns-else-greedy-clause-gives : goal.returns-else-greedy-clause-gives
returns-else-greedy-clause-gives c s n =
    let p = c.args.current.now.cursor.place in
    let old = c.args.trail.now in
    let m = (captures old.marks.items) in
    let j = c.args.room in
    let g = c.args.greedy in
    let went : is_past c.args.previous p ≡ true = sym c.is_past.ensures ∙ c.if-not-is_past.false in
    let some : j ≡ 0 → ⊥ = λ e. omega (arith, e) in
    let body : Next = paths c.args.body.now s in
    let k : Next = run old.frames.items c.args.current.now.rest s in
    let more : Next = optional body false (j - 1) (Some p) in
    gives_is c.once_later.result _ s c.once_later.new.trail n n _ _
    (ap (to_try s old) (ap (λ (b : Bool). after (optional body b j c.args.previous p m) k) c.if-greedy.false
    ∙ ap (λ l. after l k) (optional_either body false j c.args.previous p m some went)
    ∙ after-append (stay p m) (after (body p m) more) k
    ∙ ap (λ l. l ++ after (after (body p m) more) k) (stay_after p m k)))
    (c.once_later.ensures.gives s n)
