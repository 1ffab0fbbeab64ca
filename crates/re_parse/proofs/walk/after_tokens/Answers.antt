use Rattle.std.proofs.Common.{◌∙◌, ap, sym, length, arith}
use Rattle.std.specs.Option.{option_map}
use Rattle.std.proofs.lemmas.Bool.{eqb-false, eqb-true}
use Rattle.re_parse.specs.TokenView.{token_of, lexed_of}
use Rattle.re_parse.proofs.TokenWalkLemmas.{begins, goes_on, stops_at, stops_before, no_token_in, ends}
use Rattle.re_parse.proofs.walk.after_tokens.Goals as goal

pub tokens-init : goal.tokens-init
tokens-init g c = begins g.W.Walk.next c.args.flags c.args.text.now (g.W.Walk.seen c.args.start)

pub tokens-preserved : goal.tokens-preserved
tokens-preserved g c =
    let none = eqb-false (length c.tokens.rest.now) 0 (sym c.tokens-test.ensures) in
    (goes_on g.W.Walk.next c.args.flags c.args.text.now c.tokens.rest.now (g.W.Walk.seen c.tokens.state) (g.W.Walk.seen c.in-Some.next) _ (token_of c.in-Token.token) c.in-Token.after.now (omega (arith, none)) c.tokens.invariant
    (sym (ap lexed_of c.in-Token.is) ∙ c.in_ok-token.ensures)
    (sym c.in_ok-next.ensures ∙ ap (option_map g.W.Walk.seen) c.in-Some.is)).0

pub tokens-smaller : goal.tokens-smaller
tokens-smaller g c =
    let none = eqb-false (length c.tokens.rest.now) 0 (sym c.tokens-test.ensures) in
    (goes_on g.W.Walk.next c.args.flags c.args.text.now c.tokens.rest.now (g.W.Walk.seen c.tokens.state) (g.W.Walk.seen c.in-Some.next) _ (token_of c.in-Token.token) c.in-Token.after.now (omega (arith, none)) c.tokens.invariant
    (sym (ap lexed_of c.in-Token.is) ∙ c.in_ok-token.ensures)
    (sym c.in_ok-next.ensures ∙ ap (option_map g.W.Walk.seen) c.in-Some.is)).1

pub returns-in_default : goal.returns-in_default
returns-in_default g c =
    let none = eqb-false (length c.tokens.rest.now) 0 (sym c.tokens-test.ensures) in
    stops_before g.W.Walk.next c.args.flags c.args.text.now c.tokens.rest.now (g.W.Walk.seen c.tokens.state) _ (lexed_of c.in_ok-token.field-0) (omega (arith, none)) c.tokens.invariant
    c.in_ok-token.ensures (no_token_in c.in_ok-token.field-0 c.in_default.not-Token)

pub returns-in_default-2 : goal.returns-in_default-2
returns-in_default-2 g c =
    let none = eqb-false (length c.tokens.rest.now) 0 (sym c.tokens-test.ensures) in
    stops_at g.W.Walk.next c.args.flags c.args.text.now c.tokens.rest.now (g.W.Walk.seen c.tokens.state) _ (token_of c.in-Token.token) c.in-Token.after.now (omega (arith, none)) c.tokens.invariant
    (sym (ap lexed_of c.in-Token.is) ∙ c.in_ok-token.ensures)
    (sym c.in_ok-next.ensures ∙ ap (option_map g.W.Walk.seen) c.in_default-2.is)

pub returns : goal.returns
returns g c =
    ends g.W.Walk.next c.args.flags c.args.text.now c.tokens.rest.now (g.W.Walk.seen c.tokens.state) _
    (eqb-true (length c.tokens.rest.now) 0 (sym c.tokens-test.ensures)) c.tokens.invariant
