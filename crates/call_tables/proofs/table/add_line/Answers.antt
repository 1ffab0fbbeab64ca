use Rattle.std.proofs.Common.{rules, ◌≡◌, ◌++◌, ◌∙◌, ap, sym, codes, Some}
use Rattle.std.proofs.lemmas.Str.Pattern.{split_text_parts}
use Rattle.std.specs.Vec.{vec_items}
use Rattle.call_tables.specs.Lines.{IsRight}
use Rattle.call_tables.specs.Results.{items_of, outcome_text}
use Rattle.call_tables.specs.Token.{spaced}
use Rattle.call_tables.proofs.LineLemmas.{line_agrees}
use Rattle.call_tables.proofs.table.add_line.Goals as goal

pub returns-then-eq : goal.returns-then-eq
returns-then-eq g c =
    let cut : c.args.line.now ≡ c.in-Some.text.now ++ (codes " =" ++ c.in-Some.wanted.now) =
    split_text_parts (codes " =") c.args.line.now (Some (c.in-Some.text, c.in-Some.wanted)) c.in-Some.ensures.cases in
    let same : c.as_str.result.now ≡ c.in-Some.wanted.now = search rules in
    let told : c.in-Some.wanted.now ≡ outcome_text (items_of vec_items c.answer-outcome.result) =
    sym same ∙ c.as_str.ensures.value ∙ c.in_ok-given-in-Ok.ensures in
    let called : c.in-Some.text.now ≡ c.in-Ok.call.name.now ++ spaced c.deref.result.now =
    c.in-Ok.ensures.written ∙ ap (λ ts. c.in-Ok.call.name.now ++ spaced ts) (sym c.deref.ensures.value) in
    let right : IsRight (g.C.Calls.may_give c.args.table.now) c.args.line.now = record {
      name = c.in-Ok.call.name.now;
      arguments = c.deref.result.now;
      outcome = items_of vec_items c.answer-outcome.result;
      word = c.in-Ok.ensures.name;
      own = sym c.is_of_call.ensures ∙ c.if-is_of_call.true;
      given = c.answer-outcome.ensures;
      written = cut ∙ ap (λ t. t ++ (codes " =" ++ c.in-Some.wanted.now)) called
          ∙ ap (λ w. (c.in-Ok.call.name.now ++ spaced c.deref.result.now) ++ (codes " =" ++ w)) told;
    } in
    line_agrees c.agree.result (g.C.Calls.may_give c.args.table.now) c.args.line.now c.args.report.now.all c.agree.new.self.all right
    c.agree.ensures.calls c.agree.ensures.agreeing
