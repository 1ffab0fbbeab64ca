use Rattle.std.proofs.Common.{◌∙◌, ap, sym}
use Rattle.std.specs.Prelude.{Some, Err}
use Rattle.re_parse.specs.Answers.{told}
use Rattle.re_parse.proofs.AnswerLemmas.{meets, answers_as}
use Rattle.re_parse.proofs.first_pass.check_text.Goals as goal

pub returns-in-None : goal.returns-in-None
returns-in-None c = ap told (sym c.in-None.is) ∙ answers_as c.args.flags c.args.text.now c.in_ok-pass_over.field-0 c.if-text-gt-MAX_CHARACTERS.false c.in_ok-pass_over.ensures

pub returns-in-Some-None : goal.returns-in-Some-None
returns-in-Some-None c =
    ap told (sym (c.in-Some-None.is ∙ ap Some c.in-Some-None.field-0-is)) ∙ answers_as c.args.flags c.args.text.now c.in_ok-pass_over.field-0 c.if-text-gt-MAX_CHARACTERS.false c.in_ok-pass_over.ensures

pub returns-in-Some-Some : goal.returns-in-Some-Some
returns-in-Some-Some c =
    meets (ap Err c.error_of.ensures ∙ ap told (sym (c.in-Some-Some.is ∙ ap Some c.in-Some-Some.field-0-is))
    ∙ answers_as c.args.flags c.args.text.now c.in_ok-pass_over.field-0 c.if-text-gt-MAX_CHARACTERS.false c.in_ok-pass_over.ensures) (Err c.error_of.result)
