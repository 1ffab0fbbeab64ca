use Rattle.std.proofs.Common.{◌∙◌, sym}
use Rattle.py_str.proofs.PadLemmas.{sign_yes}
use Rattle.py_str.proofs.pad.after_sign.Goals as goal

pub returns-then-is_sign : goal.returns-then-is_sign
returns-then-is_sign c = sign_yes _ _ _ c.in-Some.c c.utf8.text (sym c.chars-rest.ensures.rest ∙ c.in-Some.ensures.steps.0) (sym c.is_sign.ensures ∙ c.if-is_sign.true) c.as_str.ensures
