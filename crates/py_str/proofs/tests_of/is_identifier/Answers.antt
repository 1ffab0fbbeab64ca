use Rattle.std.proofs.Common.{◌∙◌, sym, ap, chars, true}
use Rattle.std.specs.List.{list_all}
use Rattle.py_base.specs.Chars.Classes.{is_id_continue}
use Rattle.py_str.proofs.TestsOfLemmas.{identifier_is}
use Rattle.py_str.proofs.tests_of.is_identifier.Goals as goal

pub returns-then-is_id_start : goal.returns-then-is_id_start
returns-then-is_id_start c =
    identifier_is _ _ c.in-Some.c true _ c.utf8.text (sym c.chars-rest.ensures.rest ∙ c.in-Some.ensures.steps.0) (sym c.is_id_start.ensures ∙ c.if-is_id_start.true)
    (c.each_continues.ensures ∙ ap (λ l. list_all is_id_continue (chars l)) c.as_str.ensures)
