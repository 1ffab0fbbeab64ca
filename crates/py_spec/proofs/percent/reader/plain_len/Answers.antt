use Rattle.std.proofs.Common.{◌∙◌, ap, length, chars, le_refl, take_all}
use Rattle.std.proofs.lemmas.Str.{chars-nil}
use Rattle.std.proofs.lemmas.List.{drop_all}
use Rattle.py_spec.proofs.ReaderLemmas.{plain_taken, plain_left, all_plain, none_left}
use Rattle.py_spec.proofs.percent.reader.plain_len.Goals as goal

pub returns-in-Some-clause-plain : goal.returns-in-Some-clause-plain
returns-in-Some-clause-plain c = plain_taken c.args.text.now c.in-Some.at c.in-Some.ensures.cases.0 c.utf8.text c.in-Some.ensures.cases.1 c.in-Some.ensures.cases.3

pub returns-in-Some-clause-rest : goal.returns-in-Some-clause-rest
returns-in-Some-clause-rest c = plain_left c.args.text.now c.in-Some.at c.in-Some.ensures.cases.0 c.utf8.text c.in-Some.ensures.cases.1 c.in-Some.ensures.cases.3

pub returns-in-None-clause-plain : goal.returns-in-None-clause-plain
returns-in-None-clause-plain c = ap chars (take_all (length c.args.text.now) c.args.text.now (le_refl _)) ∙ all_plain c.args.text.now c.utf8.text c.in-None.ensures.cases

pub returns-in-None-clause-rest : goal.returns-in-None-clause-rest
returns-in-None-clause-rest c = ap chars (drop_all (length c.args.text.now) c.args.text.now (le_refl _)) ∙ chars-nil ∙ none_left c.args.text.now c.utf8.text c.in-None.ensures.cases
