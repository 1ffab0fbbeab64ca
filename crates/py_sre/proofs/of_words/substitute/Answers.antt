use Rattle.std.proofs.Common.{Err, ap}
use Rattle.std.proofs.lemmas.Result.{err_from_is_err_and}
use Rattle.py_value.specs.ValueView.{plain_of}
use Rattle.py_sre.specs.Pattern.{is_over_bytes}
use Rattle.py_sre.specs.Substituting.{given, pieces_in, replaced_by}
use Rattle.py_sre.proofs.SubstituteLemmas.{no_code, no_template, by_tree}
use Rattle.py_sre.proofs.of_words.substitute.Goals as goal

pub returns-in_err-made : goal.returns-in_err-made
returns-in_err-made g c =
    let p = err_from_is_err_and c.from_residual.result c.from_residual.ensures.1 in
    rw (p.1, p.2) (no_code c.args.code.now c.args.groups _ _ c.in_err-made.ensures.err (λ is. c.in_err-made.ensures.invalid (ap Err is)))

pub returns-in_err-template : goal.returns-in_err-template
returns-in_err-template g c =
    let p = err_from_is_err_and c.from_residual-in_err-template.result c.from_residual-in_err-template.ensures.1 in
    rw (p.1, p.2) (no_template c.args.code.now c.args.groups c.in_ok-made.made.code.tree (is_over_bytes c.args.pattern) c.args.list.now (λ t pieces. replaced_by (is_over_bytes c.args.pattern) t pieces (plain_of c.args.subject.now) c.args.limit (given c.args.default)) _ c.in_ok-made.ensures.spelled (rw (c.in_ok-made.ensures.kind, c.in_ok-made.ensures.groups) at c.in_err-template.ensures.template))

pub returns : goal.returns
returns g c =
    by_tree c.args.code.now c.args.groups c.in_ok-made.made.code.tree (is_over_bytes c.args.pattern) c.args.list.now (λ t pieces. replaced_by (is_over_bytes c.args.pattern) t pieces (plain_of c.args.subject.now) c.args.limit (given c.args.default)) (pieces_in c.in_ok-template.template.pieces) _ c.in_ok-made.ensures.spelled (rw (c.in_ok-made.ensures.kind, c.in_ok-made.ensures.groups) at c.in_ok-template.ensures.template) (rw c.in_ok-made.ensures.kind at c.subn.ensures)
