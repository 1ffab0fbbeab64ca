use Rattle.std.proofs.Common.{FitsSigned, ap, ◌∙◌}
use Rattle.std.specs.Prelude.{Result, Ok, Err, IfOk}
use Rattle.std.specs.Fmt.{signed_decimal}
use Rattle.std.specs.Int.{w128}
use Rattle.std.specs.Str.{chars}
use Rattle.std.proofs.lemmas.Int.{to_z-of_z}
use Rattle.py_int.proofs.DecimalLemmas.{decimal_chars}
use Rattle.py_int.proofs.number.PyInt.repr.Goals as goal

if_ok : {T E : Type 0} {P Q : T → Type 0} (r : Result T E) → ((t : T) → P t → Q t) → IfOk r P → IfOk r Q
if_ok (Ok t) f h = f t h
if_ok (Err e) f h = h

pub returns-clause-ok : goal.returns-clause-ok
returns-clause-ok c =
    let z = c.as_i128-value.result in
    let f : FitsSigned w128 z = record { sfits = c.as_i128-value.type_inv } in
    if_ok c.copy_of.result
    (λ made h. h ∙ ap chars (c.format.ensures.text ∙ ap signed_decimal (to_z-of_z w128 z f)) ∙ decimal_chars z f ∙ ap signed_decimal c.as_i128-value.ensures)
    c.copy_of.ensures.ok
