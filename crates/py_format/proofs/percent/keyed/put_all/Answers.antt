use Rattle.std.proofs.Common.{◌≡◌, Some, false, true}
use Rattle.py_spec.specs.Percent.Specifiers.{specifiers_of}
use Rattle.py_format.proofs.FoldLemmas.{all_bare, all_keyed}
use Rattle.py_format.proofs.percent.keyed.put_all.Goals as goal

pub returns-in-Some-default-false : goal.returns-in-Some-default-false
returns-in-Some-default-false g c =
    let e : specifiers_of c.args.parts.now ≡ Some (c.in-Some-default-false.field-0-0, false) = cc (c.requires, c.in-Some-default-false.is, c.in-Some-default-false.field-0-1-is) in
    all_bare _ c.args.parts.now _ _ _ _ _ _ _ (rw c.template_kind.ensures at c.is_mapping-mapping.ensures) e c.put_bare.ensures

pub returns-then-mapping : goal.returns-then-mapping
returns-then-mapping g c =
    let e : specifiers_of c.args.parts.now ≡ Some (c.in-Some-default-true.field-0-0, true) = cc (c.requires, c.in-Some-default-true.is, c.in-Some-default-true.field-0-1-is) in
    all_keyed _ c.args.parts.now _ _ _ _ _ _ _ (rw c.template_kind.ensures at c.is_mapping-mapping.ensures) c.if-mapping.true e c.put_keyed_parts.ensures
