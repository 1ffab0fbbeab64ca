use Rattle.std.proofs.Common.{◌≡◌, ◌++◌, ◌∙◌, ap, sym, List, ℕ, [], length, chars, eqb-true, refl}
use Rattle.std.proofs.lemmas.List.{nil_from_length}
use Rattle.py_text.specs.Replacing.{replace}
use Rattle.py_text.proofs.ReplacingLemmas.{on_ok}
use Rattle.py_text.proofs.replacing.put.Goals as goal

same_replaced : (k : ℕ) (x y z L out new : List ℕ) → x ≡ [] → y ≡ z → new ≡ out ++ replace k [] y L → new ≡ out ++ replace k x z L
same_replaced k x y z L out new e f h = h ∙ ap (λ v. out ++ replace k [] v L) f ∙ ap (λ v. out ++ replace k v z L) (sym e)

pub returns-then-is_empty-clause-ok : goal.returns-then-is_empty-clause-ok
returns-then-is_empty-clause-ok c =
    on_ok c.put_between.result (same_replaced c.args.limit c.args.old.now _ c.args.new.now (chars c.args.text.now) c.args.out.now _
    (nil_from_length c.args.old.now (eqb-true (length c.args.old.now) 0 (sym c.is_empty.ensures ∙ c.if-is_empty.true))) refl) c.put_between.ensures.ok
