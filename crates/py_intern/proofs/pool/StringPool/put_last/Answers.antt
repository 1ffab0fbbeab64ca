use Rattle.std.proofs.Common.{◌≡◌, ◌∙◌, ◌++◌, ◌∷◌, [], None, ap}
use Rattle.std.specs.Str.{chars}
use Rattle.std.specs.Map.{values_of}
use Rattle.py_intern.specs.Pool.{place_of}
use Rattle.py_intern.proofs.EntryLemmas.{new_last, values_pushed, pooled_pushed}
use Rattle.py_intern.proofs.pool.StringPool.put_last.Goals as goal

pub invariant_of-self : goal.invariant_of-self
invariant_of-self c =
    let same = ap chars c.in_ok-key.ensures.ok ∙ c.as_str.ensures.value in
    let none : place_of c.args.text (values_of c.self.inside.texts.entries) ≡ None = ap (place_of c.args.text) c.self.view_is ∙ c.requires in
    let e = c.in-Ok.ensures.entries ∙ new_last c.self.inside.texts c.in_ok-key.key c.args.text c.self.invariant.keys same none in
    rw e (pooled_pushed c.self.inside.texts.entries c.in_ok-key.key c.args.text c.self.invariant same none)

pub returns-in-Ok-clause-ok : goal.returns-in-Ok-clause-ok
returns-in-Ok-clause-ok c =
    let same = ap chars c.in_ok-key.ensures.ok ∙ c.as_str.ensures.value in
    let none : place_of c.args.text (values_of c.self.inside.texts.entries) ≡ None = ap (place_of c.args.text) c.self.view_is ∙ c.requires in
    let e = c.in-Ok.ensures.entries ∙ new_last c.self.inside.texts c.in_ok-key.key c.args.text c.self.invariant.keys same none in
    ap values_of e ∙ values_pushed c.self.inside.texts.entries c.in_ok-key.key c.args.text ∙ ap (λ l. l ++ c.args.text ∷ []) c.self.view_is
