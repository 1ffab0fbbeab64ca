-- A name more in a list of entries.
use Rattle.std.proofs.Common.{◌≡◌, ℕ, List, [], ◌∷◌, refl, ap, cond, nat_eq}
use Rattle.std.specs.Cmp.Lexicographic.{pointwise}
use Rattle.indexmap.specs.IndexMap.{insert_entry}
use Rattle.py_sre.specs.Names.{Entry, put}

pub put_is : (name : List ℕ) (group : ℕ) (es : List Entry) → insert_entry (pointwise nat_eq) es name group ≡ put name group es
put_is name group [] = refl
put_is name group (e ∷ es) = ap (λ (l : List Entry). cond (pointwise nat_eq name e.0) ((e.0, group) ∷ es) (e ∷ l)) (put_is name group es)
