-- Each tree inside a tree is smaller. The proofs are here, for the Models cite them.
use Rattle.std.specs.Prelude.{◌≤◌, ◌+◌, List, [], ◌∷◌, Some, None}
use Rattle.std.proofs.Common.{arith}
use denote.Param.Weighed.{most}
use Rattle.re_tree.specs.declared.tree.TextBody.TheInside.{Inside}
use Rattle.re_tree.specs.declared.tree.TextParts.TheInside.{Inside as Parts}
use Rattle.re_tree.specs.declared.tree.TextBody.TheDeep.{deep-TextTree, deep-TextBody, deep-TextParts}
use Rattle.re_tree.specs.declared.tree.TextTree.{TextTree}
use Rattle.re_tree.specs.declared.tree.TextTree.TheVariants.{Unit as UnitPart, Place, Reference, Conditional, Sequence, Alternation, Counted, Capture, Plain, Atomic, Look}
use Rattle.re_tree.specs.TextView.{text_of, texts_of, height, heights}

pub text_falls : (r : TextTree) → deep-TextTree r ≤ height (text_of r)
text_falls (UnitPart test) = omega arith
text_falls (Place k) = omega arith
text_falls (Reference at id) = omega arith
text_falls (Conditional at id met None) = omega arith
text_falls (Conditional at id met (Some other)) = omega arith
text_falls (Sequence parts) = omega arith
text_falls (Alternation branches) = omega arith
text_falls (Counted at least most mode body) = omega arith
text_falls (Capture at number name body) = omega arith
text_falls (Plain at body) = omega arith
text_falls (Atomic at body) = omega arith
text_falls (Look at positive back body) = omega arith

texts_fall : (rs : List TextTree) → most deep-TextTree rs ≤ heights (texts_of rs)
texts_fall [] = omega arith
texts_fall (r ∷ rs) = omega (arith, text_falls r, texts_fall rs)

pub body_falls : (a : Inside) → deep-TextBody a ≤ height (text_of a.tree)
body_falls a = omega (arith, text_falls a.tree)

pub parts_fall : (a : Parts) → deep-TextParts a ≤ heights (texts_of a.parts)
parts_fall a = omega (arith, texts_fall a.parts)
