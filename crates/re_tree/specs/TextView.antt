-- The plain tree that a tree in memory is.
use Rattle.std.specs.Prelude.{ℕ, ◌+◌, max, List, [], ◌∷◌, Option, Some, None}
use Rattle.re_tree.specs.declared.unit.UnitTest.{UnitTest}
use Rattle.re_tree.specs.declared.unit.UnitTest.TheVariants.{Any, AnyAll, Literal, Set}
use Rattle.re_tree.specs.declared.tree.GroupId.{GroupId}
use Rattle.re_tree.specs.declared.tree.GroupId.TheVariants.{Number, Name}
use Rattle.re_tree.specs.declared.tree.TextTree.{TextTree}
use Rattle.re_tree.specs.declared.tree.TextTree.TheVariants.{Unit as UnitPart, Place, Reference, Conditional, Sequence, Alternation, Counted, Capture, Plain, Atomic, Look}
use Rattle.re_tree.specs.PlainText.{PlainTest, dot, dot_all, literal, set, GroupName, numbered, named, PlainText, PlainTexts, unit, anchor, reference, conditional, conditional_else, sequence, alternation, counted, capture, plain, atomic_text, look_text, done, ◌also◌}

abbrev pub test_of : UnitTest → PlainTest
test_of Any = dot
test_of AnyAll = dot_all
test_of (Literal c) = literal c
test_of (Set negated items) = set negated items

abbrev pub group_of : GroupId → GroupName
group_of (Number n) = numbered n
group_of (Name name) = named name

abbrev pub text_of : TextTree → PlainText
text_of (UnitPart test) = unit (test_of test)
text_of (Place k) = anchor k
text_of (Reference at id) = reference at (group_of id)
text_of (Conditional at id met None) = conditional at (group_of id) met
text_of (Conditional at id met (Some other)) = conditional_else at (group_of id) met other
text_of (Sequence parts) = sequence parts
text_of (Alternation branches) = alternation branches
text_of (Counted at least most mode body) = counted at least most mode body
text_of (Capture at number name body) = capture at number name body
text_of (Plain at body) = plain at body
text_of (Atomic at body) = atomic_text at body
text_of (Look at positive back body) = look_text at positive back body

abbrev pub texts_of : List TextTree → PlainTexts
texts_of [] = done
texts_of (r ∷ rs) = text_of r also texts_of rs

-- sizes that fall on the way down
abbrev mutual
  pub height : PlainText → ℕ
  height (unit test) = 0
  height (anchor k) = 0
  height (reference at id) = 0
  height (conditional at id met) = height met + 1
  height (conditional_else at id met other) = max (height met) (height other) + 1
  height (sequence parts) = heights parts + 1
  height (alternation branches) = heights branches + 1
  height (counted at least most mode body) = height body + 1
  height (capture at number name body) = height body + 1
  height (plain at body) = height body + 1
  height (atomic_text at body) = height body + 1
  height (look_text at positive back body) = height body + 1

  pub heights : PlainTexts → ℕ
  heights done = 0
  heights (r also rs) = max (height r) (heights rs)
