-- The tree that a pattern is compiled to.
use Rattle.std.specs.Prelude.{ℕ, Bool, true, false, List, [], ◌∷◌, Option, Some, None}
use Rattle.sre_code.specs.declared.opcodes.TheConstants.{MAXREPEAT}
use Rattle.sre_code.specs.declared.set.SetItem.{SetItem}
use Rattle.sre_code.specs.declared.set.SetItem.TheVariants.{Literal, Span, Category}
use Rattle.sre_code.specs.declared.tree.RepeatKind.{RepeatKind}
use Rattle.sre_code.specs.declared.tree.RepeatKind.TheVariants.{Greedy, Lazy, Possessive}
use Rattle.sre_code.specs.PlainTree.{PlainNode, PlainTree, PlainTrees, fail, any, any_all, lit, one_of, group, ref, exists, exists_else, branch, repeat, atomic, look, nothing, ◌then◌, only, ◌or◌}
use Rattle.re_tree.specs.declared.tree.CountMode.{CountMode}
use Rattle.re_tree.specs.declared.tree.CountMode.TheVariants.{Greedy as GreedyCount, Lazy as LazyCount, Possessive as PossessiveCount}
use Rattle.re_tree.specs.declared.unit.UnitItem.{UnitItem}
use Rattle.re_tree.specs.declared.unit.UnitItem.TheVariants.{Literal as LiteralUnit, Span as SpanUnit, Category as CategoryUnit}
use Rattle.re_tree.specs.PlainText.{PlainTest, dot, dot_all, literal, set, PlainText, PlainTexts, unit, anchor, reference, conditional, conditional_else, sequence, alternation, counted, capture, plain, atomic_text, look_text, done, ◌also◌, Names, number_of}
use Rattle.re_tree.specs.Widths.{width}

abbrev pub set_item : UnitItem → SetItem
set_item (LiteralUnit c) = Literal c
set_item (SpanUnit lo hi) = Span lo hi
set_item (CategoryUnit k) = Category k

abbrev pub set_items : List UnitItem → List SetItem
set_items [] = []
set_items (item ∷ items) = set_item item ∷ set_items items

abbrev pub test_node : PlainTest → PlainNode
test_node dot = any
test_node dot_all = any_all
test_node (literal c) = lit c
test_node (set negated items) = one_of negated (set_items items)

abbrev pub kind_of_mode : CountMode → RepeatKind
kind_of_mode GreedyCount = Greedy
kind_of_mode LazyCount = Lazy
kind_of_mode PossessiveCount = Possessive

-- MAXREPEAT as the greatest count means that there is none
abbrev pub greatest : Option ℕ → ℕ
greatest None = MAXREPEAT
greatest (Some most) = most

-- how far back a lookaround begins
abbrev pub back_of : Bool → Option ℕ → ℕ
back_of false width = 0
back_of true None = 0
back_of true (Some k) = k

-- the body of a count may be compiled as one unit wide
abbrev pub is_one_unit : PlainText → Bool
is_one_unit (unit test) = true
is_one_unit (plain at body) = is_one_unit body
is_one_unit _ = false

-- nodes before a tree
abbrev pub join : PlainTree → PlainTree → PlainTree
join nothing u = u
join (n then t) u = n then join t u

abbrev mutual
  pub tree_of_text : Names → PlainText → PlainTree
  tree_of_text names (unit test) = test_node test then nothing
  tree_of_text names (anchor k) = PlainNode.at k then nothing
  tree_of_text names (reference at id) = ref (number_of names id) then nothing
  tree_of_text names (conditional at id met) = exists (number_of names id) (tree_of_text names met) then nothing
  tree_of_text names (conditional_else at id met other) =
      exists_else (number_of names id) (tree_of_text names met) (tree_of_text names other) then nothing
  tree_of_text names (sequence parts) = tree_of_parts names parts
  tree_of_text names (alternation branches) = branch (trees_of_branches names branches) then nothing
  tree_of_text names (counted at least most mode body) =
      repeat (kind_of_mode mode) (is_one_unit body) least (greatest most) (tree_of_text names body) then nothing
  tree_of_text names (capture at number name body) = group number (tree_of_text names body) then nothing
  tree_of_text names (plain at body) = tree_of_text names body
  tree_of_text names (atomic_text at body) = atomic (tree_of_text names body) then nothing
  tree_of_text names (look_text at positive back body) =
      look positive (back_of back (width body)) (tree_of_text names body) then nothing

  pub tree_of_parts : Names → PlainTexts → PlainTree
  tree_of_parts names done = nothing
  tree_of_parts names (r also rs) = join (tree_of_text names r) (tree_of_parts names rs)

  -- no pattern has no branch
  pub trees_of_branches : Names → PlainTexts → PlainTrees
  trees_of_branches names done = only (fail then nothing)
  trees_of_branches names (r also done) = only (tree_of_text names r)
  trees_of_branches names (r also q also rs) = tree_of_text names r or trees_of_branches names (q also rs)
