-- The tree of a text that fits has a spelling.
use Rattle.std.proofs.Common.{◌≡◌, refl, ℕ, ◌+◌, ◌*◌, ◌≤◌, true, arith}
use Rattle.std.specs.Prelude.{Option, Some, None, max}
use Rattle.sre_code.specs.PlainTree.{PlainTree, nothing, ◌then◌, depth, node_depth, trees_depth, is_unit_node}
use Rattle.sre_code.specs.Spelling.{node_fits, tree_fits, alternatives_fit, wide_fits, Fits}
use Rattle.re_tree.specs.PlainText.{PlainTest, dot, dot_all, literal, set, PlainText, PlainTexts, unit, anchor, reference, conditional, conditional_else, sequence, alternation, counted, capture, plain, atomic_text, look_text, done, ◌also◌, Names, captures}
use Rattle.re_tree.specs.Grammar.{is_countable, IsRegex, IsBranch, IsPiece, ArePieces, AreBranches}
use Rattle.re_text.specs.Trees.{test_node, greatest, is_one_unit, join, tree_of_text, tree_of_parts, trees_of_branches}
use Rattle.re_text.specs.Fits.{count_fits, test_fits, text_fits, texts_fit, text_depth, texts_depth, parens, all_parens}

test_node_fits : (test : PlainTest) (groups : ℕ) → test_fits test → node_fits (test_node test) groups
test_node_fits dot groups h = tt
test_node_fits dot_all groups h = tt
test_node_fits (literal c) groups h = tt
test_node_fits (set negated items) groups h = h

test_is_unit : (test : PlainTest) → is_unit_node (test_node test) ≡ true
test_is_unit dot = refl
test_is_unit dot_all = refl
test_is_unit (literal c) = refl
test_is_unit (set negated items) = refl

is_wide : (names : Names) (r : PlainText) → wide_fits (is_one_unit r) (tree_of_text names r)
is_wide names (unit test) = test_is_unit test
is_wide names (plain at body) = is_wide names body
is_wide names _ = tt

join_fits : (t u : PlainTree) (groups : ℕ) → tree_fits t groups → tree_fits u groups → tree_fits (join t u) groups
join_fits nothing u groups h k = k
join_fits (n then t) u groups h k = (h.0, join_fits t u groups h.1 k)

count_order : (least : ℕ) (most : Option ℕ) → count_fits least most → least ≤ greatest most
count_order least None h = omega (arith, h)
count_order least (Some most) h = h.0

mutual
  pub fits : (names : Names) (groups : ℕ) (r : PlainText) → text_fits names groups r → tree_fits (tree_of_text names r) groups
  fits names groups (unit test) h = (test_node_fits test groups h, tt)
  fits names groups (anchor k) h = (h, tt)
  fits names groups (reference at id) h = (h, tt)
  fits names groups (conditional at id met) h = ((h.0, fits names groups met h.1), tt)
  fits names groups (conditional_else at id met other) h = ((h.0, fits names groups met h.1, fits names groups other h.2), tt)
  fits names groups (sequence parts) h = parts_fit names groups parts h
  fits names groups (alternation branches) h = (branches_fit names groups branches h, tt)
  fits names groups (counted at least most mode body) h = ((count_order least most h.0, is_wide names body, fits names groups body h.1), tt)
  fits names groups (capture at number name body) h = ((h.0, fits names groups body h.1), tt)
  fits names groups (plain at body) h = fits names groups body h
  fits names groups (atomic_text at body) h = (fits names groups body h, tt)
  fits names groups (look_text at positive back body) h = (fits names groups body h.1, tt)

  parts_fit : (names : Names) (groups : ℕ) (rs : PlainTexts) → texts_fit names groups rs → tree_fits (tree_of_parts names rs) groups
  parts_fit names groups done h = tt
  parts_fit names groups (r also rs) h = join_fits (tree_of_text names r) (tree_of_parts names rs) groups (fits names groups r h.0) (parts_fit names groups rs h.1)

  branches_fit : (names : Names) (groups : ℕ) (rs : PlainTexts) → texts_fit names groups rs → alternatives_fit (trees_of_branches names rs) groups
  branches_fit names groups done h = (tt, tt)
  branches_fit names groups (r also done) h = fits names groups r h.0
  branches_fit names groups (r also q also rs) h = (fits names groups r h.0, branches_fit names groups (q also rs) h.1)

join_depth : (t u : PlainTree) → depth (join t u) ≤ max (depth t) (depth u)
join_depth nothing u = omega arith
join_depth (n then t) u = omega (arith, join_depth t u)

test_depth : (test : PlainTest) → node_depth (test_node test) ≡ 0
test_depth dot = refl
test_depth dot_all = refl
test_depth (literal c) = refl
test_depth (set negated items) = refl

mutual
  pub depth_is : (names : Names) (r : PlainText) → depth (tree_of_text names r) ≤ text_depth r
  depth_is names (unit test) = omega (arith, test_depth test)
  depth_is names (anchor k) = omega arith
  depth_is names (reference at id) = omega arith
  depth_is names (conditional at id met) = omega (arith, depth_is names met)
  depth_is names (conditional_else at id met other) = omega (arith, depth_is names met, depth_is names other)
  depth_is names (sequence parts) = parts_depth names parts
  depth_is names (alternation branches) = omega (arith, branches_depth names branches)
  depth_is names (counted at least most mode body) = omega (arith, depth_is names body)
  depth_is names (capture at number name body) = omega (arith, depth_is names body)
  depth_is names (plain at body) = depth_is names body
  depth_is names (atomic_text at body) = omega (arith, depth_is names body)
  depth_is names (look_text at positive back body) = omega (arith, depth_is names body)

  parts_depth : (names : Names) (rs : PlainTexts) → depth (tree_of_parts names rs) ≤ texts_depth rs
  parts_depth names done = omega arith
  parts_depth names (r also rs) = omega (arith, join_depth (tree_of_text names r) (tree_of_parts names rs), depth_is names r, parts_depth names rs)

  branches_depth : (names : Names) (rs : PlainTexts) → trees_depth (trees_of_branches names rs) ≤ texts_depth rs + 1
  branches_depth names done = omega arith
  branches_depth names (r also done) = omega (arith, depth_is names r)
  branches_depth names (r also q also rs) = omega (arith, depth_is names r, branches_depth names (q also rs))

-- a count adds one
counted_once : PlainText → ℕ
counted_once (counted at least most mode body) = 1
counted_once _ = 0

once : (r : PlainText) → counted_once r ≤ 1
unfolding counted_once
once (counted at least most mode body) = omega arith
once (unit test) = omega arith
once (anchor k) = omega arith
once (reference at id) = omega arith
once (conditional at id met) = omega arith
once (conditional_else at id met other) = omega arith
once (sequence parts) = omega arith
once (alternation branches) = omega arith
once (capture at number name body) = omega arith
once (plain at body) = omega arith
once (atomic_text at body) = omega arith
once (look_text at positive back body) = omega arith

not_counted : (r : PlainText) → is_countable r ≡ true → counted_once r ≡ 0
unfolding counted_once
not_counted (counted at least most mode body) h = let f : ⊥ = cc h in absurd f
not_counted (unit test) h = refl
not_counted (anchor k) h = refl
not_counted (reference at id) h = refl
not_counted (conditional at id met) h = refl
not_counted (conditional_else at id met other) h = refl
not_counted (sequence parts) h = refl
not_counted (alternation branches) h = refl
not_counted (capture at number name body) h = refl
not_counted (plain at body) h = refl
not_counted (atomic_text at body) h = refl
not_counted (look_text at positive back body) h = refl

-- three bodies for each parenthesis, and two more
mutual
  unfolding counted_once

  piece_depth : (r : PlainText) (g : ℕ) → IsPiece g r → text_depth r ≤ 3 * parens r + counted_once r
  piece_depth (unit test) g h = omega arith
  piece_depth (anchor k) g h = omega arith
  piece_depth (reference at id) g h = omega arith
  piece_depth (conditional at id met) g h = omega (arith, branch_depth met g h)
  piece_depth (conditional_else at id met other) g h = omega (arith, branch_depth met g h.0, branch_depth other (g + captures met) h.1)
  piece_depth (counted at least most mode body) g h = omega (arith, piece_depth body g h.1, not_counted body h.0)
  piece_depth (capture at number name body) g h = omega (arith, regex_depth body (g + 1) h.1)
  piece_depth (plain at body) g h = omega (arith, regex_depth body g h)
  piece_depth (atomic_text at body) g h = omega (arith, regex_depth body g h)
  piece_depth (look_text at positive back body) g h = omega (arith, regex_depth body g h)
  piece_depth (sequence parts) g h = absurd h
  piece_depth (alternation branches) g h = absurd h

  pieces_depth : (rs : PlainTexts) (g : ℕ) → ArePieces g rs → texts_depth rs ≤ 3 * all_parens rs + 1
  pieces_depth done g h = omega arith
  pieces_depth (r also rs) g h = omega (arith, piece_depth r g h.0, once r, pieces_depth rs (g + captures r) h.1)

  branch_depth : (r : PlainText) (g : ℕ) → IsBranch g r → text_depth r ≤ 3 * parens r + 1
  branch_depth (sequence parts) g h = pieces_depth parts g h
  branch_depth _ g h = absurd h

  all_branches_depth : (rs : PlainTexts) (g : ℕ) → AreBranches g rs → texts_depth rs ≤ 3 * all_parens rs + 1
  all_branches_depth done g h = omega arith
  all_branches_depth (r also rs) g h = omega (arith, branch_depth r g h.0, all_branches_depth rs (g + captures r) h.1)

  pub regex_depth : (r : PlainText) (g : ℕ) → IsRegex g r → text_depth r ≤ 3 * parens r + 2
  regex_depth (sequence parts) g h = omega (arith, pieces_depth parts g h)
  regex_depth (alternation (r also q also rs)) g h = omega (arith, all_branches_depth (r also q also rs) g h)
  regex_depth _ g h = absurd h

-- so 60 parentheses inside one another give at most 182 bodies
pub has_spelling : (names : Names) (groups : ℕ) (r : PlainText) → groups ≤ 65535 → text_fits names groups r → IsRegex 0 r → parens r ≤ 60 → Fits (tree_of_text names r) groups
has_spelling names groups r count h shape nested = record {
  count = count;
  nodes = fits names groups r h;
  nesting = omega (arith, depth_is names r, regex_depth r 0 shape, nested);
}
