-- The nodes of a tree in memory, and the alternatives of a branch, one by one.
use Rattle.std.proofs.Common.{◌≡◌, ◌≤◌, ℕ, zero, suc, false, List, [], ◌∷◌, length, refl, arith}
use Rattle.std.specs.Prelude.{◌≢◌, slice_get}
use Rattle.std.specs.Option.{option_map}
use Rattle.sre_code.specs.declared.tree.Node.{Node}
use Rattle.sre_code.specs.PlainTree.{PlainTree, node_count, node_at, tree_count, tree_at, is_unit}
use Rattle.sre_code.specs.TreeView.{node_of, tree_of, trees_of}

pub node_count-tree_of : (ns : List Node) → length ns ≡ node_count (tree_of ns)
node_count-tree_of [] = refl
node_count-tree_of (n ∷ ns) = let rest = node_count-tree_of ns in omega (arith, rest)

pub node_at-tree_of : (ns : List Node) (i : ℕ) → option_map node_of (slice_get ns i) ≡ node_at (tree_of ns) i
node_at-tree_of [] i = refl
node_at-tree_of (n ∷ ns) zero = refl
node_at-tree_of (n ∷ ns) (suc i) = node_at-tree_of ns i

pub tree_count-trees_of : (ts : List PlainTree) → ts ≢ [] → length ts ≡ tree_count (trees_of ts)
tree_count-trees_of [] some = absurd (some refl)
tree_count-trees_of (t ∷ []) some = refl
tree_count-trees_of (t ∷ u ∷ ts) some = let rest = tree_count-trees_of (u ∷ ts) (λ e. cc e) in omega (arith, rest)

pub tree_at-trees_of : (ts : List PlainTree) (i : ℕ) → ts ≢ [] → slice_get ts i ≡ tree_at (trees_of ts) i
tree_at-trees_of [] i some = absurd (some refl)
tree_at-trees_of (t ∷ []) zero some = refl
tree_at-trees_of (t ∷ []) (suc i) some = refl
tree_at-trees_of (t ∷ u ∷ ts) zero some = refl
tree_at-trees_of (t ∷ u ∷ ts) (suc i) some = tree_at-trees_of (u ∷ ts) i (λ e. cc e)

-- two nodes are no unit
pub no_unit : (ns : List Node) → 2 ≤ length ns → is_unit (tree_of ns) ≡ false
no_unit [] h = refl
no_unit (n ∷ []) h = absurd (omega (arith, h))
no_unit (n ∷ m ∷ ns) h = refl
