-- The parts of a sequence or an alternation in memory, one by one.
use Rattle.std.proofs.Common.{◌≡◌, ℕ, zero, suc, List, [], ◌∷◌, length, refl, arith}
use Rattle.std.specs.Prelude.{slice_get}
use Rattle.std.specs.Option.{option_map}
use Rattle.re_tree.specs.declared.tree.TextTree.{TextTree}
use Rattle.re_tree.specs.PlainText.{part_count, part_at}
use Rattle.re_tree.specs.TextView.{text_of, texts_of}

pub part_count-texts_of : (rs : List TextTree) → length rs ≡ part_count (texts_of rs)
part_count-texts_of [] = refl
part_count-texts_of (r ∷ rs) = let rest = part_count-texts_of rs in omega (arith, rest)

pub part_at-texts_of : (rs : List TextTree) (i : ℕ) → option_map text_of (slice_get rs i) ≡ part_at (texts_of rs) i
part_at-texts_of [] i = refl
part_at-texts_of (r ∷ rs) zero = refl
part_at-texts_of (r ∷ rs) (suc i) = part_at-texts_of rs i
