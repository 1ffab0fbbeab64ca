-- Lists of words that are cut and joined.
use Rattle.std.proofs.Common.{◌≡◌, refl, ap, ℕ, List, [], ◌∷◌, ◌++◌}

pub split_jump : (ys zs x : List ℕ) (w j : ℕ) → (ys ++ w ∷ j ∷ zs) ++ x ≡ (ys ++ w ∷ j ∷ []) ++ (zs ++ x)
split_jump [] zs x w j = refl
split_jump (y ∷ ys) zs x w j = ap (λ l. y ∷ l) (split_jump ys zs x w j)
