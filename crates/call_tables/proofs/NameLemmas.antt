-- The name of a call, which is what is before the first space.
use Rattle.std.proofs.Common.{◌≡◌, ◌≢◌, ◌<◌, ℕ, List, [], ◌∷◌, Bool, false, Bor, Some, length, arith}
use Rattle.std.specs.Prelude.{◌==◌}
use Rattle.std.proofs.lemmas.List.Elements.{All-from_get_or}
use Rattle.std.proofs.lemmas.Str.Pattern.{IsSplitOnceResult, split_parts}
use Rattle.call_tables.specs.Lines.{IsName}

not_empty : (name : List ℕ) (empty : Bool) → empty ≡ (length name == 0) → empty ≡ false → name ≡ [] → ⊥
not_empty [] empty is full e = cc
not_empty (b ∷ bs) empty is full e = cc

pub is_name : (text : List ℕ) (name words : Bor (List ℕ)) (empty : Bool) → IsSplitOnceResult 32 text (Some (name, words)) →
    empty ≡ (length name.now == 0) → empty ≡ false → IsName name.now
is_name text name words empty split is full =
    let within : 32 < 128 = omega arith in
    (not_empty name.now empty is full, All-from_get_or (λ b. b ≢ 32) name.now 0 (split_parts 32 text (Some (name, words)) split within).1)
