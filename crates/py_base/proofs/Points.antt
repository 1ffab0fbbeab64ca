-- Texts, and their code points.
use Rattle.std.proofs.Common.{◌≡◌, ℕ, List, nat_eq, chars, encode_utf8_all, ap, sym, ◌∙◌}
use Rattle.std.proofs.lemmas.Bool.Decides.{same_from_decides}
use Rattle.std.proofs.lemmas.Str.{encodes-chars}
use Rattle.std.specs.Cmp.Lexicographic.{pointwise, bytes_decides}
use Rattle.std.specs.Str.{IsUtf8}

-- texts are equal just where their code points are
pub same_by_points : (a b : List ℕ) → IsUtf8 a → IsUtf8 b → pointwise nat_eq a b ≡ pointwise nat_eq (chars a) (chars b)
same_by_points a b u v =
    same_from_decides (pointwise nat_eq a b) (pointwise nat_eq (chars a) (chars b)) (bytes_decides a b) (
      (λ h. sym (encodes-chars a u) ∙ ap encode_utf8_all ((bytes_decides (chars a) (chars b)).0 h) ∙ encodes-chars b v),
      (λ e. (bytes_decides (chars a) (chars b)).1 (ap chars e)),
    )
