-- Decimal texts are ASCII.
use Rattle.std.proofs.Common.{◌≡◌, ℕ, zero, suc, ◌^◌, ◌<◌, List, ◌∷◌, ℤ, pos, negsuc, FitsSigned, lit<, arith}
use Rattle.std.specs.Int.{w128}
use Rattle.std.specs.Fmt.{decimal, signed_decimal}
use Rattle.std.specs.Str.{IsAscii, chars}
use Rattle.std.proofs.lemmas.Fmt.{IsAscii-decimal_wide}
use Rattle.std.proofs.lemmas.Str.{chars-IsAscii}

behind_sign : (bs : List ℕ) → IsAscii bs → IsAscii (45 ∷ bs)
behind_sign bs h zero = lit< tt
behind_sign bs h (suc i) = h i

ascii_decimal : (z : ℤ) → FitsSigned w128 z → IsAscii (signed_decimal z)
ascii_decimal (pos n) f = let g : n < 2 ^ 127 = f.sfits in IsAscii-decimal_wide n (omega arith)
ascii_decimal (negsuc n) f = let g : n < 2 ^ 127 = f.sfits in behind_sign (decimal (suc n)) (IsAscii-decimal_wide (suc n) (omega arith))

pub decimal_chars : (z : ℤ) → FitsSigned w128 z → chars (signed_decimal z) ≡ signed_decimal z
decimal_chars z f = chars-IsAscii (signed_decimal z) (ascii_decimal z f)
