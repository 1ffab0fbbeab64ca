-- What the digits of bytes lack, and that they tell the bytes.
use Rattle.std.proofs.Common.{◌≡◌, ◌≢◌, ℕ, zero, suc, ◌/◌, ◌%◌, ◌<◌, ◌≤◌, nat_lt, Bool, true, false, List, [], ◌∷◌, get_or, refl, sym, ap, ◌∙◌, arith}
use Rattle.std.specs.List.{list_any}
use Rattle.std.proofs.lemmas.Bool.{ltb-false, or_parts}
use Rattle.std.proofs.lemmas.List.Elements.{All-nil, All-cons}
use Rattle.hex.specs.Hex.{IsBytes, decode_of, encode_with, encode_lower, lower_digits}
use Rattle.hex.proofs.HexLemmas.{decode_of-encode_lower, decode_of-same}
use Rattle.sre_commands.proofs.LacksLemmas.{Lacks}

-- ---- what a table writes has no byte that the table lacks

lacks_digit : (byte : ℕ) (table : List ℕ) → 0 ≢ byte → Lacks byte table → (k : ℕ) → get_or table k 0 ≢ byte
lacks_digit byte [] other h k = other
lacks_digit byte (x ∷ table) other h zero = h 0 0 (omega arith)
lacks_digit byte (x ∷ table) other h (suc k) = lacks_digit byte table other (λ j d lt. h (suc j) d (omega arith)) k

lacks_encoded : (byte : ℕ) (table : List ℕ) → ((k : ℕ) → get_or table k 0 ≢ byte) → (bytes : List ℕ) → Lacks byte (encode_with table bytes)
unfolding encode_with
lacks_encoded byte table h [] = All-nil (λ b. b ≢ byte)
lacks_encoded byte table h (b ∷ bytes) =
    All-cons (λ b. b ≢ byte) (get_or table (b / 16) 0) (get_or table (b % 16) 0 ∷ encode_with table bytes) (h (b / 16))
    (All-cons (λ b. b ≢ byte) (get_or table (b % 16) 0) (encode_with table bytes) (h (b % 16)) (lacks_encoded byte table h bytes))

lacks_by_test : (byte : ℕ) (table : List ℕ) → byte < 48 → list_any (λ b. nat_lt b 48) table ≡ false → Lacks byte table
lacks_by_test byte [] below h = All-nil (λ b. b ≢ byte)
lacks_by_test byte (x ∷ table) below h =
    let parts = or_parts (nat_lt x 48) (list_any (λ b. nat_lt b 48) table) h in
    let past : 48 ≤ x = ltb-false x 48 parts.0 in
    All-cons (λ b. b ≢ byte) x table (omega arith) (lacks_by_test byte table below parts.1)

pub lacks_lower : (byte : ℕ) → 0 < byte → byte < 48 → (bytes : List ℕ) → Lacks byte (encode_lower bytes)
lacks_lower byte some below bytes = lacks_encoded byte lower_digits (lacks_digit byte lower_digits (omega arith) (lacks_by_test byte lower_digits below refl)) bytes

-- ---- different bytes have different digits

pub encode_lower_same : (xs ys : List ℕ) → IsBytes xs → IsBytes ys → encode_lower xs ≡ encode_lower ys → xs ≡ ys
encode_lower_same xs ys h k e =
    decode_of-same (encode_lower ys) xs ys (sym (ap decode_of e) ∙ decode_of-encode_lower xs h) (decode_of-encode_lower ys k)
