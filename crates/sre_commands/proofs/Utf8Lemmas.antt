-- The UTF-8 of characters is bytes.
use Rattle.std.proofs.Common.{◌≡◌, ℕ, zero, suc, ◌+◌, ◌/◌, ◌%◌, ◌<◌, Bool, true, false, cond, ltb, ◌&&◌, List, [], ◌∷◌, ◌++◌, refl, ⊎_elim, arith, encode_utf8_all}
use Rattle.std.proofs.Math.Utf8.{encode, scalar, scalar_cases}
use Rattle.std.proofs.lemmas.Bool.{ltb-true}
use Rattle.std.specs.Str.{all_scalars}
use Rattle.hex.specs.Hex.{IsBytes}

nil_bytes : IsBytes []
nil_bytes i = omega arith

cons_bytes : (x : ℕ) (xs : List ℕ) → x < 256 → IsBytes xs → IsBytes (x ∷ xs)
cons_bytes x xs lt h zero = lt
cons_bytes x xs lt h (suc i) = h i

append_bytes : (xs ys : List ℕ) → IsBytes xs → IsBytes ys → IsBytes (xs ++ ys)
append_bytes [] ys h k = k
append_bytes (x ∷ xs) ys h k = cons_bytes x (xs ++ ys) (h 0) (append_bytes xs ys (λ i. h (suc i)) k)

two : (x y : ℕ) → x < 256 → y < 256 → IsBytes (x ∷ y ∷ [])
two x y h k = cons_bytes x (y ∷ []) h (cons_bytes y [] k nil_bytes)

three : (x y z : ℕ) → x < 256 → y < 256 → z < 256 → IsBytes (x ∷ y ∷ z ∷ [])
three x y z h k m = cons_bytes x (y ∷ z ∷ []) h (two y z k m)

by_cases : (c : ℕ) (a b d : Bool) → ltb c 128 ≡ a → ltb c 2048 ≡ b → ltb c 65536 ≡ d → c < 1114112
    → IsBytes (cond a (c ∷ []) (cond b ((192 + c / 64) ∷ (128 + c % 64) ∷ []) (cond d ((224 + c / 4096) ∷ (128 + (c / 64) % 64) ∷ (128 + c % 64) ∷ []) ((240 + c / 262144) ∷ (128 + (c / 4096) % 64) ∷ (128 + (c / 64) % 64) ∷ (128 + c % 64) ∷ []))))
by_cases c true b d ea eb ed lt = let h = ltb-true c 128 ea in cons_bytes c [] (omega arith) nil_bytes
by_cases c false true d ea eb ed lt = let h = ltb-true c 2048 eb in two (192 + c / 64) (128 + c % 64) (omega arith) (omega arith)
by_cases c false false true ea eb ed lt = let h = ltb-true c 65536 ed in three (224 + c / 4096) (128 + (c / 64) % 64) (128 + c % 64) (omega arith) (omega arith) (omega arith)
by_cases c false false false ea eb ed lt = cons_bytes (240 + c / 262144) ((128 + (c / 4096) % 64) ∷ (128 + (c / 64) % 64) ∷ (128 + c % 64) ∷ []) (omega arith) (three (128 + (c / 4096) % 64) (128 + (c / 64) % 64) (128 + c % 64) (omega arith) (omega arith) (omega arith))

encode_bytes : (c : ℕ) → scalar c ≡ true → IsBytes (encode c)
unfolding encode
encode_bytes c e =
    let small : c < 1114112 = ⊎_elim (λ h. omega arith) (λ h. h.1) (scalar_cases c e) in
    by_cases c (ltb c 128) (ltb c 2048) (ltb c 65536) refl refl refl small

both : (a b : Bool) → (a && b) ≡ true → (a ≡ true) × (b ≡ true)
both true b e = (refl, e)
both false b e = absurd cc

pub encodes_bytes : (text : List ℕ) → all_scalars text ≡ true → IsBytes (encode_utf8_all text)
encodes_bytes [] e = nil_bytes
encodes_bytes (c ∷ cs) e = let h = both (scalar c) (all_scalars cs) e in append_bytes (encode c) (encode_utf8_all cs) (encode_bytes c h.0) (encodes_bytes cs h.1)
