-- Lower-case digits of bytes that are written part by part.
use Rattle.std.proofs.Common.{◌≡◌, ℕ, ◌+◌, ◌*◌, ◌≤◌, List, [], ◌∷◌, ◌++◌, length, ◌-◌, take, drop, slice_range, refl, ap, sym, ◌∙◌, arith, append_assoc}
use Rattle.std.proofs.lemmas.List.{append-nil, drop_all}
use Rattle.std.proofs.Math.Seq.{take-add}
use Rattle.sre_match.proofs.UnitLemmas.{range_length}
use Rattle.hex.specs.Hex.{encode_with, encode_lower, lower_digits}

-- the digits of two parts
pub encode_with-append : (t xs ys : List ℕ) → encode_with t (xs ++ ys) ≡ encode_with t xs ++ encode_with t ys
unfolding encode_with
encode_with-append t [] ys = refl
encode_with-append t (b ∷ xs) ys = rw (encode_with-append t xs ys) refl

-- a block that holds all of the digits
pub block_done : (bytes block : List ℕ) (i : ℕ) → length bytes ≤ i → i ≤ length bytes
    → take (2 * i) block ++ encode_lower (drop i bytes) ≡ encode_lower bytes
    → take (2 * length bytes) block ≡ encode_lower bytes
unfolding encode_with
block_done bytes block i h k inv =
    let same : i ≡ length bytes = omega arith in
    let none = drop_all i bytes h in
    rw (none, append-nil, same) at inv

-- one part more is written
pub part_done : (line old bytes piece : List ℕ) (place : ℕ) → line ≡ old ++ encode_lower (take place bytes)
    → (n : ℕ) → take (place + n) bytes ≡ take place bytes ++ piece
    → line ++ encode_lower piece ≡ old ++ encode_lower (take (place + n) bytes)
part_done line old bytes piece place e n cut =
    ap (λ (l : List ℕ). l ++ encode_lower piece) e
    ∙ append_assoc old (encode_lower (take place bytes)) (encode_lower piece)
    ∙ ap (λ (l : List ℕ). old ++ l) (sym (ap encode_lower cut ∙ encode_with-append lower_digits (take place bytes) piece))

-- nothing is written
pub no_digits : (old : List ℕ) → old ≡ old ++ encode_lower []
unfolding encode_with
no_digits old = sym (append-nil old)

-- a block is appended
pub block_appended : (line old bytes block new : List ℕ) (place n : ℕ) → place + n ≤ length bytes
    → line ≡ old ++ encode_lower (take place bytes)
    → take (2 * length (slice_range bytes place (place + n))) block ≡ encode_lower (slice_range bytes place (place + n))
    → new ≡ line ++ take (2 * n) block
    → new ≡ old ++ encode_lower (take (place + n) bytes)
block_appended line old bytes block new place n fits e full written =
    let minus : (place + n) - place ≡ n = omega arith in
    let piece : List ℕ = slice_range bytes place (place + n) in
    let len : length piece ≡ n = range_length bytes place (place + n) fits ∙ minus in
    let cut : take (place + n) bytes ≡ take place bytes ++ piece = take-add place n bytes ∙ ap (λ (k : ℕ). take place bytes ++ take k (drop place bytes)) (sym minus) in
    let block_is : take (2 * n) block ≡ encode_lower piece = ap (λ (k : ℕ). take (2 * k) block) (sym len) ∙ full in
    written ∙ ap (λ (l : List ℕ). line ++ l) block_is ∙ part_done line old bytes piece place e n cut
