-- How long a text is that is repeated.
use Rattle.std.proofs.Common.{◌≡◌, ◌∙◌, ◌+◌, ◌*◌, ◌/◌, ◌<◌, ◌≤◌, ℕ, zero, suc, List, ap, sym, length, length-append, arith}
use Rattle.std.proofs.Math.Nat.{lt-mul-div-succ, mul_comm, add_comm, suc-mul, zero-mul}
use Rattle.py_text.specs.Sums.{copies}

pub length_copies : (n : ℕ) (L : List ℕ) → length (copies n L) ≡ n * length L
length_copies zero L = sym (zero-mul (length L))
length_copies (suc n) L =
    length-append L (copies n L) ∙ ap (λ k. length L + k) (length_copies n L) ∙ add_comm (length L) (n * length L) ∙ sym (suc-mul n (length L))

-- one more copy than there are whole ones is enough
pub enough_copies : (size : ℕ) (L : List ℕ) → 0 < length L → size ≤ length (copies (size / length L + 1) L)
enough_copies size L h =
    let e : length (copies (size / length L + 1) L) ≡ length L * (size / length L + 1) = length_copies (size / length L + 1) L ∙ mul_comm (size / length L + 1) (length L) in
    let b : size < length L * (size / length L + 1) = lt-mul-div-succ size h in
    rw e (omega (arith, b))
