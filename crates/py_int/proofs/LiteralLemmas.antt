-- Literals, read from the left.
use Rattle.std.proofs.Common.{◌≡◌, ℕ, zero, suc, ◌+◌, ◌-◌, ◌*◌, ◌^◌, ◌<◌, ◌≤◌, min, Bool, true, false, ◌&&◌, nat_lt, nat_le, eqb, List, [], ◌∷◌, length, drop, get_or, Option, None, Some, option_map, pos, neg_ℤ, Err, inl, inr, refl, ap, sym, ◌∙◌, arith}
use Rattle.std.specs.Char.{digit_value}
use Rattle.std.proofs.lemmas.Bool.{cases_lt, cases_Bool}
use Rattle.std.proofs.lemmas.Bool.Decides.{nat_tests}
use Rattle.std.proofs.lemmas.List.{drop_more, drop_all}
use Rattle.py_base.specs.declared.error.PyError.TheVariants.{IntTooWide}
use Rattle.py_int.specs.Number.{carried}
use Rattle.py_int.specs.Literal.{digits_after, read_sign, unsigned, signed, literal, literal_result, saturated}

-- ---- numbers that a reader stops to count

le_product : (n k : ℕ) → 0 < k → n ≤ n * k
le_product n zero h = absurd (omega arith)
le_product n (suc k) h = omega arith

min_same : (n m base d : ℕ) → 0 < base → min n (2 ^ 128 - 1) ≡ min m (2 ^ 128 - 1) → min (n * base + d) (2 ^ 128 - 1) ≡ min (m * base + d) (2 ^ 128 - 1)
min_same n m base d p e =
    elim (cases_lt n (2 ^ 128 - 1)) [
      | inl i ↦ elim (cases_lt m (2 ^ 128 - 1)) [
        | inl j ↦ ap (λ k. min (k * base + d) (2 ^ 128 - 1)) (let s : n ≡ m = omega arith in s)
        | inr j ↦ absurd (omega arith)
      ]
      | inr i ↦ elim (cases_lt m (2 ^ 128 - 1)) [
        | inl j ↦ absurd (omega arith)
        | inr j ↦ omega (arith, le_product n base p, le_product m base p)
      ]
    ]

-- past the cap it's all one
saturated_same : (base : ℕ) (seen : Bool) (n m : ℕ) (cs : List ℕ) → 0 < base → min n (2 ^ 128 - 1) ≡ min m (2 ^ 128 - 1) → saturated (digits_after base seen n cs) ≡ saturated (digits_after base seen m cs)
saturated_same base true n m [] p e = ap Some e
saturated_same base false n m [] p e = refl
saturated_same base seen n m (c ∷ cs) p e =
    elim (cases_Bool (nat_lt (digit_value c) base)) [
      | inl t ↦ rw t (saturated_same base true (n * base + digit_value c) (m * base + digit_value c) cs p (min_same n m base (digit_value c) p e))
      | inr f ↦ elim (cases_Bool (seen && eqb c 95)) [
        | inl t ↦ rw (f, t) (saturated_same base false n m cs p e)
        | inr g ↦ rw (f, g) refl
      ]
    ]

-- one more byte: a digit
pub reads_digit : (base : ℕ) (seen : Bool) (n : ℕ) (cs : List ℕ) (i : ℕ) → 0 < base → i < length cs → digit_value (get_or cs i 0) < base → saturated (digits_after base seen n (drop i cs)) ≡ saturated (digits_after base true (min (n * base + digit_value (get_or cs i 0)) (2 ^ 128 - 1)) (drop (i + 1) cs))
reads_digit base seen n cs i p h l =
    let t : nat_lt (digit_value (get_or cs i 0)) base ≡ true = grind (arith, nat_tests) in
    rw (drop_more cs i 0 h, t) (saturated_same base true (n * base + digit_value (get_or cs i 0)) (min (n * base + digit_value (get_or cs i 0)) (2 ^ 128 - 1)) (drop (i + 1) cs) p (omega arith))

-- or an underscore after a digit
pub reads_underscore : (base n : ℕ) (cs : List ℕ) (i : ℕ) → i < length cs → base ≤ digit_value (get_or cs i 0) → get_or cs i 0 ≡ 95 → digits_after base true n (drop i cs) ≡ digits_after base false n (drop (i + 1) cs)
reads_underscore base n cs i h l e =
    let f : nat_lt (digit_value (get_or cs i 0)) base ≡ false = grind (arith, nat_tests) in
    rw (drop_more cs i 0 h, f, e) refl

pub reads_end : (base n : ℕ) (cs : List ℕ) (i : ℕ) → length cs ≤ i → n < 2 ^ 128 → saturated (digits_after base true n (drop i cs)) ≡ Some n
reads_end base n cs i h l = rw (drop_all i cs h) (ap Some (let e : min n (2 ^ 128 - 1) ≡ n = omega arith in e))

-- ---- signs

wide_pos : (n : ℕ) → 2 ^ 127 ≤ n → carried (pos n) ≡ Err IntTooWide
wide_pos n h = let t : nat_le (2 ^ 127) n ≡ true = grind (arith, nat_tests) in rw t refl

wide_neg : (n : ℕ) → 2 ^ 127 < n → carried (neg_ℤ (pos n)) ≡ Err IntTooWide
wide_neg zero h = absurd (omega arith)
wide_neg (suc n) h = let t : nat_le (2 ^ 127) n ≡ true = grind (arith, nat_tests) in rw t refl

-- a number that the reader stopped to count is too wide, as it was
pub saturated_pos : (base : ℕ) (o : Option ℕ) → literal_result base (option_map (signed false) (saturated o)) ≡ literal_result base (option_map (signed false) o)
saturated_pos base None = refl
saturated_pos base (Some n) =
    elim (cases_lt n (2 ^ 128 - 1)) [
      | inl h ↦ ap (λ k. carried (pos k)) (let e : min n (2 ^ 128 - 1) ≡ n = omega arith in e)
      | inr h ↦ wide_pos (min n (2 ^ 128 - 1)) (omega arith) ∙ sym (wide_pos n (omega arith))
    ]

pub saturated_neg : (base : ℕ) (o : Option ℕ) → literal_result base (option_map (signed true) (saturated o)) ≡ literal_result base (option_map (signed true) o)
saturated_neg base None = refl
saturated_neg base (Some n) =
    elim (cases_lt n (2 ^ 128 - 1)) [
      | inl h ↦ ap (λ k. carried (neg_ℤ (pos k))) (let e : min n (2 ^ 128 - 1) ≡ n = omega arith in e)
      | inr h ↦ wide_neg (min n (2 ^ 128 - 1)) (omega arith) ∙ sym (wide_neg n (omega arith))
    ]

pub saturated_signed : (negative : Bool) (base : ℕ) (o : Option ℕ) → literal_result base (option_map (signed negative) (saturated o)) ≡ literal_result base (option_map (signed negative) o)
saturated_signed true base o = saturated_neg base o
saturated_signed false base o = saturated_pos base o

-- a sign, and a number whose reader may have stopped to count
pub reads_signed : (base : ℕ) (cs : List ℕ) (negative : Bool) (rest : List ℕ) (o : Option ℕ) → (negative, rest) ≡ read_sign cs → o ≡ saturated (unsigned base rest) → literal_result base (option_map (signed negative) o) ≡ literal_result base (literal base cs)
reads_signed base cs negative rest o e f =
    rw (← e, f) (saturated_signed negative base (unsigned base rest))
