-- Residues of products and powers.
use Rattle.std.proofs.Common.{◌≡◌, ◌≢◌, ℕ, zero, suc, ◌+◌, ◌-◌, ◌*◌, ◌/◌, ◌%◌, ◌^◌, ◌<◌, ℤ, pos, negsuc, neg_ℤ, ◌*ℤ◌, unsigned_abs, ◌⊎◌, inl, inr, refl, ap, sym, ◌∙◌, arith, pow-suc}
use Rattle.std.proofs.Math.Nat.{pow-zero, mul_comm, div-add-mod, mod-eq_of_lt}
use Rattle.std.proofs.lemmas.Nat.{mul-mod, mul-mod_second, mod-mul-add, mod_below, pow-mod}
use Rattle.py_int.specs.Divide.{floor_mod}
use Rattle.py_int.specs.Residue.{residue, toward}
use Rattle.py_int.specs.Power.{power, IsInverse, IsInversePower}
use Rattle.py_int.proofs.DivideLemmas.{floor_mod-is, residue_below, toward_zero, toward_more, nonzero-abs}

-- a number that is not negative and leaves the same residue by m: -1 is as good as m - 1
abbrev lifted : ℤ → ℕ → ℕ
lifted (pos a) m = a
lifted (negsuc a) m = suc a * (m - 1)

-- (a + 1) * k by k + 1
lifted_rest : (a k q r : ℕ) → a ≡ q * suc k + r → r < suc k → suc a * k ≡ (a - q) * suc k + (k - r)
lifted_rest a k q r e h =
    let d : a ≡ q + (a - q) = omega arith in
    let s : a - q ≡ q * k + r = omega arith in
    omega (arith, ap (λ n. n * k) d, ap (λ n. n * k) s)

residue_lifted : (z : ℤ) (m : ℕ) → 0 < m → residue z m ≡ lifted z m % m
residue_lifted (pos a) m p = refl
residue_lifted (negsuc a) zero p = absurd (omega arith)
residue_lifted (negsuc a) (suc k) p =
    let r = a % suc k in
    let e : a ≡ a / suc k * suc k + a % suc k = omega (arith, div-add-mod a (suc k)) in
    let s : suc a * k ≡ (a - a / suc k) * suc k + (k - a % suc k) = lifted_rest a k (a / suc k) (a % suc k) e (mod_below a (suc k) p) in
    let t : suc k - 1 ≡ k = omega arith in
    rw t (sym (ap (λ n. n % suc k) s ∙ mod-mul-add (a - a / suc k) (suc k) (k - a % suc k) (omega arith)))

lifted_neg : (c m : ℕ) → lifted (neg_ℤ (pos c)) m ≡ c * (m - 1)
lifted_neg zero m = omega arith
lifted_neg (suc c) m = refl

square : (k : ℕ) → k * k % suc k ≡ 1 % suc k
square zero = refl
square (suc j) =
    let e : suc j * suc j ≡ j * suc (suc j) + 1 = omega arith in
    ap (λ n. n % suc (suc j)) e ∙ mod-mul-add j (suc (suc j)) 1 (omega arith) ∙ sym (mod-eq_of_lt (let l : 1 < suc (suc j) = omega arith in l))

lifted_product : (x y : ℤ) (m : ℕ) → 0 < m → lifted (x *ℤ y) m % m ≡ (lifted x m * lifted y m) % m
lifted_product (pos a) (pos b) m p = refl
lifted_product (pos a) (negsuc b) m p = ap (λ n. n % m) (lifted_neg (a * suc b) m ∙ omega arith)
lifted_product (negsuc a) (pos b) m p = ap (λ n. n % m) (lifted_neg (suc a * b) m ∙ omega arith)
lifted_product (negsuc a) (negsuc b) zero p = absurd (omega arith)
lifted_product (negsuc a) (negsuc b) (suc k) p =
    let t : suc k - 1 ≡ k = omega arith in
    let e : (suc a * suc b) * (k * k) ≡ (suc a * k) * (suc b * k) = omega arith in
    rw t (ap (λ n. n % suc k) (let o : suc a * suc b ≡ (suc a * suc b) * 1 = omega arith in o) ∙ sym (mul-mod_second (suc a * suc b) 1 (suc k)) ∙ ap (λ n. (suc a * suc b) * n % suc k) (sym (square k)) ∙ mul-mod_second (suc a * suc b) (k * k) (suc k) ∙ ap (λ n. n % suc k) e)

pub residue_product : (x y : ℤ) (m : ℕ) → 0 < m → residue (x *ℤ y) m ≡ (residue x m * residue y m) % m
residue_product x y m p =
    residue_lifted (x *ℤ y) m p ∙ lifted_product x y m p ∙ mul-mod (lifted x m) (lifted y m) m ∙ rw (residue_lifted x m p, residue_lifted y m p) refl

pub residue_power : (z : ℤ) (k m : ℕ) → 0 < m → residue (power z k) m ≡ (residue z m) ^ k % m
residue_power z zero m p = ap (λ n. n % m) (sym (pow-zero (residue z m)))
residue_power z (suc k) m p =
    residue_product z (power z k) m p ∙ ap (λ n. (residue z m * n) % m) (residue_power z k m p) ∙ mul-mod_second (residue z m) ((residue z m) ^ k) m ∙ ap (λ n. n % m) (mul_comm (residue z m) ((residue z m) ^ k) ∙ sym (pow-suc (residue z m) k))

-- the remainder of a power, from the residue of its base
pub power_rest : (z b : ℤ) (k r : ℕ) → b ≢ pos 0 → r ≡ (residue z (unsigned_abs b)) ^ k % unsigned_abs b → toward r b ≡ floor_mod (power z k) b
power_rest z b k r n e =
    ap (λ v. toward v b) (e ∙ sym (residue_power z k (unsigned_abs b) (nonzero-abs b n))) ∙ sym (floor_mod-is (power z k) b n)

-- ---- inverses

zero_or_more : (n : ℕ) → (n ≡ 0) ⊎ (0 < n)
zero_or_more zero = inl refl
zero_or_more (suc n) = inr (omega arith)

toward_same : (r s : ℕ) (b : ℤ) → r < unsigned_abs b → s < unsigned_abs b → toward r b ≡ toward s b → r ≡ s
toward_same r s (pos b) h k e = ap unsigned_abs e
toward_same r s (negsuc b) h k e =
    elim (zero_or_more r) [
      | inl i ↦ elim (zero_or_more s) [
        | inl j ↦ i ∙ sym j
        | inr j ↦ absurd (let f : pos 0 ≡ negsuc (b - s) = sym (toward_zero r b i) ∙ e ∙ toward_more s b j in cc)
      ]
      | inr i ↦ elim (zero_or_more s) [
        | inl j ↦ absurd (let f : negsuc (b - r) ≡ pos 0 = sym (toward_more r b i) ∙ e ∙ toward_zero s b j in cc)
        | inr j ↦ (
            let f : negsuc (b - r) ≡ negsuc (b - s) = sym (toward_more r b i) ∙ e ∙ toward_more s b j in
            let g : suc (b - r) ≡ suc (b - s) = ap unsigned_abs f in
            omega arith
            )
      ]
    ]

-- i times z leaves what 1 leaves
is_inverse : (z b : ℤ) (i : ℕ) → b ≢ pos 0 → (residue z (unsigned_abs b) * i) % unsigned_abs b ≡ 1 % unsigned_abs b → IsInverse b z (pos i)
is_inverse z b i n e =
    let m = unsigned_abs b in
    let p = nonzero-abs b n in
    floor_mod-is (z *ℤ pos i) b n ∙ ap (λ r. toward r b) (residue_product z (pos i) m p ∙ mul-mod_second (residue z m) i m ∙ e) ∙ sym (floor_mod-is (pos 1) b n)

pub inverse_power : (z b : ℤ) (i k r : ℕ) → b ≢ pos 0 → (residue z (unsigned_abs b) * i) % unsigned_abs b ≡ 1 % unsigned_abs b → r ≡ i ^ k % unsigned_abs b → IsInversePower b z k (toward r b)
inverse_power z b i k r n e f =
    (pos i, is_inverse z b i n e, power_rest (pos i) b k r n (f ∙ sym (pow-mod i k (unsigned_abs b))))

pub has_inverse : (z b : ℤ) (i : ℕ) → b ≢ pos 0 → (residue z (unsigned_abs b) * i) % unsigned_abs b ≡ 1 % unsigned_abs b → ((j : ℤ) → ¬ IsInverse b z j) → ⊥
has_inverse z b i n e nowhere = nowhere (pos i) (is_inverse z b i n e)

pub no_inverse : (z b : ℤ) → b ≢ pos 0 → ((i : ℕ) → (residue z (unsigned_abs b) * i) % unsigned_abs b ≢ 1 % unsigned_abs b) → (j : ℤ) → ¬ IsInverse b z j
no_inverse z b n nowhere j h =
    let m = unsigned_abs b in
    let p = nonzero-abs b n in
    let e : toward (residue (z *ℤ j) m) b ≡ toward (1 % m) b = sym (floor_mod-is (z *ℤ j) b n) ∙ h ∙ floor_mod-is (pos 1) b n in
    let f = toward_same (residue (z *ℤ j) m) (1 % m) b (residue_below (z *ℤ j) m p) (mod_below 1 m p) e in
    nowhere (residue j m) (sym (residue_product z j m p) ∙ f)
