-- Powers, by their magnitudes and signs.
use Rattle.std.proofs.Common.{◌≡◌, ◌≢◌, ℕ, zero, suc, ◌*◌, ◌%◌, ◌^◌, ◌<◌, ◌≤◌, Bool, true, false, cond, eqb, ℤ, pos, negsuc, neg_ℤ, ◌*ℤ◌, ◌≤ℤ◌, ◌<ℤ◌, unsigned_abs, FitsSigned, Option, None, Some, Result, Ok, Err, inl, inr, refl, ap, sym, ◌∙◌, arith, pow-suc}
use Rattle.std.specs.Option.{SomeIff}
use Rattle.std.specs.Int.{int_pow, w128}
use Rattle.std.proofs.Math.Nat.{pow-zero, mul_comm, pow-le-pow_left, pow-le-pow_right}
use Rattle.std.proofs.lemmas.Int.{ints}
use Rattle.std.proofs.lemmas.Bool.{cases_Bool, cases_lt, le-leb}
use Rattle.std.proofs.lemmas.Bool.Decides.{nat_tests}
use Rattle.py_base.specs.declared.error.PyError.{PyError}
use Rattle.py_base.specs.declared.error.PyError.TheVariants.{IntTooWide}
use Rattle.py_int.specs.Number.{wide, Carries, Gives}
use Rattle.py_int.specs.Power.{power}

one_pow : (k : ℕ) → 1 ^ k ≡ 1
one_pow zero = pow-zero 1
one_pow (suc k) = pow-suc 1 k ∙ omega (arith, one_pow k)

times_neg : (a p : ℕ) → negsuc a *ℤ neg_ℤ (pos p) ≡ pos (suc a * p)
times_neg a zero = omega (arith, ints)
times_neg a (suc p) = refl

one_more : (a k : ℕ) → suc a * suc a ^ k ≡ suc a ^ suc k
one_more a k = mul_comm (suc a) (suc a ^ k) ∙ sym (pow-suc (suc a) k)

power_pos : (a k : ℕ) → power (pos a) k ≡ pos (a ^ k)
power_pos a zero = ap pos (sym (pow-zero a))
power_pos a (suc k) = ap (λ z. pos a *ℤ z) (power_pos a k) ∙ ap pos (mul_comm a (a ^ k) ∙ sym (pow-suc a k))

power_neg : (a k : ℕ) → power (negsuc a) k ≡ int_pow (negsuc a) k
power_neg a zero = ap pos (sym (pow-zero (suc a)))
power_neg a (suc k) =
    elim (cases_Bool (eqb (k % 2) 0)) [
      | inl t ↦ (
          let s : eqb (suc k % 2) 0 ≡ false = grind (arith, nat_tests) in
          ap (λ z. negsuc a *ℤ z) (power_neg a k) ∙ rw (t, s) (ap (λ n. neg_ℤ (pos n)) (one_more a k))
          )
      | inr f ↦ (
          let s : eqb (suc k % 2) 0 ≡ true = grind (arith, nat_tests) in
          ap (λ z. negsuc a *ℤ z) (power_neg a k) ∙ rw (f, s) (times_neg a (suc a ^ k) ∙ ap pos (one_more a k))
          )
    ]

-- a product is what the machine's power makes
pub power_is : (z : ℤ) (k : ℕ) → power z k ≡ int_pow z k
power_is (pos a) k = power_pos a k
power_is (negsuc a) k = power_neg a k

-- ---- powers of -1, 0 and 1

pub unit_pos : (z : ℤ) (k : ℕ) → pos 0 ≤ℤ z → unsigned_abs z ≤ 1 → k ≢ 0 → z ≡ power z k
unit_pos (pos zero) zero h u n = absurd (n refl)
unit_pos (pos zero) (suc k) h u n = sym (power_pos 0 (suc k) ∙ ap pos (pow-suc 0 k ∙ (let e : 0 ^ k * 0 ≡ 0 = omega arith in e)))
unit_pos (pos (suc zero)) k h u n = sym (power_pos 1 k ∙ ap pos (one_pow k))
unit_pos (pos (suc (suc a))) k h u n = absurd (omega arith)
unit_pos (negsuc a) k h u n = absurd (omega (arith, ints))

pub unit_even : (z : ℤ) (k : ℕ) → z <ℤ pos 0 → unsigned_abs z ≤ 1 → k % 2 ≡ 0 → pos 1 ≡ power z k
unit_even (pos a) k h u e = absurd (omega (arith, ints))
unit_even (negsuc zero) k h u e = sym (power_neg 0 k ∙ rw (e, one_pow k) refl)
unit_even (negsuc (suc a)) k h u e = absurd (omega arith)

pub unit_odd : (z : ℤ) (k : ℕ) → z <ℤ pos 0 → unsigned_abs z ≤ 1 → k % 2 ≢ 0 → negsuc 0 ≡ power z k
unit_odd (pos a) k h u e = absurd (omega (arith, ints))
unit_odd (negsuc zero) k h u e =
    let s : eqb (k % 2) 0 ≡ false = grind (arith, nat_tests) in
    sym (power_neg 0 k ∙ rw (s, one_pow k) refl)
unit_odd (negsuc (suc a)) k h u e = absurd (omega arith)

-- ---- powers that are too wide

large : (a k : ℕ) → 2 ≤ a → 128 ≤ k → 2 ^ 128 ≤ a ^ k
large a k h l = omega (arith, pow-le-pow_right {n = 2} (omega arith) l, pow-le-pow_left h k)

wide_sized : (b : Bool) (n : ℕ) → 2 ^ 128 ≤ n → wide (cond b (pos n) (neg_ℤ (pos n))) ≡ true
wide_sized true n h = grind (arith, nat_tests)
wide_sized false zero h = absurd (omega arith)
wide_sized false (suc n) h = grind (arith, nat_tests)

wide_int_pow : (z : ℤ) (k : ℕ) → 2 ≤ unsigned_abs z → 128 ≤ k → wide (int_pow z k) ≡ true
wide_int_pow (pos a) k h l = wide_sized true (a ^ k) (large a k h l)
wide_int_pow (negsuc a) k h l = wide_sized (eqb (k % 2) 0) (suc a ^ k) (large (suc a) k h l)

pub refused_power : (z e : ℤ) → 1 < unsigned_abs z → pos 127 <ℤ e → Carries (power z (unsigned_abs e)) (Err IntTooWide)
refused_power z (pos k) h l =
    rw (power_is z k, wide_int_pow z k h (omega (arith, ints))) refl
refused_power z (negsuc k) h l = absurd (omega (arith, ints))

-- what a checked operation gives is the number, or the error
narrow_fits : (z : ℤ) → FitsSigned w128 z → wide z ≡ false
narrow_fits (pos n) f = let g : n < 2 ^ 127 = f.sfits in grind (arith, nat_tests)
narrow_fits (negsuc n) f = let g : n < 2 ^ 127 = f.sfits in grind (arith, nat_tests)

wide_unfit : (z : ℤ) → ¬ FitsSigned w128 z → wide z ≡ true
wide_unfit (pos n) f = elim (cases_lt n (2 ^ 127)) [ inl h ↦ absurd (f (record { sfits = h })) | inr h ↦ le-leb (2 ^ 127) n h ]
wide_unfit (negsuc n) f = elim (cases_lt n (2 ^ 127)) [ inl h ↦ absurd (f (record { sfits = h })) | inr h ↦ le-leb (2 ^ 127) n h ]

pub carried_by : (z : ℤ) (o : Option ℤ) (r : Result ℤ PyError) → SomeIff o (FitsSigned w128 z) z → Gives o r → Carries z r
carried_by z None r s g = g ∙ rw (wide_unfit z s) refl
carried_by z (Some y) r s g = g ∙ ap Ok s.1 ∙ rw (narrow_fits z s.0) refl
