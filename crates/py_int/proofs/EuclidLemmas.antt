-- Euclid's division of a modulus and a number, with what it says of inverses.
use Rattle.std.proofs.Common.{◌≡◌, ◌≢◌, ℕ, zero, suc, ◌+◌, ◌-◌, ◌*◌, ◌/◌, ◌%◌, ◌<◌, ◌≤◌, Bool, true, false, not, MatchBool, ap, sym, ◌∙◌, arith}
use Rattle.std.specs.Int.{IsGcd, ◌∣◌}
use Rattle.std.proofs.Math.Nat.{div-add-mod, mul-mod_right, add-mul-mod_self_right, mod-eq_of_lt}
use Rattle.std.proofs.lemmas.Nat.Gcd.{IsGcd-from_mod, IsGcd-from_zero, mod-eq-zero_of_dvd, le_of_dvd}
use Rattle.std.proofs.lemmas.Nat.{mul-mod_second}

-- the two rests as multiples of a, but for multiples of m: before an even count of steps the first one is taken off
pub record Even (m a before rest old new : ℕ) : Type 0 where
  pub old_times : ℕ
  pub new_times : ℕ
  pub old_is : old * a + before ≡ old_times * m
  pub new_is : new * a ≡ rest + new_times * m

-- and before an odd count the second
pub record Odd (m a before rest old new : ℕ) : Type 0 where
  pub old_times : ℕ
  pub new_times : ℕ
  pub old_is : old * a ≡ before + old_times * m
  pub new_is : new * a + rest ≡ new_times * m

pub record State (m a before rest old new : ℕ) (odd : Bool) : Type 0 where
  pub some : 0 < before
  pub old_small : old ≤ m
  pub crossed : before * new + rest * old ≡ m
  pub divisor : (g : ℕ) → IsGcd before rest g → IsGcd m a g
  pub turn : MatchBool odd (Odd m a before rest old new) (Even m a before rest old new)

pub start : (m a : ℕ) → a < m → State m a m a 0 1 false
start m a h = record {
  some = omega arith;
  old_small = omega arith;
  crossed = omega arith;
  divisor = λ g d. d;
  turn = record { old_times = 1; new_times = 0; old_is = omega arith; new_is = omega arith };
}

from_even : (m a b r o n q : ℕ) → Even m a b r o n → q * r ≤ b → Odd m a r (b - q * r) n (o + q * n)
from_even m a b r o n q e h = record {
  old_times = e.new_times;
  new_times = e.old_times + q * e.new_times;
  old_is = e.new_is;
  new_is = omega (arith, e.old_is, ap (λ x. q * x) e.new_is);
}

from_odd : (m a b r o n q : ℕ) → Odd m a b r o n → q * r ≤ b → Even m a r (b - q * r) n (o + q * n)
from_odd m a b r o n q e h = record {
  old_times = e.new_times;
  new_times = e.old_times + q * e.new_times;
  old_is = e.new_is;
  new_is = omega (arith, e.old_is, ap (λ x. q * x) e.new_is);
}

turned : (odd : Bool) (m a b r o n q : ℕ) → q * r ≤ b → MatchBool odd (Odd m a b r o n) (Even m a b r o n) → MatchBool (not odd) (Odd m a r (b - q * r) n (o + q * n)) (Even m a r (b - q * r) n (o + q * n))
turned true m a b r o n q h t = from_odd m a b r o n q t h
turned false m a b r o n q h t = from_even m a b r o n q t h

crossed_more : (b r o n q : ℕ) → q * r ≤ b → r * (o + q * n) + (b - q * r) * n ≡ b * n + r * o
crossed_more b r o n q h =
    let d : b ≡ q * r + (b - q * r) = omega arith in
    omega (arith, ap (λ x. x * n) d)

no_more : (b n m : ℕ) → b * n ≤ m → 0 < b → n ≤ m
no_more zero n m h p = absurd (omega arith)
no_more (suc b) n m h p = omega arith

pub step : (m a b r o n : ℕ) (odd : Bool) → State m a b r o n odd → 0 < r → State m a r (b - b / r * r) n (o + b / r * n) (not odd)
step m a b r o n odd s p =
    let h : b / r * r ≤ b = omega (arith, div-add-mod b r) in
    let e : b % r ≡ b - b / r * r = omega (arith, div-add-mod b r) in
    record {
      some = p;
      old_small = no_more b n m (omega (arith, s.crossed)) s.some;
      crossed = crossed_more b r o n (b / r) h ∙ s.crossed;
      divisor = λ g d. s.divisor g (IsGcd-from_mod b r g (rw e d));
      turn = turned odd m a b r o n (b / r) h s.turn;
    }

-- at the end the first rest divides both
pub common : (m a b r o n : ℕ) (odd : Bool) → State m a b r o n odd → r ≡ 0 → IsGcd m a b
common m a b r o n odd s e = s.divisor b (IsGcd-from_zero b r e)

-- a multiple of g that is one more than a multiple of g
apart : (g u v : ℕ) → 2 ≤ g → g * u ≡ 1 + v * g → ⊥
apart g u v h e =
    let z : g * u % g ≡ 0 = mul-mod_right g u in
    let o : (1 + v * g) % g ≡ 1 = add-mul-mod_self_right 1 v g ∙ mod-eq_of_lt (let l : 1 < g = omega arith in l) in
    let s : g * u % g ≡ (1 + v * g) % g = ap (λ x. x % g) e in
    omega arith

times_of : (g n : ℕ) → g ∣ n → n ≡ g * (n / g)
times_of g n d = omega (arith, div-add-mod n g, mod-eq-zero_of_dvd g d)

-- no inverse where there is a common divisor past 1
pub none_by : (m a g : ℕ) → g ∣ m → g ∣ a → 2 ≤ g → a < m → (i : ℕ) → (a * i) % m ≢ 1 % m
none_by m a g x y l p i e =
    let some : 0 < m = omega arith in
    let two : 2 ≤ m = omega (arith, le_of_dvd some x) in
    let o : 1 % m ≡ 1 = mod-eq_of_lt two in
    let w : a * i ≡ m * (a * i / m) + 1 = omega (arith, div-add-mod (a * i) m) in
    let q = a * i / m in
    let s : a * i ≡ g * (a / g) * i = ap (λ n. n * i) (times_of g a y) in
    let t : m * q ≡ g * (m / g) * q = ap (λ n. n * q) (times_of g m x) in
    apart g (a / g * i) (m / g * (a * i / m)) l (omega arith)

pub nowhere : (m a b r o n : ℕ) (odd : Bool) → State m a b r o n odd → r ≡ 0 → b ≢ 1 → a < m → (i : ℕ) → (a * i) % m ≢ 1 % m
nowhere m a b r o n odd s e h p =
    let some : 0 < b = s.some in
    let d : IsGcd m a b = common m a b r o n odd s e in
    none_by m a b d.0 d.1 (omega arith) p

pub found_odd : (m a b r o n : ℕ) → State m a b r o n true → b ≡ 1 → (a * (o % m)) % m ≡ 1 % m
found_odd m a b r o n s e =
    let t : Odd m a b r o n = s.turn in
    let f : a * o ≡ 1 + t.old_times * m = omega (arith, t.old_is) in
    mul-mod_second a o m ∙ ap (λ x. x % m) f ∙ add-mul-mod_self_right 1 t.old_times m

pub found_even : (m a b r o n : ℕ) → State m a b r o n false → b ≡ 1 → (a * ((m - o) % m)) % m ≡ 1 % m
found_even m a b r o n s e =
    let t : Even m a b r o n = s.turn in
    let d : m ≡ o + (m - o) = omega (arith, s.old_small) in
    let f : a * (m - o) + t.old_times * m ≡ 1 + a * m = omega (arith, t.old_is, ap (λ x. a * x) d) in
    mul-mod_second a (m - o) m ∙ sym (add-mul-mod_self_right (a * (m - o)) t.old_times m) ∙ ap (λ x. x % m) f ∙ add-mul-mod_self_right 1 a m
