-- Numbers that bytes spell, digit by digit.
use Rattle.std.proofs.Common.{◌≡◌, ℕ, zero, suc, ◌+◌, ◌-◌, ◌*◌, ◌^◌, ◌<◌, ◌≤◌, Bool, true, false, nat_lt, nat_le, List, [], ◌∷◌, ◌++◌, length, take, drop, reverse, map, get_or, ℤ, pos, negsuc, FitsSigned, Ok, Err, refl, ap, ◌∙◌, arith, pow-suc, cond}
use Rattle.std.specs.Int.Digits.{number_from_digits, number_from_digits_after, AllBelowBase}
use Rattle.std.specs.Int.{complement_if, w128}
use Rattle.std.specs.Int.Signed.{le_z}
use Rattle.std.proofs.Math.Nat.{pow-zero, pow-le-pow_right}
use Rattle.std.proofs.lemmas.Int.{ints}
use Rattle.std.proofs.lemmas.Int.Digits.{number_more, number_after_append, number_after_ge, number_lt}
use Rattle.std.proofs.lemmas.List.{length-reverse, length-map, take-append-drop, get_or-reverse}
use Rattle.std.proofs.lemmas.Bool.Decides.{nat_tests}
use Rattle.py_base.specs.declared.error.PyError.TheVariants.{IntTooWide}
use Rattle.py_int.specs.Number.{wide, Carries}
use Rattle.py_int.specs.declared.bytes.ArgByteOrder.{ArgByteOrder}
use Rattle.py_int.specs.declared.bytes.ArgByteOrder.TheVariants.{Big, Little}
use Rattle.py_int.specs.Divide.{floor_of}
use Rattle.py_int.specs.Bytes.{in_order, number_of, complemented, is_high, digits_if, low_bytes, low_byte, holds}

mul-le : (a b n : ℕ) → b ≤ a → b * n ≤ a * n
mul-le a b n h = let e : b + (a - b) ≡ a = omega arith in omega (arith, ap (λ m. m * n) e)

pub length_in_order : (order : ArgByteOrder) (bs : List ℕ) → length (in_order order bs) ≡ length bs
length_in_order Big bs = refl
length_in_order Little bs = length-reverse bs

pub length_digits : (turned : Bool) (bs : List ℕ) → length (digits_if turned bs) ≡ length bs
length_digits false bs = refl
length_digits true bs = length-map bs (λ b. 255 - b)

-- more digits make no smaller number
grows : (ds : List ℕ) (i : ℕ) → number_from_digits 256 (take i ds) ≤ number_from_digits 256 ds
grows ds i =
    let e : number_from_digits 256 (take i ds ++ drop i ds) ≡ number_from_digits 256 ds = ap (number_from_digits 256) (take-append-drop i ds) in
    let s : number_from_digits 256 (take i ds ++ drop i ds) ≡ number_from_digits_after 256 (number_from_digits 256 (take i ds)) (drop i ds) = number_after_append 256 0 (take i ds) (drop i ds) in
    omega (arith, number_after_ge 256 (number_from_digits 256 (take i ds)) (drop i ds) (omega arith))

-- from 2^119 on one more digit is too many
pub too_big : (ds : List ℕ) (i n : ℕ) → i < length ds → n ≡ number_from_digits 256 (take i ds) → 2 ^ 119 ≤ n → 2 ^ 127 ≤ number_from_digits 256 ds
too_big ds i n l e h =
    let m = number_more 256 ds i l in
    omega (arith, grows ds (i + 1))

pub digit_here : (turned : Bool) (bs : List ℕ) (i : ℕ) → i < length bs → get_or (digits_if turned bs) i 0 ≡ cond turned (255 - get_or bs i 0) (get_or bs i 0)
digit_here false bs i h = refl
digit_here true (b ∷ bs) zero h = refl
digit_here true [] i h = absurd (omega arith)
digit_here true (b ∷ bs) (suc i) h = digit_here true bs i (omega arith)

pub low_bytes_step : (n i : ℕ) (z : ℤ) → i < n → low_bytes (n - i) z ≡ low_byte z ∷ low_bytes (n - (i + 1)) (floor_of z 256)
low_bytes_step n i z h = ap (λ k. low_bytes k z) (let e : n - i ≡ suc (n - (i + 1)) = omega arith in e)

pub bytes_of_reversed : (bs : List ℕ) → ((i : ℕ) → get_or bs i 0 < 256) → (i : ℕ) → i < length (reverse bs) → get_or (reverse bs) i 0 < 256
bytes_of_reversed bs h i l =
    let n : i < length bs = omega (arith, length-reverse bs) in
    omega (arith, get_or-reverse bs i 0 n, h (length bs - 1 - i))

below_by_place : (bs : List ℕ) → ((i : ℕ) → i < length bs → get_or bs i 0 < 256) → AllBelowBase 256 bs
below_by_place [] h = tt
below_by_place (b ∷ bs) h = (h 0 (omega arith), below_by_place bs (λ i l. h (suc i) (omega arith)))

pub below_in_order : (order : ArgByteOrder) (bs : List ℕ) → ((i : ℕ) → get_or bs i 0 < 256) → AllBelowBase 256 (in_order order bs)
below_in_order Big bs h = below_by_place bs (λ i l. h i)
below_in_order Little bs h = below_by_place (reverse bs) (bytes_of_reversed bs h)

after_is : (n : ℕ) (ds : List ℕ) → number_from_digits_after 256 n ds ≡ n * 256 ^ length ds + number_from_digits 256 ds
after_is n [] = let p : 256 ^ 0 ≡ 1 = pow-zero 256 in omega arith
after_is n (d ∷ ds) =
    let p : 256 ^ suc (length ds) ≡ 256 ^ length ds * 256 = pow-suc 256 (length ds) in
    let e : number_from_digits_after 256 (n * 256 + d) ds ≡ (n * 256 + d) * 256 ^ length ds + number_from_digits 256 ds = after_is (n * 256 + d) ds in
    let f : number_from_digits_after 256 (0 * 256 + d) ds ≡ (0 * 256 + d) * 256 ^ length ds + number_from_digits 256 ds = after_is (0 * 256 + d) ds in
    let g : number_from_digits_after 256 (n * 256 + d) ds ≡ n * (256 ^ length ds * 256) + number_from_digits_after 256 (0 * 256 + d) ds = omega arith in
    rw p g

first_is : (d : ℕ) (ds : List ℕ) → number_from_digits 256 (d ∷ ds) ≡ d * 256 ^ length ds + number_from_digits 256 ds
first_is d ds = omega (arith, after_is (0 * 256 + d) ds)

-- a number and the one of its digits turned round are all the digits 255
turned_sum : (bs : List ℕ) → AllBelowBase 256 bs → number_from_digits 256 bs + number_from_digits 256 (map (λ b. 255 - b) bs) + 1 ≡ 256 ^ length bs
turned_sum [] h = let p : 256 ^ 0 ≡ 1 = pow-zero 256 in omega arith
turned_sum (b ∷ bs) h =
    let p : 256 ^ suc (length bs) ≡ 256 ^ length bs * 256 = pow-suc 256 (length bs) in
    let l : length (map (λ c. 255 - c) bs) ≡ length bs = length-map bs (λ c. 255 - c) in
    let s : (b + (255 - b)) * 256 ^ length bs ≡ 255 * 256 ^ length bs = ap (λ n. n * 256 ^ length bs) (let e : b + (255 - b) ≡ 255 = omega (arith, h.0) in e) in
    let f : number_from_digits 256 ((255 - b) ∷ map (λ c. 255 - c) bs) ≡ (255 - b) * 256 ^ length bs + number_from_digits 256 (map (λ c. 255 - c) bs) = first_is (255 - b) (map (λ c. 255 - c) bs) ∙ ap (λ n. (255 - b) * 256 ^ n + number_from_digits 256 (map (λ c. 255 - c) bs)) l in
    omega (arith, first_is b bs, turned_sum bs h.1)

pub high_spells : (m n c : ℕ) → n + c + 1 ≡ m → m ≤ 2 * n → complemented m n ≡ negsuc c
high_spells m n c e h =
    let t : nat_lt (2 * n) m ≡ false = grind (arith, nat_tests) in
    rw t (omega (arith, ints))

pub low_spells : (m n : ℕ) → 2 * n < m → complemented m n ≡ pos n
low_spells m n h = let t : nat_lt (2 * n) m ≡ true = grind (arith, nat_tests) in rw t refl

signed_spells : (high : Bool) (b : ℕ) (bs : List ℕ) → AllBelowBase 256 (b ∷ bs) → nat_le 128 b ≡ high → number_of true (b ∷ bs) ≡ complement_if high (number_from_digits 256 (digits_if high (b ∷ bs)))
signed_spells true b bs h t =
    let g : 128 ≤ b = grind (arith, nat_tests) in
    let p : 256 ^ suc (length bs) ≡ 256 ^ length bs * 256 = pow-suc 256 (length bs) in
    let u : 128 * 256 ^ length bs ≤ b * 256 ^ length bs = mul-le b 128 (256 ^ length bs) g in
    high_spells (256 ^ suc (length bs)) (number_from_digits 256 (b ∷ bs)) (number_from_digits 256 (map (λ c. 255 - c) (b ∷ bs))) (turned_sum (b ∷ bs) h) (omega (arith, first_is b bs))
signed_spells false b bs h t =
    let g : b ≤ 127 = grind (arith, nat_tests) in
    let p : 256 ^ suc (length bs) ≡ 256 ^ length bs * 256 = pow-suc 256 (length bs) in
    let u : b * 256 ^ length bs ≤ 127 * 256 ^ length bs = mul-le 127 b (256 ^ length bs) g in
    low_spells (256 ^ suc (length bs)) (number_from_digits 256 (b ∷ bs)) (omega (arith, first_is b bs, number_lt 256 bs h.1))

-- what bytes spell, from digits that are turned round where the number is negative
pub spells : (signed : Bool) (bs : List ℕ) → AllBelowBase 256 bs → number_of signed bs ≡ complement_if (is_high signed bs) (number_from_digits 256 (digits_if (is_high signed bs) bs))
spells false bs h = refl
spells true [] h = refl
spells true (b ∷ bs) h = signed_spells (nat_le 128 b) b bs h refl

pub place_within : (turned : Bool) (order : ArgByteOrder) (bs : List ℕ) (i : ℕ) → i < length bs → i < length (digits_if turned (in_order order bs))
place_within turned order bs i h = omega (arith, length_digits turned (in_order order bs), length_in_order order bs)

-- 16 bytes hold every number of 128 bits, but for negative ones without a sign
pub held_signed : (k : ℕ) (z : ℤ) → FitsSigned w128 z → 16 ≤ k → true ≡ holds true k z
held_signed k (pos n) f h =
    let g : n < 2 ^ 127 = f.sfits in
    let p : 256 ^ 16 ≤ 256 ^ k = pow-le-pow_right (omega arith) h in
    grind (arith, nat_tests)
held_signed k (negsuc n) f h =
    let g : n < 2 ^ 127 = f.sfits in
    let p : 256 ^ 16 ≤ 256 ^ k = pow-le-pow_right (omega arith) h in
    grind (arith, nat_tests)

pub held_unsigned : (k : ℕ) (z : ℤ) → FitsSigned w128 z → 16 ≤ k → le_z (pos 0) z ≡ holds false k z
held_unsigned k (pos n) f h =
    let g : n < 2 ^ 127 = f.sfits in
    let p : 256 ^ 16 ≤ 256 ^ k = pow-le-pow_right (omega arith) h in
    let t : nat_lt n (256 ^ k) ≡ true = grind (arith, nat_tests) in
    let u : nat_le 0 n ≡ true = grind (arith, nat_tests) in
    rw (t, u) refl
held_unsigned k (negsuc n) f h = refl

wide_complement : (high : Bool) (n : ℕ) → 2 ^ 127 ≤ n → wide (complement_if high n) ≡ true
wide_complement true n h = grind (arith, nat_tests)
wide_complement false n h = grind (arith, nat_tests)

narrow_complement : (high : Bool) (n : ℕ) → n < 2 ^ 127 → wide (complement_if high n) ≡ false
narrow_complement true n h = grind (arith, nat_tests)
narrow_complement false n h = grind (arith, nat_tests)

pub refused_bytes : (signed : Bool) (bs : List ℕ) → AllBelowBase 256 bs → 2 ^ 127 ≤ number_from_digits 256 (digits_if (is_high signed bs) bs) → Carries (number_of signed bs) (Err IntTooWide)
refused_bytes signed bs h w =
    rw (spells signed bs h, wide_complement (is_high signed bs) (number_from_digits 256 (digits_if (is_high signed bs) bs)) w) refl

pub taken_bytes : (signed : Bool) (bs : List ℕ) → AllBelowBase 256 bs → number_from_digits 256 (digits_if (is_high signed bs) bs) < 2 ^ 127 → Carries (number_of signed bs) (Ok (complement_if (is_high signed bs) (number_from_digits 256 (digits_if (is_high signed bs) bs))))
taken_bytes signed bs h w =
    rw (spells signed bs h, narrow_complement (is_high signed bs) (number_from_digits 256 (digits_if (is_high signed bs) bs)) w) refl
