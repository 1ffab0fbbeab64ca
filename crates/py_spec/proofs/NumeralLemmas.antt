-- The digits of a number, written from the last to the first.
use Rattle.std.proofs.Common.{◌≡◌, ◌∙◌, ◌==◌, ℕ, zero, suc, ◌+◌, ◌-◌, ◌*◌, ◌/◌, ◌%◌, ◌^◌, ◌≤◌, ◌<◌, Bool, true, false, if◌then◌else◌, nat_lt, ◌&&◌, List, [], ◌∷◌, length, drop, sym, ap, subst, refl, arith}
use Rattle.std.proofs.Math.Nat.{mod-lt, div-add-mod', mod-eq_of_lt, div-eq_of_lt, mul-le-mul_left, pow-suc, pow-zero}
use Rattle.std.proofs.lemmas.Nat.{div_below}
use Rattle.std.proofs.lemmas.List.{drop-set, drop_all}
use Rattle.std.specs.Prelude.{set}
use Rattle.std.specs.Fmt.{digits, digits_onto, digit_glyph}
use Rattle.std.proofs.lemmas.Bool.Decides.{nat_tests}
use Rattle.py_text.specs.Text.{all_ascii}
use Rattle.py_spec.specs.declared.percent.parts.CNumberType.{CNumberType}
use Rattle.py_spec.specs.declared.percent.parts.CNumberType.TheVariants.{Decimal, Octal, Hex, HexUpper}
use Rattle.py_spec.specs.Percent.Writing.{digits_of}

pub onto_all : (base : ℕ) (upper : Bool) (n : ℕ) → digits_onto 64 base upper n [] ≡ digits base upper n
unfolding digits
onto_all base upper n = refl

onto_by : (k base : ℕ) (upper : Bool) (n : ℕ) (acc : List ℕ) (b : Bool) → (n / base == 0) ≡ b → digits_onto (suc k) base upper n acc ≡ (if b then digit_glyph upper (n % base) ∷ acc else digits_onto k base upper (n / base) (digit_glyph upper (n % base) ∷ acc))
onto_by k base upper n acc b e = ap (λ (b : Bool). if b then digit_glyph upper (n % base) ∷ acc else digits_onto k base upper (n / base) (digit_glyph upper (n % base) ∷ acc)) e

not_zero : (n : ℕ) → 0 < n → (n == 0) ≡ false
not_zero n h = grind (arith, nat_tests)

is_zero : (n : ℕ) → n ≡ 0 → (n == 0) ≡ true
is_zero n h = grind (arith, nat_tests)

-- one digit more, where more are left
pub onto_more : (at base : ℕ) (upper : Bool) (n : ℕ) (acc : List ℕ) → 0 < at → 0 < n / base → digits_onto at base upper n acc ≡ digits_onto (at - 1) base upper (n / base) (digit_glyph upper (n % base) ∷ acc)
onto_more zero base upper n acc h d = absurd (omega (arith, h))
onto_more (suc k) base upper n acc h d = onto_by k base upper n acc false (not_zero (n / base) d) ∙ ap (λ (j : ℕ). digits_onto j base upper (n / base) (digit_glyph upper (n % base) ∷ acc)) {x = k} {y = suc k - 1} (omega arith)

-- the last digit to be written
pub onto_last : (at base : ℕ) (upper : Bool) (n : ℕ) (acc : List ℕ) → 0 < at → n / base ≡ 0 → digits_onto at base upper n acc ≡ digit_glyph upper (n % base) ∷ acc
onto_last zero base upper n acc h d = absurd (omega (arith, h))
onto_last (suc k) base upper n acc h d = onto_by k base upper n acc true (is_zero (n / base) d)

-- the digits are ASCII
glyph_small : (upper : Bool) (d : ℕ) → d < 16 → digit_glyph upper d < 128
glyph_small upper d h = by_tests (nat_lt d 10) upper where
  by_tests : (a b : Bool) → (if a then 48 + d else (if b then 55 + d else 87 + d)) < 128
  by_tests true b = omega (arith, h)
  by_tests false true = omega (arith, h)
  by_tests false false = omega (arith, h)

glyph_ascii : (upper : Bool) (d : ℕ) (acc : List ℕ) → d < 16 → all_ascii acc ≡ true → all_ascii (digit_glyph upper d ∷ acc) ≡ true
glyph_ascii upper d acc h a =
    let small : nat_lt (digit_glyph upper d) 128 ≡ true = grind (arith, nat_tests, glyph_small upper d h) in
    ap (λ (b : Bool). b && all_ascii acc) small ∙ a

onto_step : (k base : ℕ) (upper : Bool) (n : ℕ) (acc : List ℕ) (t : Bool) → all_ascii acc ≡ true → all_ascii (digits_onto k base upper n acc) ≡ true → all_ascii (if t then acc else digits_onto k base upper n acc) ≡ true
onto_step k base upper n acc true a more = a
onto_step k base upper n acc false a more = more

onto_ascii : (k base : ℕ) (upper : Bool) (n : ℕ) (acc : List ℕ) → 0 < base → base ≤ 16 → all_ascii acc ≡ true → all_ascii (digits_onto k base upper n acc) ≡ true
onto_ascii zero base upper n acc p b a = a
onto_ascii (suc k) base upper n acc p b a =
    let acc₁ : List ℕ = digit_glyph upper (n % base) ∷ acc in
    let one : all_ascii acc₁ ≡ true = glyph_ascii upper (n % base) acc (omega (arith, mod-lt n p, b)) a in
    onto_step k base upper (n / base) acc₁ (n / base == 0) one (onto_ascii k base upper (n / base) acc₁ p b one)

base_ascii : (base : ℕ) (upper : Bool) (n : ℕ) → 0 < base → base ≤ 16 → all_ascii (digits base upper n) ≡ true
base_ascii base upper n p b = ap all_ascii (sym (onto_all base upper n)) ∙ onto_ascii 64 base upper n [] p b refl

pub digits_ascii : (kind : CNumberType) (n : ℕ) → all_ascii (digits_of kind n) ≡ true
digits_ascii Decimal n = base_ascii 10 false n (omega arith) (omega arith)
digits_ascii Octal n = base_ascii 8 false n (omega arith) (omega arith)
digits_ascii Hex n = base_ascii 16 false n (omega arith) (omega arith)
digits_ascii HexUpper n = base_ascii 16 true n (omega arith) (omega arith)

-- what is left after a turn has one digit less
pub fewer_digits : (at base left : ℕ) → 8 ≤ base → base ≤ left → left < 8 ^ at → left / base < 8 ^ (at - 1)
fewer_digits zero base left b l h = absurd (omega (arith, b, l, h, pow-zero 8))
fewer_digits (suc k) base left b l h =
    let more : 8 ^ k * 8 ≤ 8 ^ k * base = mul-le-mul_left (8 ^ k) b in
    let less : left / base < 8 ^ k = div_below left base (8 ^ k) (omega (arith, b)) (omega (arith, h, more, pow-suc 8 k)) in
    let same : k ≡ suc k - 1 = omega arith in
    subst (λ (j : ℕ). left / base < 8 ^ j) same less

pub some_room : (at base left : ℕ) → 8 ≤ base → base ≤ left → left < 8 ^ at → 1 < at
some_room zero base left b l h = absurd (omega (arith, b, l, h, pow-zero 8))
some_room (suc zero) base left b l h = absurd (omega (arith, b, l, h, pow-suc 8 0, pow-zero 8))
some_room (suc (suc k)) base left b l h = omega arith

pub wide_room : (n : ℕ) → n < 2 ^ 128 → n < 8 ^ 64
wide_room n h = omega (arith, h)

quotient_there : (left base : ℕ) → 0 < base → base ≤ left → 0 < left / base
quotient_there left base p h = by_quotient (left / base) refl where
  by_quotient : (q : ℕ) → left / base ≡ q → 0 < left / base
  by_quotient zero e = absurd (omega (arith, h, mod-lt left p, div-add-mod' left base, ap (λ (q : ℕ). q * base) e))
  by_quotient (suc q) e = omega (arith, e)

one_written : (at : ℕ) (room new : List ℕ) (g : ℕ) → new ≡ set room (at - 1) g → 0 < at → at ≤ length room → drop (at - 1) new ≡ g ∷ drop at room
one_written at room new g e p h =
    ap (drop (at - 1)) e ∙ drop-set room (at - 1) g (omega (arith, p, h))
    ∙ ap (λ (i : ℕ). g ∷ drop i room) {x = at - 1 + 1} {y = at} (omega (arith, p))

-- digits of a number that are still to be written before others, with room for so many
pub digits_before : ℕ → ℕ → Bool → ℕ → List ℕ → List ℕ
digits_before at base upper left acc = digits_onto at base upper left acc

pub none_written : (base : ℕ) (upper : Bool) (n : ℕ) (room : List ℕ) → length room ≡ 64 → digits base upper n ≡ digits_before 64 base upper n (drop 64 room)
unfolding digits_before digits
none_written base upper n room h = ap (digits_onto 64 base upper n) (sym (drop_all 64 room (omega (arith, h))))

-- a turn: one digit before those that are written
pub digit_put : (at base left g : ℕ) (upper : Bool) (whole room new : List ℕ) → 0 < at → at ≤ length room → 0 < base → base ≤ left → g ≡ digit_glyph upper (left % base) → new ≡ set room (at - 1) g → whole ≡ digits_before at base upper left (drop at room) → whole ≡ digits_before (at - 1) base upper (left / base) (drop (at - 1) new)
unfolding digits_before
digit_put at base left g upper whole room new p h b l is n w =
    w ∙ onto_more at base upper left (drop at room) p (quotient_there left base b l)
    ∙ ap (digits_onto (at - 1) base upper (left / base)) (sym (one_written at room new g n p h ∙ ap (λ (c : ℕ). c ∷ drop at room) is))

-- the last turn
pub digit_last : (at base left g : ℕ) (upper : Bool) (n : ℕ) (room new : List ℕ) → 0 < at → at ≤ length room → left < base → g ≡ digit_glyph upper left → new ≡ set room (at - 1) g → digits base upper n ≡ digits_before at base upper left (drop at room) → drop (at - 1) new ≡ digits base upper n
unfolding digits_before
digit_last at base left g upper n room new p h small is e w =
    let same : digit_glyph upper (left % base) ≡ g = ap (digit_glyph upper) (mod-eq_of_lt small) ∙ sym is in
    one_written at room new g e p h
    ∙ sym (w ∙ onto_last at base upper left (drop at room) p (div-eq_of_lt small) ∙ ap (λ (c : ℕ). c ∷ drop at room) same)

-- the turns of the loop that writes digits
pub ruleset digits_put = (fewer_digits, some_room, wide_room, digit_put, digit_last)
