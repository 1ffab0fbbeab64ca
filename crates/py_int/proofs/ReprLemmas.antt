-- What is printed of an integer is read back.
use Rattle.std.proofs.Common.{◌≡◌, ℕ, suc, ◌+◌, ◌*◌, ◌/◌, ◌%◌, ◌^◌, ◌<◌, ◌≤◌, ◌++◌, Bool, true, false, ◌&&◌, nat_lt, eqb, List, [], ◌∷◌, length, reverse, None, Some, ℤ, pos, negsuc, neg_ℤ, Ok, inl, inr, refl, ap, sym, ◌∙◌, arith}
use Rattle.std.specs.Char.{digit_value}
use Rattle.std.specs.Fmt.{decimal, signed_decimal}
use Rattle.std.proofs.lemmas.Bool.{cases_Bool}
use Rattle.std.proofs.lemmas.Bool.Decides.{nat_tests}
use Rattle.std.proofs.lemmas.Fmt.{decimal_by_steps_wide}
use Rattle.std.proofs.lemmas.List.{reverse-append, reverse-reverse}
use Rattle.std.proofs.lemmas.Str.{digit_value_digit}
use Rattle.py_base.specs.Chars.Whitespace.{is_ascii_whitespace, skip_while, trim, trim_start, trim_end}
use Rattle.py_base.specs.Reading.{find}
use Rattle.py_int.specs.Number.{wide, carried}
use Rattle.py_int.specs.Literal.{begins_with_zero, digits, digits_after, int_of, literal, literal_result, no_leading_zero, prefix_at, prefix_bases, read_sign, unsigned}

abbrev AllDigits : List ℕ → Type 0
AllDigits [] = Unit {0}
AllDigits (c ∷ cs) = (48 ≤ c) × (c ≤ 57) × AllDigits cs

-- the last character
record EndsIn (ds : List ℕ) : Type 0 where
  front : List ℕ
  last : ℕ
  digit : (48 ≤ last) × (last ≤ 57)
  whole : ds ≡ front ++ last ∷ []

record Written (n : ℕ) (ds : List ℕ) : Type 0 where
  value : digits 10 ds ≡ Some n
  all : AllDigits ds
  some : 0 < length ds
  zero_first : begins_with_zero ds ≡ true → n ≡ 0
  end : EndsIn ds

value_of : (c : ℕ) → 48 ≤ c → c ≤ 57 → digit_value c + 48 ≡ c
value_of c h l = digit_value_digit c (h, l)

appended : (ds : List ℕ) (digit : Bool) (a m c : ℕ) → digits_after 10 digit a ds ≡ Some m → digit_value c < 10 → digits_after 10 digit a (ds ++ c ∷ []) ≡ Some (m * 10 + digit_value c)
appended [] true a m c e l =
    let t : nat_lt (digit_value c) 10 ≡ true = grind (arith, nat_tests) in
    let s : a ≡ m = cc in
    rw (t, s) refl
appended [] false a m c e l = absurd (cc)
appended (d ∷ ds) digit a m c e l =
    elim (cases_Bool (nat_lt (digit_value d) 10)) [
      | inl t ↦ rw t (appended ds true (a * 10 + digit_value d) m c (rw t at e) l)
      | inr f ↦ elim (cases_Bool (digit && eqb d 95)) [
        | inl t ↦ rw (f, t) (appended ds false a m c (rw (f, t) at e) l)
        | inr g ↦ absurd (let h : None ≡ Some m = rw (f, g) at e in cc)
      ]
    ]

all_more : (ds : List ℕ) (c : ℕ) → AllDigits ds → 48 ≤ c → c ≤ 57 → AllDigits (ds ++ c ∷ [])
all_more [] c a h l = (h, l, tt)
all_more (d ∷ ds) c a h l = (a.0, a.1, all_more ds c a.2 h l)

some_more : (ds : List ℕ) (c : ℕ) → 0 < length (ds ++ c ∷ [])
some_more [] c = omega arith
some_more (d ∷ ds) c = omega arith

zero_more : (ds : List ℕ) (c : ℕ) → 0 < length ds → begins_with_zero (ds ++ c ∷ []) ≡ begins_with_zero ds
zero_more [] c h = absurd (omega arith)
zero_more (d ∷ ds) c h = refl

one : (n : ℕ) → n < 10 → Written n ((48 + n) ∷ [])
one n h =
    let v : digit_value (48 + n) + 48 ≡ 48 + n = value_of (48 + n) (omega arith) (omega arith) in
    let d : digit_value (48 + n) ≡ n = omega arith in
    let t : nat_lt n 10 ≡ true = grind (arith, nat_tests) in
    record {
      value = rw (d, t) (ap Some (let z : 0 * 10 + n ≡ n = omega arith in z));
      all = (omega arith, omega arith, tt);
      some = omega arith;
      zero_first = λ z. (let e : eqb (48 + n) 48 ≡ true = z in grind (arith, nat_tests));
      end = record { front = []; last = 48 + n; digit = (omega arith, omega arith); whole = refl };
    }

more : (n : ℕ) (ds : List ℕ) → 10 ≤ n → Written (n / 10) ds → Written n (ds ++ ((48 + n % 10) ∷ []))
more n ds h w =
    let c = 48 + n % 10 in
    let v : digit_value (48 + n % 10) + 48 ≡ 48 + n % 10 = value_of (48 + n % 10) (omega arith) (omega arith) in
    let s = appended ds false 0 (n / 10) (48 + n % 10) w.value (omega arith) in
    record {
      value = s ∙ ap Some (let e : n / 10 * 10 + digit_value (48 + n % 10) ≡ n = omega arith in e);
      all = all_more ds (48 + n % 10) w.all (omega arith) (omega arith);
      some = some_more ds (48 + n % 10);
      zero_first = λ z. absurd (let e : n / 10 ≡ 0 = w.zero_first (sym (zero_more ds (48 + n % 10) w.some) ∙ z) in omega arith);
      end = record { front = ds; last = 48 + n % 10; digit = (omega arith, omega arith); whole = refl };
    }

written : (n : ℕ) → n < 10 ^ 64 → Written n (decimal n)
written n h = decimal_by_steps_wide Written one more n h

-- ---- no whitespace around

no_whitespace : (c : ℕ) → 33 ≤ c → is_ascii_whitespace c ≡ false
no_whitespace c h = grind (arith, nat_tests)

trims_start : (c : ℕ) (cs : List ℕ) → 33 ≤ c → trim_start is_ascii_whitespace (c ∷ cs) ≡ c ∷ cs
trims_start c cs h = rw (no_whitespace c h) refl

trims_end : (cs : List ℕ) → EndsIn cs → trim_end is_ascii_whitespace cs ≡ cs
trims_end cs e =
    let r : reverse (e.front ++ e.last ∷ []) ≡ e.last ∷ reverse e.front = reverse-append e.front (e.last ∷ []) in
    let s : skip_while is_ascii_whitespace (e.last ∷ reverse e.front) ≡ e.last ∷ reverse e.front = trims_start e.last (reverse e.front) (omega (arith, e.digit.0)) in
    rw e.whole (ap reverse (ap (skip_while is_ascii_whitespace) r ∙ s ∙ sym r) ∙ reverse-reverse (e.front ++ e.last ∷ []))

trimmed : (c : ℕ) (cs : List ℕ) → 33 ≤ c → EndsIn (c ∷ cs) → trim is_ascii_whitespace (c ∷ cs) ≡ c ∷ cs
trimmed c cs h e = rw (trims_start c cs h) (trims_end (c ∷ cs) e)

-- ---- no prefix

no_letter : (c : ℕ) → c ≤ 57 → find prefix_bases c ≡ None
no_letter c h =
    let a : eqb 98 c ≡ false = grind (arith, nat_tests) in
    let b : eqb 66 c ≡ false = grind (arith, nat_tests) in
    let d : eqb 111 c ≡ false = grind (arith, nat_tests) in
    let e : eqb 79 c ≡ false = grind (arith, nat_tests) in
    let f : eqb 120 c ≡ false = grind (arith, nat_tests) in
    let g : eqb 88 c ≡ false = grind (arith, nat_tests) in
    rw (a, b, d, e, f, g) refl

no_prefix : (base : ℕ) (ds : List ℕ) → AllDigits ds → prefix_at base ds ≡ None
no_prefix base [] a = refl
no_prefix base (c ∷ []) a = refl
no_prefix base (c ∷ d ∷ ds) a =
    elim (cases_Bool (eqb c 48)) [
      | inl t ↦ rw (t, no_letter d a.2.1) refl
      | inr f ↦ rw f refl
    ]

reads_ten : (n : ℕ) (ds : List ℕ) → Written n ds → unsigned 10 ds ≡ Some n
reads_ten n ds w = rw (no_prefix 10 ds w.all) w.value

zero_rule : (n : ℕ) (ds : List ℕ) → (begins_with_zero ds ≡ true → n ≡ 0) → no_leading_zero ds (Some n) ≡ Some n
zero_rule n ds h =
    elim (cases_Bool (begins_with_zero ds)) [
      | inl t ↦ (let z : n ≡ 0 = h t in rw (t, z) refl)
      | inr f ↦ rw f refl
    ]

reads_zero : (n : ℕ) (ds : List ℕ) → Written n ds → unsigned 0 ds ≡ Some n
reads_zero n ds w = rw (no_prefix 0 ds w.all) (ap (no_leading_zero ds) w.value ∙ zero_rule n ds w.zero_first)

-- ---- signs

no_sign : (c : ℕ) (cs : List ℕ) → 48 ≤ c → read_sign (c ∷ cs) ≡ (false, c ∷ cs)
no_sign c cs h =
    let a : eqb c 45 ≡ false = grind (arith, nat_tests) in
    let b : eqb c 43 ≡ false = grind (arith, nat_tests) in
    rw (a, b) refl

reads_pos : (base n : ℕ) (ds : List ℕ) → Written n ds → unsigned base ds ≡ Some n → literal base (trim is_ascii_whitespace ds) ≡ Some (pos n)
reads_pos base n [] w u = absurd (let h : 0 < 0 = w.some in omega arith)
reads_pos base n (c ∷ cs) w u =
    rw (trimmed c cs (omega (arith, w.all.0)) w.end, no_sign c cs w.all.0, u) refl

after_sign : (ds : List ℕ) → EndsIn ds → EndsIn (45 ∷ ds)
after_sign ds e = record { front = 45 ∷ e.front; last = e.last; digit = e.digit; whole = ap (λ t. 45 ∷ t) e.whole }

reads_neg : (base n : ℕ) (ds : List ℕ) → Written n ds → unsigned base ds ≡ Some n → literal base (trim is_ascii_whitespace (45 ∷ ds)) ≡ Some (neg_ℤ (pos n))
reads_neg base n ds w u = rw (trimmed 45 ds (omega arith) (after_sign ds w.end), u) refl

carries : (z : ℤ) → wide z ≡ false → carried z ≡ Ok z
carries z h = rw h refl

pub reads_back : (z : ℤ) → wide z ≡ false → (int_of 10 (signed_decimal z) ≡ Ok z) × (int_of 0 (signed_decimal z) ≡ Ok z)
reads_back (pos n) h =
    let s : n < 2 ^ 127 = grind (arith, nat_tests) in
    let w : Written n (decimal n) = written n (omega arith) in (
      ap (literal_result 10) (reads_pos 10 n (decimal n) w (reads_ten n (decimal n) w)) ∙ carries (pos n) h,
      ap (literal_result 0) (reads_pos 0 n (decimal n) w (reads_zero n (decimal n) w)) ∙ carries (pos n) h,
    )
reads_back (negsuc n) h =
    let s : n < 2 ^ 127 = grind (arith, nat_tests) in
    let w : Written (suc n) (decimal (suc n)) = written (suc n) (omega arith) in (
      ap (literal_result 10) (reads_neg 10 (suc n) (decimal (suc n)) w (reads_ten (suc n) (decimal (suc n)) w)) ∙ carries (negsuc n) h,
      ap (literal_result 0) (reads_neg 0 (suc n) (decimal (suc n)) w (reads_zero (suc n) (decimal (suc n)) w)) ∙ carries (negsuc n) h,
    )
