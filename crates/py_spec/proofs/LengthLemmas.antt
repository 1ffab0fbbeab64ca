-- What is left after each part of a template is no longer than before it.
use Rattle.std.proofs.Common.{◌≡◌, ◌==◌, ◌||◌, ℕ, ◌≤◌, ◌<◌, ◌*◌, ◌+◌, ◌-◌, Bool, true, false, if◌then◌else◌, List, [], ◌∷◌, length, drop, arith, sym, nat_lt, Option, Some, None}
use Rattle.std.specs.Prelude.{Ok}
use Rattle.py_base.specs.Reading.{is_next, find}
use Rattle.py_base.proofs.HoldsLemmas.{Holds, ok, bad, then_holds, if_holds, guard}
use Rattle.py_spec.specs.declared.percent.parts.CFormatType.{CFormatType}
use Rattle.py_spec.specs.declared.percent.parts.CConversionFlags.{CConversionFlags}
use Rattle.py_spec.specs.Percent.Flags.{flag, flags_by_sign, flags_on, read_flags, with_flags}
use Rattle.py_spec.specs.Percent.Literals.{literal, put_first}
use Rattle.py_spec.specs.Percent.Reading.{Read, open_after, key_on, key_in, read_key, is_digit, read_digits, most, read_amount, read_quantity, read_precision, skip_length, types, typed, read_type, read_specifier, place_of}
use Rattle.py_spec.specs.Percent.Template.{Turn, specifier_after, read_turn}

-- what is left is no longer than this
abbrev pub Within : {A : Type 0} → List ℕ → Read A → Type 0
Within cs r = Holds (λ a x. length x ≤ length cs) r

dropped : (cs : List ℕ) → length (drop 1 cs) ≤ length cs
dropped [] = omega arith
dropped (c ∷ cs) = omega arith

key_step : (place c : ℕ) (cs : List ℕ) (o : Option ℕ) → ((e : ℕ) → Within cs (key_in place e cs)) → Within (c ∷ cs) (key_on o c cs (λ e. key_in place e cs))
key_step place c cs None h = ok (omega arith)
key_step place c cs (Some e) h = then_holds (h e) λ k x p. ok (omega (arith, p))

key_within : (place d : ℕ) (cs : List ℕ) → Within cs (key_in place d cs)
key_within place d [] = bad
key_within place d (c ∷ cs) = key_step place c cs (open_after d c) (λ e. key_within place e cs)

a_key : (n : ℕ) (cs : List ℕ) → Within cs (read_key n cs)
a_key n cs = if_holds (is_next 40 cs) (λ h. then_holds (key_within (place_of n cs) 0 (drop 1 cs)) λ k x p. ok (omega (arith, p, dropped cs))) (λ h. ok (omega arith))

flags_step : (flags : CConversionFlags) (c : ℕ) (cs : List ℕ) (o : Option CConversionFlags) → ((f : CConversionFlags) → length (read_flags f cs).1 ≤ length cs) → length (flags_on o flags (c ∷ cs) (λ f. read_flags f cs)).1 ≤ length (c ∷ cs)
flags_step flags c cs None h = omega arith
flags_step flags c cs (Some f) h = omega (arith, h (with_flags flags f))

flags_within : (flags : CConversionFlags) (cs : List ℕ) → length (read_flags flags cs).1 ≤ length cs
flags_within flags [] = omega arith
flags_within flags (c ∷ cs) = flags_step flags c cs (find flags_by_sign c) (λ f. flags_within f cs)

digits_step : (n c : ℕ) (cs : List ℕ) (b : Bool) → length (read_digits (n * 10 + (c - 48)) cs).1 ≤ length cs → length (if b then read_digits (n * 10 + (c - 48)) cs else (n, c ∷ cs)).1 ≤ length (c ∷ cs)
digits_step n c cs true h = omega (arith, h)
digits_step n c cs false h = omega arith

digits_within : (n : ℕ) (cs : List ℕ) → length (read_digits n cs).1 ≤ length cs
digits_within n [] = omega arith
digits_within n (c ∷ cs) = digits_step n c cs (is_digit c) (digits_within (n * 10 + (c - 48)) cs)

an_amount : (n : ℕ) (cs : List ℕ) → Within cs (read_amount n cs)
an_amount n cs = guard (nat_lt most (read_digits 0 cs).0) _ (λ h. ok (digits_within 0 cs))

a_quantity : (n : ℕ) (cs : List ℕ) → Within cs (read_quantity n cs)
a_quantity n [] = ok (omega arith)
a_quantity n (c ∷ cs) = if_holds (c == 42) (λ h. ok (omega arith)) (λ h. if_holds (is_digit c) (λ g. an_amount n (c ∷ cs)) (λ g. ok (omega arith)))

a_precision : (n : ℕ) (cs : List ℕ) → Within cs (read_precision n cs)
a_precision n cs = if_holds (is_next 46 cs) (λ h. then_holds (a_quantity n (drop 1 cs)) λ q x p. ok (omega (arith, p, dropped cs))) (λ h. ok (omega arith))

length_within : (cs : List ℕ) → length (skip_length cs) ≤ length cs
length_within cs = by_test (is_next 104 cs || is_next 108 cs || is_next 76 cs) where
  by_test : (b : Bool) → length (if b then drop 1 cs else cs) ≤ length cs
  by_test true = dropped cs
  by_test false = omega arith

a_type : (n : ℕ) (cs : List ℕ) → Within cs (read_type n cs)
a_type n [] = bad
a_type n (c ∷ cs) = by_type (find types c) where
  by_type : (o : Option CFormatType) → Within (c ∷ cs) (typed o (place_of n (c ∷ cs)) c cs)
  by_type None = bad
  by_type (Some t) = ok (omega arith)

pub a_specifier : (n : ℕ) (cs : List ℕ) → Within cs (read_specifier n cs)
a_specifier n cs =
    then_holds (a_key n cs) λ key xs p.
    then_holds (a_quantity n (read_flags (flag 0) xs).1) λ width ys q.
    then_holds (a_precision n ys) λ precision zs r.
    then_holds (a_type n (skip_length zs)) λ type end s.
    ok (omega (arith, p, flags_within (flag 0) xs, q, r, length_within zs, s))

literal_step : (c d : ℕ) (cs : List ℕ) (a b : Bool) → length (literal cs).1 ≤ length cs → length (literal (d ∷ cs)).1 ≤ length (d ∷ cs) → length (if a then (if b then put_first 37 (literal cs) else ([], c ∷ d ∷ cs)) else put_first c (literal (d ∷ cs))).1 ≤ length (c ∷ d ∷ cs)
literal_step c d cs true true p q = omega (arith, p)
literal_step c d cs true false p q = omega arith
literal_step c d cs false b p q = omega (arith, q)

literal_within : (cs : List ℕ) → length (literal cs).1 ≤ length cs
literal_within [] = omega arith
literal_within (c ∷ []) = by_test (c == 37) where
  by_test : (b : Bool) → (let r : List ℕ × List ℕ = if b then ([], c ∷ []) else (c ∷ [], []) in length r.1 ≤ 1)
  by_test true = omega arith
  by_test false = omega arith
literal_within (c ∷ d ∷ cs) = literal_step c d cs (c == 37) (d == 37) (literal_within cs) (literal_within (d ∷ cs))

after_literal : (n : ℕ) (text cs : List ℕ) (most : ℕ) → length cs ≤ most → 0 < most → Holds (λ t x. length x < most) (specifier_after n text cs)
after_literal n text [] most h z = ok (omega (arith, z))
after_literal n text (c ∷ cs) most h z = then_holds (a_specifier n cs) λ s x p. ok (omega (arith, p, h))

-- a turn takes something
a_turn : (n : ℕ) (cs : List ℕ) → 0 < length cs → Holds (λ t x. length x < length cs) (read_turn n cs)
a_turn n cs h = after_literal n (literal cs).0 (literal cs).1 (length cs) (literal_within cs) h

pub turn_shorter : (n : ℕ) (cs rest : List ℕ) (turn : Turn) → 0 < length cs → Ok (turn, rest) ≡ read_turn n cs → length rest < length cs
turn_shorter n cs rest turn h e = (a_turn n cs h).by turn rest (sym e)
