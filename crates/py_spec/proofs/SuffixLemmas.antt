-- What is left after each part of a specifier is an end of what was there before it.
use Rattle.std.proofs.Common.{◌≡◌, ◌∙◌, ◌==◌, ◌||◌, ℕ, ◌*◌, ◌+◌, ◌-◌, Bool, true, false, if◌then◌else◌, List, [], ◌∷◌, ◌++◌, drop, sym, ap, refl, append_assoc, nat_lt, Option, Some, None}
use Rattle.py_base.specs.Reading.{is_next, find}
use Rattle.py_base.proofs.HoldsLemmas.{Holds, ok, bad, then_holds, if_holds, guard}
use Rattle.py_spec.specs.declared.percent.parts.CFormatType.{CFormatType}
use Rattle.py_spec.specs.declared.percent.parts.CConversionFlags.{CConversionFlags}
use Rattle.py_spec.specs.Percent.Flags.{flag, flags_by_sign, flags_on, read_flags, with_flags}
use Rattle.py_spec.specs.Percent.Reading.{Read, open_after, key_on, key_in, read_key, is_digit, read_digits, most, read_amount, read_quantity, read_precision, skip_length, types, typed, read_type, read_specifier, place_of}

-- units are some units, and then others
abbrev pub EndsIn : List ℕ → List ℕ → Type 0
EndsIn cs x = (front : List ℕ) × (cs ≡ front ++ x)

abbrev Leaves : {A : Type 0} → List ℕ → Read A → Type 0
Leaves cs r = Holds (λ a x. EndsIn cs x) r

all : (cs : List ℕ) → EndsIn cs cs
all cs = ([], refl)

one_more : (c : ℕ) (cs x : List ℕ) → EndsIn cs x → EndsIn (c ∷ cs) x
one_more c cs x e = (c ∷ e.0, ap (λ (l : List ℕ). c ∷ l) e.1)

further : (cs x y : List ℕ) → EndsIn cs x → EndsIn x y → EndsIn cs y
further cs x y e f = (e.0 ++ f.0, e.1 ∙ ap (λ (l : List ℕ). e.0 ++ l) f.1 ∙ sym (append_assoc e.0 f.0 y))

dropped : (cs : List ℕ) → EndsIn cs (drop 1 cs)
dropped [] = all []
dropped (c ∷ cs) = one_more c cs cs (all cs)

key_step : (place c : ℕ) (cs : List ℕ) (o : Option ℕ) → ((e : ℕ) → Leaves cs (key_in place e cs)) → Leaves (c ∷ cs) (key_on o c cs (λ e. key_in place e cs))
key_step place c cs None h = ok (one_more c cs cs (all cs))
key_step place c cs (Some e) h = then_holds (h e) λ k x p. ok (one_more c cs x p)

key_leaves : (place d : ℕ) (cs : List ℕ) → Leaves cs (key_in place d cs)
key_leaves place d [] = bad
key_leaves place d (c ∷ cs) = key_step place c cs (open_after d c) (λ e. key_leaves place e cs)

a_key : (n : ℕ) (cs : List ℕ) → Leaves cs (read_key n cs)
a_key n cs = if_holds (is_next 40 cs) (λ h. then_holds (key_leaves (place_of n cs) 0 (drop 1 cs)) λ k x p. ok (further cs (drop 1 cs) x (dropped cs) p)) (λ h. ok (all cs))

flags_step : (flags : CConversionFlags) (c : ℕ) (cs : List ℕ) (o : Option CConversionFlags) → ((f : CConversionFlags) → EndsIn cs (read_flags f cs).1) → EndsIn (c ∷ cs) (flags_on o flags (c ∷ cs) (λ f. read_flags f cs)).1
flags_step flags c cs None h = all (c ∷ cs)
flags_step flags c cs (Some f) h = one_more c cs (read_flags (with_flags flags f) cs).1 (h (with_flags flags f))

flags_leave : (flags : CConversionFlags) (cs : List ℕ) → EndsIn cs (read_flags flags cs).1
flags_leave flags [] = all []
flags_leave flags (c ∷ cs) = flags_step flags c cs (find flags_by_sign c) (λ f. flags_leave f cs)

digits_step : (n c : ℕ) (cs : List ℕ) (b : Bool) → EndsIn cs (read_digits (n * 10 + (c - 48)) cs).1 → EndsIn (c ∷ cs) (if b then read_digits (n * 10 + (c - 48)) cs else (n, c ∷ cs)).1
digits_step n c cs true h = one_more c cs (read_digits (n * 10 + (c - 48)) cs).1 h
digits_step n c cs false h = all (c ∷ cs)

digits_leave : (n : ℕ) (cs : List ℕ) → EndsIn cs (read_digits n cs).1
digits_leave n [] = all []
digits_leave n (c ∷ cs) = digits_step n c cs (is_digit c) (digits_leave (n * 10 + (c - 48)) cs)

an_amount : (n : ℕ) (cs : List ℕ) → Leaves cs (read_amount n cs)
an_amount n cs = guard (nat_lt most (read_digits 0 cs).0) _ (λ h. ok (digits_leave 0 cs))

a_quantity : (n : ℕ) (cs : List ℕ) → Leaves cs (read_quantity n cs)
a_quantity n [] = ok (all [])
a_quantity n (c ∷ cs) = if_holds (c == 42) (λ h. ok (one_more c cs cs (all cs))) (λ h. if_holds (is_digit c) (λ g. an_amount n (c ∷ cs)) (λ g. ok (all (c ∷ cs))))

a_precision : (n : ℕ) (cs : List ℕ) → Leaves cs (read_precision n cs)
a_precision n cs = if_holds (is_next 46 cs) (λ h. then_holds (a_quantity n (drop 1 cs)) λ q x p. ok (further cs (drop 1 cs) x (dropped cs) p)) (λ h. ok (all cs))

length_leaves : (cs : List ℕ) → EndsIn cs (skip_length cs)
length_leaves cs = by_test (is_next 104 cs || is_next 108 cs || is_next 76 cs) where
  by_test : (b : Bool) → EndsIn cs (if b then drop 1 cs else cs)
  by_test true = dropped cs
  by_test false = all cs

a_type : (n : ℕ) (cs : List ℕ) → Leaves cs (read_type n cs)
a_type n [] = bad
a_type n (c ∷ cs) = by_type (find types c) where
  by_type : (o : Option CFormatType) → Leaves (c ∷ cs) (typed o (place_of n (c ∷ cs)) c cs)
  by_type None = bad
  by_type (Some t) = ok (one_more c cs cs (all cs))

pub specifier_leaves : (n : ℕ) (cs : List ℕ) → Holds (λ s x. EndsIn cs x) (read_specifier n cs)
specifier_leaves n cs =
    then_holds (a_key n cs) λ key xs p.
    let flagged : List ℕ = (read_flags (flag 0) xs).1 in
    then_holds (a_quantity n (read_flags (flag 0) xs).1) λ width ys q.
    then_holds (a_precision n ys) λ precision zs r.
    then_holds (a_type n (skip_length zs)) λ type end s.
    ok (further cs xs end p (further xs flagged end (flags_leave (flag 0) xs) (further flagged ys end q (further ys zs end r (further zs (skip_length zs) end (length_leaves zs) s)))))
