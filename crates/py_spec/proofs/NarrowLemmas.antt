-- Where each unit of a template is a byte, each unit of its literals and keys is.
use Rattle.std.proofs.Common.{◌≡◌, ◌∙◌, ◌==◌, ◌||◌, ◌&&◌, ℕ, zero, suc, ◌*◌, ◌+◌, ◌-◌, Bool, true, false, if◌then◌else◌, List, [], ◌∷◌, ◌++◌, drop, refl, ap, nat_lt, Option, Some, None}
use Rattle.std.proofs.lemmas.Bool.{and_parts}
use Rattle.py_base.specs.Reading.{is_next, find}
use Rattle.py_base.proofs.HoldsLemmas.{Holds, ok, bad, then_holds, if_holds, guard}
use Rattle.py_spec.specs.declared.percent.parts.CFormatPart.TheVariants.{Spec}
use Rattle.py_spec.specs.declared.percent.parts.CFormatSpec.{CFormatSpec}
use Rattle.py_spec.specs.declared.percent.parts.CFormatType.{CFormatType}
use Rattle.py_spec.specs.declared.percent.parts.CConversionFlags.{CConversionFlags}
use Rattle.py_spec.specs.Percent.ByteParts.{all_bytes, is_byte_key, is_byte_part, are_byte_parts}
use Rattle.py_spec.specs.Percent.Flags.{flag, flags_by_sign, flags_on, read_flags, with_flags}
use Rattle.py_spec.specs.Percent.Literals.{literal, put_first}
use Rattle.py_spec.specs.Percent.Reading.{Read, open_after, key_on, key_in, read_key, is_digit, read_digits, most, read_amount, read_quantity, read_precision, skip_length, types, typed, read_type, read_specifier, place_of}
use Rattle.py_spec.specs.Percent.Template.{Turn, Parts, specifier_after, read_turn, turn_parts, read_parts}
use Rattle.py_spec.proofs.PartLemmas.{literal_full}

-- each unit is a byte
abbrev pub Narrow : List ℕ → Type 0
Narrow cs = all_bytes cs ≡ true

-- what is left is narrow where the template is
abbrev LeavesNarrow : {A : Type 0} → Read A → Type 0
LeavesNarrow r = Holds (λ a x. Narrow x) r

pub head_narrow : (c : ℕ) (cs : List ℕ) → Narrow (c ∷ cs) → nat_lt c 256 ≡ true
head_narrow c cs h = (and_parts (nat_lt c 256) (all_bytes cs) h).0

pub tail_narrow : (c : ℕ) (cs : List ℕ) → Narrow (c ∷ cs) → Narrow cs
tail_narrow c cs h = (and_parts (nat_lt c 256) (all_bytes cs) h).1

pub cons_narrow : (c : ℕ) (cs : List ℕ) → nat_lt c 256 ≡ true → Narrow cs → Narrow (c ∷ cs)
cons_narrow c cs h n = ap (λ (b : Bool). b && all_bytes cs) h ∙ n

drop_narrow : (cs : List ℕ) → Narrow cs → Narrow (drop 1 cs)
drop_narrow [] h = refl
drop_narrow (c ∷ cs) h = tail_narrow c cs h

-- a key, and what is after it
abbrev KeyNarrow : Read (List ℕ) → Type 0
KeyNarrow r = Holds (λ key x. Narrow key × Narrow x) r

key_step : (place c : ℕ) (cs : List ℕ) (o : Option ℕ) → Narrow (c ∷ cs) → ((e : ℕ) → KeyNarrow (key_in place e cs)) → KeyNarrow (key_on o c cs (λ e. key_in place e cs))
key_step place c cs None n h = ok (refl, tail_narrow c cs n)
key_step place c cs (Some e) n h = then_holds (h e) λ k x p. ok (cons_narrow c k (head_narrow c cs n) p.0, p.1)

key_narrow : (place d : ℕ) (cs : List ℕ) → Narrow cs → KeyNarrow (key_in place d cs)
key_narrow place d [] n = bad
key_narrow place d (c ∷ cs) n = key_step place c cs (open_after d c) n (λ e. key_narrow place e cs (tail_narrow c cs n))

a_key : (n : ℕ) (cs : List ℕ) → Narrow cs → Holds (λ key x. (is_byte_key key ≡ true) × Narrow x) (read_key n cs)
a_key n cs h = if_holds (is_next 40 cs) (λ b. then_holds (key_narrow (place_of n cs) 0 (drop 1 cs) (drop_narrow cs h)) λ k x p. ok (p.0, p.1)) (λ b. ok (refl, h))

flags_step : (flags : CConversionFlags) (c : ℕ) (cs : List ℕ) (o : Option CConversionFlags) → Narrow (c ∷ cs) → ((f : CConversionFlags) → Narrow (read_flags f cs).1) → Narrow (flags_on o flags (c ∷ cs) (λ f. read_flags f cs)).1
flags_step flags c cs None n h = n
flags_step flags c cs (Some f) n h = h (with_flags flags f)

flags_narrow : (flags : CConversionFlags) (cs : List ℕ) → Narrow cs → Narrow (read_flags flags cs).1
flags_narrow flags [] n = refl
flags_narrow flags (c ∷ cs) n = flags_step flags c cs (find flags_by_sign c) n (λ f. flags_narrow f cs (tail_narrow c cs n))

digits_step : (n c : ℕ) (cs : List ℕ) (b : Bool) → Narrow (c ∷ cs) → Narrow (read_digits (n * 10 + (c - 48)) cs).1 → Narrow (if b then read_digits (n * 10 + (c - 48)) cs else (n, c ∷ cs)).1
digits_step n c cs true w h = h
digits_step n c cs false w h = w

digits_narrow : (n : ℕ) (cs : List ℕ) → Narrow cs → Narrow (read_digits n cs).1
digits_narrow n [] w = refl
digits_narrow n (c ∷ cs) w = digits_step n c cs (is_digit c) w (digits_narrow (n * 10 + (c - 48)) cs (tail_narrow c cs w))

an_amount : (n : ℕ) (cs : List ℕ) → Narrow cs → LeavesNarrow (read_amount n cs)
an_amount n cs w = guard (nat_lt most (read_digits 0 cs).0) _ (λ h. ok (digits_narrow 0 cs w))

a_quantity : (n : ℕ) (cs : List ℕ) → Narrow cs → LeavesNarrow (read_quantity n cs)
a_quantity n [] w = ok refl
a_quantity n (c ∷ cs) w = if_holds (c == 42) (λ h. ok (tail_narrow c cs w)) (λ h. if_holds (is_digit c) (λ g. an_amount n (c ∷ cs) w) (λ g. ok w))

a_precision : (n : ℕ) (cs : List ℕ) → Narrow cs → LeavesNarrow (read_precision n cs)
a_precision n cs w = if_holds (is_next 46 cs) (λ h. then_holds (a_quantity n (drop 1 cs) (drop_narrow cs w)) λ q x p. ok p) (λ h. ok w)

length_narrow : (cs : List ℕ) → Narrow cs → Narrow (skip_length cs)
length_narrow cs w = by_test (is_next 104 cs || is_next 108 cs || is_next 76 cs) where
  by_test : (b : Bool) → Narrow (if b then drop 1 cs else cs)
  by_test true = drop_narrow cs w
  by_test false = w

a_type : (n : ℕ) (cs : List ℕ) → Narrow cs → LeavesNarrow (read_type n cs)
a_type n [] w = bad
a_type n (c ∷ cs) w = by_type (find types c) where
  by_type : (o : Option CFormatType) → LeavesNarrow (typed o (place_of n (c ∷ cs)) c cs)
  by_type None = bad
  by_type (Some t) = ok (tail_narrow c cs w)

a_specifier : (n : ℕ) (cs : List ℕ) → Narrow cs → Holds (λ (s : CFormatSpec) x. (is_byte_key s.mapping_key ≡ true) × Narrow x) (read_specifier n cs)
a_specifier n cs w =
    then_holds (a_key n cs w) λ key xs p.
    then_holds (a_quantity n (read_flags (flag 0) xs).1 (flags_narrow (flag 0) xs p.1)) λ width ys q.
    then_holds (a_precision n ys q) λ precision zs r.
    then_holds (a_type n (skip_length zs) (length_narrow zs r)) λ type end s.
    ok (p.0, s)

-- a literal, and what is after it
abbrev BothNarrow : List ℕ × List ℕ → Type 0
BothNarrow r = Narrow r.0 × Narrow r.1

literal_step : (c d : ℕ) (cs : List ℕ) (a b : Bool) → Narrow (c ∷ d ∷ cs) → BothNarrow (literal cs) → BothNarrow (literal (d ∷ cs)) → BothNarrow (if a then (if b then put_first 37 (literal cs) else ([], c ∷ d ∷ cs)) else put_first c (literal (d ∷ cs)))
literal_step c d cs true true w p q = (cons_narrow 37 (literal cs).0 refl p.0, p.1)
literal_step c d cs true false w p q = (refl, w)
literal_step c d cs false b w p q = (cons_narrow c (literal (d ∷ cs)).0 (head_narrow c (d ∷ cs) w) q.0, q.1)

literal_narrow : (cs : List ℕ) → Narrow cs → BothNarrow (literal cs)
literal_narrow [] w = (refl, refl)
literal_narrow (c ∷ []) w = by_test (c == 37) where
  by_test : (b : Bool) → BothNarrow (if b then ([], c ∷ []) else (c ∷ [], []))
  by_test true = (refl, w)
  by_test false = (w, refl)
literal_narrow (c ∷ d ∷ cs) w = literal_step c d cs (c == 37) (d == 37) w (literal_narrow cs (tail_narrow d cs (tail_narrow c (d ∷ cs) w))) (literal_narrow (d ∷ cs) (tail_narrow c (d ∷ cs) w))

-- a turn, the parts of a turn, and all parts
abbrev TurnNarrow : Turn → List ℕ → Type 0
TurnNarrow t x = ((place : ℕ) → are_byte_parts (turn_parts place t) ≡ true) × Narrow x

one_part : (b : Bool) → b ≡ true → (b && true) ≡ true
one_part true h = refl
one_part false h = h

literal_turn : (place : ℕ) (text : List ℕ) → Narrow text → are_byte_parts (turn_parts place (text, None)) ≡ true
literal_turn place [] w = refl
literal_turn place (c ∷ cs) w = ap (λ (l : Parts). are_byte_parts (l ++ [])) (literal_full place c cs) ∙ one_part (all_bytes (c ∷ cs)) w

spec_turn : (place at : ℕ) (text : List ℕ) (s : CFormatSpec) → Narrow text → is_byte_key s.mapping_key ≡ true → are_byte_parts (turn_parts place (text, Some (at, s))) ≡ true
spec_turn place at [] s w k = one_part (is_byte_key s.mapping_key) k
spec_turn place at (c ∷ cs) s w k = ap (λ (l : Parts). are_byte_parts (l ++ (at, Spec s) ∷ [])) (literal_full place c cs) ∙ ap (λ (b : Bool). b && (is_byte_key s.mapping_key && true)) w ∙ one_part (is_byte_key s.mapping_key) k

after_literal : (n : ℕ) (text cs : List ℕ) → Narrow text → Narrow cs → Holds TurnNarrow (specifier_after n text cs)
after_literal n text [] t w = ok (λ place. literal_turn place text t, refl)
after_literal n text (c ∷ cs) t w = then_holds (a_specifier n cs (tail_narrow c cs w)) λ s x p. ok (λ place. spec_turn place (place_of n (c ∷ cs)) text s t p.0, p.1)

a_turn : (n : ℕ) (cs : List ℕ) → Narrow cs → Holds TurnNarrow (read_turn n cs)
a_turn n cs w = after_literal n (literal cs).0 (literal cs).1 (literal_narrow cs w).0 (literal_narrow cs w).1

joined_narrow : (ps qs : Parts) → are_byte_parts ps ≡ true → are_byte_parts qs ≡ true → are_byte_parts (ps ++ qs) ≡ true
joined_narrow [] qs h k = k
joined_narrow (p ∷ ps) qs h k =
    let f = and_parts (is_byte_part p.1) (are_byte_parts ps) h in
    ap (λ (b : Bool). b && are_byte_parts (ps ++ qs)) f.0 ∙ joined_narrow ps qs f.1 k

pub all_parts : (k n : ℕ) (cs : List ℕ) → Narrow cs → Holds (λ ps x. are_byte_parts ps ≡ true) (read_parts k n cs)
all_parts zero n cs w = ok refl
all_parts (suc k) n [] w = ok refl
all_parts (suc k) n (c ∷ cs) w =
    then_holds (a_turn n (c ∷ cs) w) λ turn x p.
    then_holds (all_parts k n x p.1) λ ps y q.
    ok (joined_narrow (turn_parts (place_of n (c ∷ cs)) turn) ps (p.0 (place_of n (c ∷ cs))) q)
