-- The first of faults is the same in whatever order they are found.
use Rattle.std.proofs.Common.{◌≡◌, refl, sym, ◌∙◌, ap, ℕ, ◌+◌, ◌*◌, ◌≤◌, ◌<◌, ◌==◌, Bool, true, false, List, [], ◌∷◌, ◌++◌, arith}
use Rattle.std.specs.Prelude.{Option, Some, None, cond, nat_lt, ◌&&◌, ◌||◌}
use Rattle.std.proofs.lemmas.Bool.{ltb-true, ltb-false, le-ltb}
use Rattle.std.proofs.lemmas.Bool.Decides.{nat_tests}
use Rattle.re_tree.specs.declared.fault.Fault.{Fault}
use Rattle.re_tree.specs.declared.fault.FaultKind.{FaultKind}
use Rattle.re_tree.specs.declared.fault.FaultKind.TheVariants.{TooDeep, TooManyGroups, BadName, BadCount, BadReference, NotFixedWidth}
use Rattle.re_tree.specs.Faults.{rank, is_before, the_first, first_of}
use Rattle.re_parse.specs.FirstPass.{earlier, note}

rank_small : (k : FaultKind) → rank k < 8
rank_small TooDeep = omega arith
rank_small TooManyGroups = omega arith
rank_small BadName = omega arith
rank_small BadCount = omega arith
rank_small BadReference = omega arith
rank_small NotFixedWidth = omega arith

-- one number for place and kind
abbrev key : Fault → ℕ
key a = 8 * a.at + rank a.kind

by_number : (p q r s : ℕ) → r < 8 → s < 8 → (nat_lt p q || (p == q && nat_lt r s)) ≡ nat_lt (8 * p + r) (8 * q + s)
by_number p q r s h k = grind (arith, nat_tests)

before_is : (a b : Fault) → is_before a b ≡ nat_lt (key a) (key b)
before_is a b = by_number a.at b.at (rank a.kind) (rank b.kind) (rank_small a.kind) (rank_small b.kind)

-- of three
turns : (x y z : Bool) (a b c : Fault) → (x ≡ true → y ≡ true → z ≡ true) → (x ≡ false → y ≡ false → z ≡ false)
    → cond x (cond y (Some c) (Some b)) (cond z (Some c) (Some a)) ≡ cond y (cond z (Some c) (Some a)) (cond x (Some b) (Some a))
turns true true z a b c f g = sym (ap (λ t. cond t (Some c) (Some a)) (f refl refl))
turns true false z a b c f g = refl
turns false true z a b c f g = refl
turns false false z a b c f g = ap (λ t. cond t (Some c) (Some a)) (g refl refl)

left_turn : (x : Bool) (a b c : Fault) → earlier (cond x (Some b) (Some a)) (Some c) ≡ cond x (cond (is_before c b) (Some c) (Some b)) (cond (is_before c a) (Some c) (Some a))
left_turn true a b c = refl
left_turn false a b c = refl

right_turn : (y : Bool) (a b c : Fault) → earlier (Some a) (cond y (Some c) (Some b)) ≡ cond y (cond (is_before c a) (Some c) (Some a)) (cond (is_before b a) (Some b) (Some a))
right_turn true a b c = refl
right_turn false a b c = refl

under : (a b : Fault) → is_before a b ≡ true → key a < key b
under a b h = ltb-true (key a) (key b) (sym (before_is a b) ∙ h)

over : (a b : Fault) → is_before a b ≡ false → key b ≤ key a
over a b h = ltb-false (key a) (key b) (sym (before_is a b) ∙ h)

true_by : (a b : Fault) → key a < key b → is_before a b ≡ true
true_by a b h = before_is a b ∙ grind (arith, nat_tests, h)

false_by : (a b : Fault) → key b ≤ key a → is_before a b ≡ false
false_by a b h = before_is a b ∙ le-ltb (key a) (key b) h

earlier_three : (a b c : Fault) → earlier (earlier (Some a) (Some b)) (Some c) ≡ earlier (Some a) (earlier (Some b) (Some c))
earlier_three a b c =
    left_turn (is_before b a) a b c
    ∙ turns (is_before b a) (is_before c b) (is_before c a) a b c
    (λ f g. true_by c a (omega (arith, under b a f, under c b g))) (λ f g. false_by c a (omega (arith, over b a f, over c b g)))
    ∙ sym (right_turn (is_before c b) a b c)

pub earlier_earlier : (x y z : Option Fault) → earlier (earlier x y) z ≡ earlier x (earlier y z)
earlier_earlier None y z = refl
earlier_earlier (Some a) None z = refl
earlier_earlier (Some a) (Some b) None = none_after (is_before b a)
  where
    none_after : (t : Bool) → earlier (cond t (Some b) (Some a)) None ≡ cond t (Some b) (Some a)
    none_after true = refl
    none_after false = refl
earlier_earlier (Some a) (Some b) (Some c) = earlier_three a b c

pub first_append : (xs ys : List Fault) → first_of (xs ++ ys) ≡ earlier (first_of xs) (first_of ys)
first_append [] ys = refl
first_append (x ∷ xs) ys = ap (the_first x) (first_append xs ys) ∙ sym (earlier_earlier (Some x) (first_of xs) (first_of ys))

-- two faults of one place and kind are one
kind_of_rank : (j k : FaultKind) → rank j ≡ rank k → j ≡ k
kind_of_rank TooDeep TooDeep e = refl
kind_of_rank TooManyGroups TooManyGroups e = refl
kind_of_rank BadName BadName e = refl
kind_of_rank BadCount BadCount e = refl
kind_of_rank BadReference BadReference e = refl
kind_of_rank NotFixedWidth NotFixedWidth e = refl
kind_of_rank _ _ e = absurd (omega (arith, e))

same_key : (a b : Fault) → key a ≡ key b → a ≡ b
same_key a b e =
    let p : a.at ≡ b.at = omega (arith, e, rank_small a.kind, rank_small b.kind) in
    let k : a.kind ≡ b.kind = kind_of_rank a.kind b.kind (omega (arith, e, p)) in
    λ i. record { at = p i; kind = k i }

swap : (x y : Bool) (a b : Fault) → is_before b a ≡ x → is_before a b ≡ y → cond x (Some b) (Some a) ≡ cond y (Some a) (Some b)
swap true true a b f g = absurd (omega (arith, under b a f, under a b g))
swap true false a b f g = refl
swap false true a b f g = refl
swap false false a b f g = ap Some (same_key a b (omega (arith, over b a f, over a b g)))

pub earlier_swap : (x y : Option Fault) → earlier x y ≡ earlier y x
earlier_swap None None = refl
earlier_swap None (Some b) = refl
earlier_swap (Some a) None = refl
earlier_swap (Some a) (Some b) = swap (is_before b a) (is_before a b) a b refl refl

pub nothing_noted : (o : Option Fault) → o ≡ note o []
nothing_noted None = refl
nothing_noted (Some a) = refl

-- what is found is noted one after another
pub note_more : (o : Option Fault) (xs ys : List Fault) → note (note o xs) ys ≡ note o (xs ++ ys)
note_more o xs ys = earlier_earlier o (first_of xs) (first_of ys) ∙ ap (earlier o) (sym (first_append xs ys))
