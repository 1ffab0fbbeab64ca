-- Which ASCII characters are printable.
use Rattle.std.proofs.Common.{◌≡◌, ◌∙◌, ◌+◌, ◌-◌, ◌<◌, ◌≤◌, inl, inr, ℕ, zero, suc, Bool, true, false, not, ◌&&◌, nat_le, refl, sym, ap, subst, arith}
use Rattle.std.proofs.lemmas.Bool.Decides.{nat_tests}
use Rattle.ucd_category.specs.GeneralCategory.{general_category}
use Rattle.ucd_category.specs.GeneralCategoryRows.{general_category_rows}
use Rattle.ucd_table.specs.Rows.{value_in}
use Rattle.py_base.specs.Chars.Classes.{between, is_printable}
use Rattle.py_text.proofs.OccursLemmas.{below_or_last}
use Rattle.py_str.specs.Quote.{is_plain, plain_of}

-- p holds at a and the n - 1 numbers after it
abbrev all_from : (ℕ → Bool) → ℕ → ℕ → Bool
all_from p a zero = true
all_from p a (suc n) = all_from p a n && p (a + n)

both : (a b : Bool) → (a && b) ≡ true → (a ≡ true) × (b ≡ true)
both true b h = (refl, h)
both false b h = absurd (cc)

at : (p : ℕ → Bool) (a n k : ℕ) → all_from p a n ≡ true → k < n → p (a + k) ≡ true
at p a zero k h l = absurd (omega arith)
at p a (suc n) k h l =
    let r = both (all_from p a n) (p (a + n)) h in
    elim (below_or_last k n l) [ inl q ↦ at p a n k r.0 q | inr e ↦ subst (λ (m : ℕ). p (a + m) ≡ true) (sym e) r.1 ]

seen : all_from is_printable 32 95 ≡ true
unfolding general_category value_in general_category_rows
seen = refl

unseen : all_from (λ c. not (is_printable c)) 0 32 ≡ true
unfolding general_category value_in general_category_rows
unseen = refl

pub printable_ascii : (c : ℕ) → 32 ≤ c → c ≤ 126 → is_printable c ≡ true
printable_ascii c l u = subst (λ (m : ℕ). is_printable m ≡ true) {x = 32 + (c - 32)} {y = c} (omega arith) (at is_printable 32 95 (c - 32) seen (omega arith))

not_true : (b : Bool) → not b ≡ true → b ≡ false
not_true true h = absurd (cc)
not_true false h = refl

pub control_unseen : (c : ℕ) → c < 32 → is_printable c ≡ false
control_unseen c l = not_true (is_printable c) (subst (λ (m : ℕ). not (is_printable m) ≡ true) {x = 0 + c} {y = c} (omega arith) (at (λ d. not (is_printable d)) 0 32 c unseen l))

up_to : (c : ℕ) → c ≤ 126 → nat_le c 126 ≡ true
up_to c h = grind (arith, nat_tests)

past : (c : ℕ) → 126 < c → nat_le c 126 ≡ false
past c h = grind (arith, nat_tests)

lower_end : (c : ℕ) → between 32 126 c ≡ true → 32 ≤ c
lower_end c h = grind (arith, nat_tests)

upper_end : (c : ℕ) → between 32 126 c ≡ true → c ≤ 126
upper_end c h = grind (arith, nat_tests)

pub plain_yes : (ascii : Bool) (c : ℕ) → between 32 126 c ≡ true → true ≡ plain_of ascii c
plain_yes true c h = sym (ap (λ (b : Bool). b && nat_le c 126) (printable_ascii c (lower_end c h) (upper_end c h)) ∙ up_to c (upper_end c h))
plain_yes false c h = sym (printable_ascii c (lower_end c h) (upper_end c h))

and_false : (a : Bool) → (a && false) ≡ false
and_false true = refl
and_false false = refl

no_case : (c : ℕ) (l u : Bool) → nat_le 32 c ≡ l → nat_le c 126 ≡ u → (l && u) ≡ false → false ≡ is_plain c
no_case c true true p q h = absurd (cc)
no_case c true false p q h = sym (ap (λ (b : Bool). is_printable c && b) q ∙ and_false (is_printable c))
no_case c false u p q h = sym (ap (λ (b : Bool). b && nat_le c 126) (control_unseen c (grind (arith, nat_tests))))

pub plain_no : (c : ℕ) → between 32 126 c ≡ false → false ≡ plain_of true c
plain_no c h = no_case c (nat_le 32 c) (nat_le c 126) refl refl h
