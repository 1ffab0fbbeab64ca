-- A text repeated.
use Rattle.std.proofs.Common.{◌≡◌, ◌∙◌, ◌+◌, ℕ, zero, suc, List, [], ◌∷◌, ◌++◌, sym, ap, refl, append_assoc, append-nil, chars, arith, true, false, ◌<◌, ℤ, pos, negsuc, length, length-append}
use Rattle.std.specs.Prelude.{int_le, ◌==◌}
use Rattle.std.proofs.lemmas.Bool.Decides.{nat_tests}
use Rattle.std.specs.Str.{IsUtf8}
use Rattle.std.proofs.lemmas.Str.{chars-append}
use Rattle.py_text.specs.Sums.{copies, times}

-- one more copy, at the end
copies_suc : (n : ℕ) (L : List ℕ) → copies n L ++ L ≡ copies (suc n) L
copies_suc zero L = sym (append-nil L)
copies_suc (suc n) L = append_assoc L (copies n L) L ∙ ap (λ (l : List ℕ). L ++ l) (copies_suc n L)

pub copies_more : (n : ℕ) (L : List ℕ) → copies n L ++ L ≡ copies (n + 1) L
copies_more n L = copies_suc n L ∙ ap (λ k. copies k L) {x = suc n} {y = n + 1} (omega arith)

-- one more text, by its bytes
pub copies_pushed : (n : ℕ) (L old more new : List ℕ) → IsUtf8 old → new ≡ old ++ more → chars more ≡ L → chars old ≡ copies n L → chars new ≡ copies (n + 1) L
copies_pushed n L old more new u e m h = ap chars e ∙ chars-append old more u ∙ ap (λ (l : List ℕ). l ++ chars more) h ∙ ap (λ (l : List ℕ). copies n L ++ l) m ∙ copies_more n L

-- no copies
pub copies_nil : (n : ℕ) → copies n [] ≡ []
copies_nil zero = refl
copies_nil (suc n) = copies_nil n

no_more : (n : ℕ) → int_le (pos n) (pos 0) ≡ true → n ≡ 0
no_more n h = grind (arith, nat_tests)

pub times_none : (v : ℤ) (L : List ℕ) → int_le v (pos 0) ≡ true → [] ≡ times v L
times_none (pos n) L h = sym (ap (λ m. copies m L) (no_more n h))
times_none (negsuc n) L h = refl

times_nil : (v : ℤ) → [] ≡ times v []
times_nil (pos n) = sym (copies_nil n)
times_nil (negsuc n) = refl

pub times_empty : (v : ℤ) (L : List ℕ) → true ≡ (length L == 0) → [] ≡ times v L
times_empty v [] h = times_nil v
times_empty v (x ∷ xs) h = absurd (grind (arith, nat_tests))

-- a number above 0 of copies of a text that is not empty is not empty
some_copies : (n : ℕ) (L : List ℕ) → 0 < n → 0 < length L → copies n L ≡ [] → ⊥
some_copies zero L h i e = omega arith
some_copies (suc n) L h i e = omega (arith, ap length e, length-append L (copies n L))

pub times_some : (v : ℤ) (L : List ℕ) → int_le v (pos 0) ≡ false → false ≡ (length L == 0) → times v L ≡ [] → ⊥
times_some (pos n) L h i e = some_copies n L (grind (arith, nat_tests)) (grind (arith, nat_tests)) e
times_some (negsuc n) L h i e = absurd (cc)
