-- Laws of lists of attempts.
use Rattle.std.proofs.Common.{◌≡◌, refl, sym, ◌∙◌, ap, ℕ, ◌+◌, Bool, true, false, List, [], ◌∷◌, ◌++◌, append_assoc, add_assoc, zero-add, arith}
use Rattle.std.specs.Prelude.{Option, Some}
use Rattle.std.specs.Option.{option_or}
use Rattle.sre_match.specs.Attempts.{Attempt, failed, passed, Marks, Next, stay, charge, after, chosen}

-- at least one attempt
abbrev pub IsFull : List Attempt → Type 0
IsFull [] = ⊥
IsFull (a ∷ as') = Unit {0}

-- a continuation that always has an attempt
abbrev pub IsTotal : Next → Type 0
IsTotal f = (e : ℕ) (m : Marks) → IsFull (f e m)

pub charge_zero : (xs : List Attempt) → charge 0 xs ≡ xs
charge_zero [] = refl
charge_zero (failed c ∷ xs) = ap (λ k. failed k ∷ xs) (zero-add c)
charge_zero (passed c e m ∷ xs) = ap (λ k. passed k e m ∷ xs) (zero-add c)

pub charge_charge : (c d : ℕ) (xs : List Attempt) → charge c (charge d xs) ≡ charge (c + d) xs
charge_charge c d [] = refl
charge_charge c d (failed k ∷ xs) = ap (λ n. failed n ∷ xs) (sym (add_assoc c d k))
charge_charge c d (passed k e m ∷ xs) = ap (λ n. passed n e m ∷ xs) (sym (add_assoc c d k))

pub charge_append : (c : ℕ) (xs ys : List Attempt) → IsFull xs → charge c (xs ++ ys) ≡ charge c xs ++ ys
charge_append c [] ys h = absurd h
charge_append c (x ∷ xs) ys h = refl

pub charge_full : (c : ℕ) (xs : List Attempt) → IsFull xs → IsFull (charge c xs)
charge_full c [] h = h
charge_full c (x ∷ xs) h = tt

pub append_full : (xs ys : List Attempt) → IsFull xs → IsFull (xs ++ ys)
append_full [] ys h = absurd h
append_full (x ∷ xs) ys h = tt

pub append_full_right : (xs ys : List Attempt) → IsFull ys → IsFull (xs ++ ys)
append_full_right [] ys h = h
append_full_right (x ∷ xs) ys h = tt

pub after_full : (xs : List Attempt) (f : Next) → IsFull xs → IsTotal f → IsFull (after xs f)
after_full [] f h t = h
after_full (failed c ∷ xs) f h t = tt
after_full (passed c e m ∷ xs) f h t = append_full (charge c (f e m)) (after xs f) (charge_full c (f e m) (t e m))

pub after-append : (xs ys : List Attempt) (f : Next) → after (xs ++ ys) f ≡ after xs f ++ after ys f
after-append [] ys f = refl
after-append (failed c ∷ xs) ys f = ap (λ zs. failed c ∷ zs) (after-append xs ys f)
after-append (passed c e m ∷ xs) ys f =
    ap (λ zs. charge c (f e m) ++ zs) (after-append xs ys f) ∙ sym (append_assoc (charge c (f e m)) (after xs f) (after ys f))

pub after-charge : (c : ℕ) (xs : List Attempt) (f : Next) → IsTotal f → after (charge c xs) f ≡ charge c (after xs f)
after-charge c [] f t = refl
after-charge c (failed d ∷ xs) f t = refl
after-charge c (passed d e m ∷ xs) f t =
    ap (λ zs. zs ++ after xs f) (sym (charge_charge c d (f e m))) ∙ sym (charge_append c (charge d (f e m)) (after xs f) (charge_full d (f e m) (t e m)))

-- after is associative, where what comes last always has an attempt
pub after_after : (xs : List Attempt) (f g : Next) → IsTotal g → after (after xs f) g ≡ after xs (λ e m. after (f e m) g)
after_after [] f g t = refl
after_after (failed c ∷ xs) f g t = ap (λ zs. failed c ∷ zs) (after_after xs f g t)
after_after (passed c e m ∷ xs) f g t =
    after-append (charge c (f e m)) (after xs f) g ∙ (λ i. after-charge c (f e m) g t i ++ after_after xs f g t i)

add-zero' : (c : ℕ) → c + 0 ≡ c
add-zero' c = omega arith

pub after_stay : (xs : List Attempt) → after xs stay ≡ xs
after_stay [] = refl
after_stay (failed c ∷ xs) = ap (λ zs. failed c ∷ zs) (after_stay xs)
after_stay (passed c e m ∷ xs) = λ i. passed (add-zero' c i) e m ∷ after_stay xs i

append_nil : (xs : List Attempt) → xs ++ [] ≡ xs
append_nil [] = refl
append_nil (x ∷ xs) = ap (λ zs. x ∷ zs) (append_nil xs)

pub stay_after : (p : ℕ) (m : Marks) (f : Next) → after (stay p m) f ≡ f p m
stay_after p m f = append_nil (charge 0 (f p m)) ∙ charge_zero (f p m)

chosen_step : (b : Bool) (o r : Option (ℕ × Marks)) (x : ℕ × Marks) (rest : Option (ℕ × Marks)) → r ≡ option_or o rest → (elim b as (λ _. Option (ℕ × Marks)) [ true ↦ Some x | false ↦ r ]) ≡ option_or (elim b as (λ _. Option (ℕ × Marks)) [ true ↦ Some x | false ↦ o ]) rest
chosen_step true o r x rest h = refl
chosen_step false o r x rest h = h

pub chosen-append : (test : ℕ → Bool) (xs ys : List Attempt) → chosen test (xs ++ ys) ≡ option_or (chosen test xs) (chosen test ys)
chosen-append test [] ys = refl
chosen-append test (failed c ∷ xs) ys = chosen-append test xs ys
chosen-append test (passed c e m ∷ xs) ys =
    chosen_step (test e) (chosen test xs) (chosen test (xs ++ ys)) (e, m) (chosen test ys) (chosen-append test xs ys)

pub chosen-charge : (test : ℕ → Bool) (c : ℕ) (xs : List Attempt) → chosen test (charge c xs) ≡ chosen test xs
chosen-charge test c [] = refl
chosen-charge test c (failed d ∷ xs) = refl
chosen-charge test c (passed d e m ∷ xs) = refl
