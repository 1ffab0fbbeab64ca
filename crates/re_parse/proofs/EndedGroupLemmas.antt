-- Which groups have ended, by number, with one more.
use Rattle.std.proofs.Common.{◌≡◌, refl, sym, ◌∙◌, ap, ℕ, zero, suc, ◌<◌, ◌==◌, ◌||◌, Bool, true, false, List, [], ◌∷◌, ◌++◌, length, get_or, set}
use Rattle.std.proofs.lemmas.Bool.{eqb-true, eqb-false}
use Rattle.std.proofs.lemmas.Grind.{get_or-set_at}
use Rattle.std.proofs.lemmas.List.{get_or-set_other}
use Rattle.re_tree.specs.Faults.{has_number}
use Rattle.re_parse.specs.EndedGroups.{AreNumbers, SayTheSame, SayAlso}

or_false : (b : Bool) → b ≡ (b || false)
or_false true = refl
or_false false = refl

or_true : (b : Bool) → true ≡ (b || true)
or_true true = refl
or_true false = refl

-- one that is false at the end
pushed_false : (bs : List Bool) (n : ℕ) → get_or (bs ++ false ∷ []) n false ≡ get_or bs n false
pushed_false [] zero = refl
pushed_false [] (suc n) = refl
pushed_false (b ∷ bs) zero = refl
pushed_false (b ∷ bs) (suc n) = pushed_false bs n

pub same_at_first : (bs : List Bool) → SayTheSame bs bs
same_at_first bs = λ n. refl

pub same_pushed : (bs longer : List Bool) → SayTheSame bs longer → SayTheSame bs (longer ++ false ∷ [])
same_pushed bs longer h = λ n. pushed_false longer n ∙ h n

-- one that is made true
set_by : (bs : List Bool) (number n : ℕ) (b : Bool) → (number == n) ≡ b → number < length bs → get_or (set bs number true) n false ≡ (get_or bs n false || b)
set_by bs number n true e h = get_or-set_at bs number n true false (sym (eqb-true number n e)) h ∙ or_true (get_or bs n false)
set_by bs number n false e h = get_or-set_other bs number n true false (λ k. eqb-false number n e (sym k)) ∙ or_false (get_or bs n false)

set_true : (bs : List Bool) (number n : ℕ) → number < length bs → get_or (set bs number true) n false ≡ (get_or bs n false || number == n)
set_true bs number n h = set_by bs number n (number == n) refl h

pub also_set : (bs longer : List Bool) (number : ℕ) → SayTheSame bs longer → number < length longer → SayAlso number bs (set longer number true)
also_set bs longer number h k = λ n. set_true longer number n k ∙ ap (λ b. b || number == n) (h n)

-- the list with one number more
any_pushed : (order : List ℕ) (number n : ℕ) → has_number n (order ++ number ∷ []) ≡ (has_number n order || number == n)
any_pushed [] number n = sym (or_false (number == n))
any_pushed (k ∷ order) number n = or_more (k == n) (has_number n order) (number == n) (has_number n (order ++ number ∷ [])) (any_pushed order number n)
  where
    or_more : (a b c d : Bool) → d ≡ (b || c) → (a || d) ≡ ((a || b) || c)
    or_more true b c d e = refl
    or_more false b c d e = e

pub numbers_pushed : (ended longer : List Bool) (order : List ℕ) (number : ℕ) → AreNumbers ended order → SayAlso number ended longer → AreNumbers longer (order ++ number ∷ [])
numbers_pushed ended longer order number h k = λ n. k n ∙ ap (λ b. b || number == n) (h n) ∙ sym (any_pushed order number n)
