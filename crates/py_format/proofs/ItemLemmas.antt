-- The values of a list from a place on, and the parts of a template.
use Rattle.std.proofs.Common.{◌≡◌, ℕ, ◌+◌, ◌<◌, ◌≤◌, suc, zero, add-one, refl, sym, ap, arith, Some, None, List, [], ◌∷◌, drop, get_or, length, ◌==◌}
use Rattle.std.proofs.lemmas.Bool.Decides.{nat_tests}
use Rattle.py_value.specs.Plain.{Plain, Plains, empty, ◌then◌, value_at, size_of_values}
use Rattle.py_format.specs.Percent.Taking.{from}

pub from_some : (vs : Plains) (i : ℕ) (v : Plain) → value_at vs i ≡ Some v → from i vs ≡ v then from (i + 1) vs
from_some empty i v e = absurd (cc)
from_some (w then vs) zero v e = ap (λ (u : Plain). u then vs) (cc)
from_some (w then vs) (suc i) v e = rw add-one (rw add-one at (from_some vs i v e))

pub from_none : (vs : Plains) (i : ℕ) → value_at vs i ≡ None → from i vs ≡ empty
from_none empty zero e = refl
from_none empty (suc i) e = refl
from_none (w then vs) zero e = absurd (cc)
from_none (w then vs) (suc i) e = from_none vs i e

pub from_end : (vs : Plains) (i : ℕ) → size_of_values vs ≤ i → from i vs ≡ empty
from_end empty zero e = refl
from_end empty (suc i) e = refl
from_end (w then vs) zero e = absurd (omega arith)
from_end (w then vs) (suc i) e = from_end vs i (omega arith)

pub size_from : (vs : Plains) (i : ℕ) → i ≤ size_of_values vs → size_of_values (from i vs) + i ≡ size_of_values vs
size_from empty zero le = refl
size_from empty (suc i) le = absurd (omega arith)
size_from (v then vs) zero le = omega arith
size_from (v then vs) (suc i) le = omega (arith, size_from vs i (omega arith))

pub same_test : (i k : ℕ) → (i == (k + i)) ≡ (k == 0)
same_test i zero = grind (arith, nat_tests)
same_test i (suc k) = grind (arith, nat_tests)

-- the part at a place, and those after it
pub item_there : {A : Type 0} (xs : List A) (i : ℕ) (x : A) → i < length xs → x ≡ get_or xs i x → drop i xs ≡ x ∷ drop (i + 1) xs
item_there [] i x h e = absurd (omega (arith, h))
item_there (y ∷ xs) zero x h e = ap (λ z. z ∷ xs) (sym e)
item_there (y ∷ xs) (suc i) x h e = rw add-one (rw add-one at (item_there xs i x (omega (arith, h)) e))

pub none_there : {A : Type 0} (xs : List A) (i : ℕ) → length xs ≤ i → drop i xs ≡ []
none_there [] zero le = refl
none_there [] (suc i) le = refl
none_there (y ∷ xs) zero le = absurd (omega arith)
none_there (y ∷ xs) (suc i) le = none_there xs i (omega arith)
