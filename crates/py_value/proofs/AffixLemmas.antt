-- One turn of the loop over the texts of a tuple.
use Rattle.std.proofs.Common.{◌≡◌, ◌∙◌, ◌<◌, ◌≤◌, ◌+◌, ℕ, Bool, true, false, List, length, drop, get_or, Result, Ok, Err, ap, sym}
use Rattle.py_base.specs.declared.error.PyError.{PyError}
use Rattle.py_value.specs.declared.value.Value.{Value}
use Rattle.py_value.specs.Affix.{text_passes, some_passes, or_else}
use Rattle.py_value.specs.ValueView.{plain_of, values_of}
use Rattle.py_value.proofs.ListLemmas.{values_from, values_end}

one_first : (p : List ℕ → Bool) (vs : List Value) (i : ℕ) (d : Value) (r : Result Bool PyError) → i < length vs → d ≡ get_or vs i d → r ≡ text_passes p (plain_of d) → or_else r (some_passes p (values_of (drop (i + 1) vs))) ≡ some_passes p (values_of (drop i vs))
one_first p vs i d r lt is h = ap (λ x. or_else x (some_passes p (values_of (drop (i + 1) vs)))) h ∙ sym (ap (some_passes p) (values_from vs i d lt is))

pub fits_next : (p : List ℕ → Bool) (vs : List Value) (i : ℕ) (d : Value) → i < length vs → d ≡ get_or vs i d → Ok false ≡ text_passes p (plain_of d) → some_passes p (values_of (drop (i + 1) vs)) ≡ some_passes p (values_of (drop i vs))
fits_next p vs i d lt is h = one_first p vs i d (Ok false) lt is h

pub fits_here : (p : List ℕ → Bool) (vs : List Value) (i : ℕ) (d : Value) → i < length vs → d ≡ get_or vs i d → Ok true ≡ text_passes p (plain_of d) → Ok true ≡ some_passes p (values_of (drop i vs))
fits_here p vs i d lt is h = one_first p vs i d (Ok true) lt is h

pub fits_not : (p : List ℕ → Bool) (vs : List Value) (i : ℕ) (d : Value) (e : PyError) → i < length vs → d ≡ get_or vs i d → Err e ≡ text_passes p (plain_of d) → Err e ≡ some_passes p (values_of (drop i vs))
fits_not p vs i d e lt is h = one_first p vs i d (Err e) lt is h

pub none_fits : (p : List ℕ → Bool) (vs : List Value) (i : ℕ) → length vs ≤ i → Ok false ≡ some_passes p (values_of (drop i vs))
none_fits p vs i le = sym (ap (some_passes p) (values_end vs i le))
