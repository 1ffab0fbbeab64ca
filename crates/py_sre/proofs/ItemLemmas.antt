-- The items of a list that makes a template, one after another.
use Rattle.std.proofs.Common.{◌≡◌, ◌∙◌, ◌≤◌, ◌+◌, ℕ, zero, suc, add-one, Bool, true, false, not, List, [], ◌∷◌, ◌++◌, append_assoc, Some, None, Result, Ok, Err, refl, sym, ap, arith}
use Rattle.std.proofs.lemmas.List.{append-nil}
use Rattle.py_base.specs.declared.error.PyError.{PyError}
use Rattle.py_base.specs.Reading.{unless}
use Rattle.py_value.specs.Asking.{Meets, no_memory}
use Rattle.py_value.specs.Plain.{Plain, Plains, empty, ◌then◌, value_at, size_of_values}
use Rattle.py_sre.specs.Replacing.{Piece}
use Rattle.py_sre.specs.Template.{◌and_ok◌, joined, piece_at, pieces_from, values_from}

-- the values from a place on begin with the one there
pub from_some : (vs : Plains) (i : ℕ) (v : Plain) → value_at vs i ≡ Some v → values_from i vs ≡ (v then values_from (i + 1) vs)
from_some empty zero v h = absurd (cc h)
from_some empty (suc i) v h = absurd (cc h)
from_some (w then vs) zero v h = let is : w ≡ v = cc h in ap (λ x. x then vs) is
from_some (w then vs) (suc i) v h = rw add-one (rw add-one at (from_some vs i v h))

-- and at the end there is none
pub from_end : (vs : Plains) (i : ℕ) → size_of_values vs ≤ i → values_from i vs ≡ empty
from_end empty zero h = refl
from_end empty (suc i) h = refl
from_end (v then vs) zero h = absurd (omega (arith, h))
from_end (v then vs) (suc i) h = from_end vs i (omega (arith, h))

pub from_none : (vs : Plains) (i : ℕ) → value_at vs i ≡ None → values_from i vs ≡ empty
from_none empty zero h = refl
from_none empty (suc i) h = refl
from_none (v then vs) zero h = absurd (cc h)
from_none (v then vs) (suc i) h = from_none vs i h

pub some_within : (vs : Plains) (i : ℕ) (v : Plain) → value_at vs i ≡ Some v → i + 1 ≤ size_of_values vs
some_within empty zero v h = absurd (cc h)
some_within empty (suc i) v h = absurd (cc h)
some_within (w then vs) zero v h = omega arith
some_within (w then vs) (suc i) v h = let more = some_within vs i v h in omega (arith, more)

pub joined_nothing : (r : Result (List Piece) PyError) → joined [] r ≡ r
joined_nothing (Ok ps) = refl
joined_nothing (Err e) = refl

joined_more : (ps : List Piece) (p : Piece) (r : Result (List Piece) PyError) → joined ps (r and_ok λ qs. Ok (p ∷ qs)) ≡ joined (ps ++ p ∷ []) r
joined_more ps p (Ok qs) = ap Ok (sym (append_assoc ps (p ∷ []) qs))
joined_more ps p (Err e) = refl

-- a piece that was read goes to the others
pub one_more : (b : Bool) (groups : ℕ) (turn : Bool) (i : ℕ) (vs : Plains) (v : Plain) (ps : List Piece) (p : Piece) (whole : Result (List Piece) PyError) → value_at vs i ≡ Some v → piece_at b groups turn i v ≡ Ok p → joined ps (pieces_from b groups turn i (values_from i vs)) ≡ whole → joined (ps ++ p ∷ []) (pieces_from b groups (not turn) (i + 1) (values_from (i + 1) vs)) ≡ whole
one_more b groups turn i vs v ps p whole there is h =
    sym (joined_more ps p (pieces_from b groups (not turn) (i + 1) (values_from (i + 1) vs)))
    ∙ sym (ap (λ (r : Result Piece PyError). joined ps (r and_ok λ q. pieces_from b groups (not turn) (i + 1) (values_from (i + 1) vs) and_ok λ qs. Ok (q ∷ qs))) is)
    ∙ sym (ap (λ (l : Plains). joined ps (pieces_from b groups turn i l)) (from_some vs i v there))
    ∙ h

-- one that is none ends them
pub one_less : (b : Bool) (groups : ℕ) (turn : Bool) (i : ℕ) (vs : Plains) (v : Plain) (ps : List Piece) (e : PyError) (whole : Result (List Piece) PyError) → value_at vs i ≡ Some v → piece_at b groups turn i v ≡ Err e → joined ps (pieces_from b groups turn i (values_from i vs)) ≡ whole → whole ≡ Err e
one_less b groups turn i vs v ps e whole there is h =
    sym h
    ∙ ap (λ (l : Plains). joined ps (pieces_from b groups turn i l)) (from_some vs i v there)
    ∙ ap (λ (r : Result Piece PyError). joined ps (r and_ok λ q. pieces_from b groups (not turn) (i + 1) (values_from (i + 1) vs) and_ok λ qs. Ok (q ∷ qs))) is

-- and at the end they are all
pub no_more : (b : Bool) (groups : ℕ) (turn : Bool) (i : ℕ) (vs : Plains) (ps : List Piece) (whole : Result (List Piece) PyError) → values_from i vs ≡ empty → joined ps (pieces_from b groups turn i (values_from i vs)) ≡ whole → whole ≡ Ok ps
no_more b groups turn i vs ps whole ended h =
    sym h
    ∙ ap (λ (l : Plains). joined ps (pieces_from b groups turn i l)) ended
    ∙ ap Ok (append-nil ps)

unless_case : (b : Bool) (P Q : Type 0) → (P → Q) → unless b P → unless b Q
unless_case true P Q f p = tt
unless_case false P Q f p = f p

-- so do they where memory may have run out
pub less_meets : (b : Bool) (groups : ℕ) (turn : Bool) (i : ℕ) (vs : Plains) (v : Plain) (ps : List Piece) (e : PyError) (whole : Result (List Piece) PyError) → value_at vs i ≡ Some v → Meets {A = Piece} (piece_at b groups turn i v) (Err e) → joined ps (pieces_from b groups turn i (values_from i vs)) ≡ whole → Meets {A = List Piece} whole (Err e)
less_meets b groups turn i vs v ps e whole there m h =
    unless_case (no_memory e) (Err e ≡ piece_at b groups turn i v) (Err e ≡ whole) (λ is. sym (one_less b groups turn i vs v ps e whole there (sym is) h)) m
