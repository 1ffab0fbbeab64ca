-- What the tree of a code answers, or that there is none.
use Rattle.std.proofs.Common.{◌≡◌, ◌∙◌, ◌⊎◌, ◌+◌, inl, inr, ℕ, Bool, true, false, List, Some, Result, Ok, Err, refl, sym, ap, subst}
use Rattle.py_base.specs.Reading.{unless}
use Rattle.py_base.specs.declared.error.PyError.{PyError}
use Rattle.py_base.specs.declared.error.PyError.TheVariants.{NoMemory, InvalidCode}
use Rattle.py_value.specs.Asking.{Meets, no_memory}
use Rattle.py_value.specs.Plain.{Plain, Plains, empty, ◌then◌, push_value, value_at}
use Rattle.py_value.proofs.AskingLemmas.{unless_map}
use Rattle.sre_code.specs.PlainTree.{PlainTree}
use Rattle.sre_code.specs.Spelling.{Spells, SpellsNothing}
use Rattle.py_sre.specs.Replacing.{Piece}
use Rattle.py_sre.specs.Substituting.{OfCode, appended, each_replaced, followed, paired, replaced_with}
use Rattle.py_sre.specs.Template.{◌and_ok◌, template, values_from}
use Rattle.py_sre.proofs.ItemLemmas.{from_some}

appended_nothing : (vs : Plains) → appended vs empty ≡ vs
appended_nothing empty = refl
appended_nothing (v then vs) = ap (λ ws. v then ws) (appended_nothing vs)

appended_more : (vs : Plains) (v : Plain) (ws : Plains) → appended vs (v then ws) ≡ appended (push_value vs v) ws
appended_more empty v ws = refl
appended_more (u then vs) v ws = ap (λ xs. u then xs) (appended_more vs v ws)

unless_case : (b : Bool) (P Q : Type 0) → (P → Q) → unless b P → unless b Q
unless_case true P Q f p = tt
unless_case false P Q f p = f p

pub no_code : {A : Type 0} (words : List ℕ) (groups : ℕ) (answer : PlainTree → Result A PyError) (e : PyError) → (e ≡ NoMemory) ⊎ (e ≡ InvalidCode) → (e ≡ InvalidCode → SpellsNothing words groups) → OfCode words groups answer (Err e)
no_code words groups answer e (inl is) nothing = subst (λ x. OfCode words groups answer (Err x)) (sym is) tt
no_code words groups answer e (inr is) nothing = subst (λ x. OfCode words groups answer (Err x)) (sym is) (inl (nothing is, refl))

abbrev err_of : (A : Type 0) → PyError → Result A PyError
err_of A e = Err e

pub no_template : {A : Type 0} (words : List ℕ) (groups : ℕ) (t : PlainTree) (b : Bool) (list : Plains) (next : PlainTree → List Piece → Result A PyError) (e : PyError) → Spells words groups t → Meets {A = List Piece} (template b groups list) (Err e) → OfCode words groups (λ u. template b groups list and_ok λ pieces. next u pieces) (Err e)
no_template {A = A} words groups t b list next e spelled m =
    unless_case (no_memory e) (Err e ≡ template b groups list)
    ((SpellsNothing words groups × (err_of A e ≡ Err InvalidCode)) ⊎ ((u : PlainTree) × (Spells words groups u × (Err e ≡ (template b groups list and_ok λ pieces. next u pieces)))))
    (λ is. inr (t, (spelled, ap (λ r. r and_ok λ pieces. next t pieces) is))) m

pub by_tree : {A : Type 0} (words : List ℕ) (groups : ℕ) (t : PlainTree) (b : Bool) (list : Plains) (next : PlainTree → List Piece → Result A PyError) (ps : List Piece) (r : Result A PyError) → Spells words groups t → Ok ps ≡ template b groups list → Meets (next t ps) r → OfCode words groups (λ u. template b groups list and_ok λ pieces. next u pieces) r
by_tree words groups t b list next ps r spelled h m =
    unless_map r (r ≡ next t ps)
    ((SpellsNothing words groups × (r ≡ Err InvalidCode)) ⊎ ((u : PlainTree) × (Spells words groups u × (r ≡ (template b groups list and_ok λ pieces. next u pieces)))))
    (λ is. inr (t, (spelled, is ∙ ap (λ x. x and_ok λ pieces. next t pieces) h))) m

-- values put last one by one
followed_more : (vs : Plains) (v : Plain) (r : Result Plains PyError) → followed vs (r and_ok λ more. Ok (v then more)) ≡ followed (push_value vs v) r
followed_more vs v (Err e) = refl
followed_more vs v (Ok ws) = ap Ok (appended_more vs v ws)

pub nothing_followed : (r : Result Plains PyError) → followed empty r ≡ r
nothing_followed (Ok vs) = refl
nothing_followed (Err e) = refl

-- a subject goes to the others
pub subject_more : (b : Bool) (t : PlainTree) (pieces : List Piece) (unset : List ℕ) (count i : ℕ) (vs : Plains) (v : Plain) (out : Plains) (made : Plain) (whole : Result Plains PyError) → value_at vs i ≡ Some v → paired (replaced_with b t pieces unset v count) ≡ Ok made → followed out (each_replaced b t pieces unset count (values_from i vs)) ≡ whole → followed (push_value out made) (each_replaced b t pieces unset count (values_from (i + 1) vs)) ≡ whole
subject_more b t pieces unset count i vs v out made whole there is h =
    sym (followed_more out made (each_replaced b t pieces unset count (values_from (i + 1) vs)))
    ∙ sym (ap (λ (r : Result Plain PyError). followed out (r and_ok λ m. each_replaced b t pieces unset count (values_from (i + 1) vs) and_ok λ more. Ok (m then more))) is)
    ∙ sym (ap (λ (l : Plains). followed out (each_replaced b t pieces unset count l)) (from_some vs i v there))
    ∙ h

-- one of another kind ends them
subject_less : (b : Bool) (t : PlainTree) (pieces : List Piece) (unset : List ℕ) (count i : ℕ) (vs : Plains) (v : Plain) (out : Plains) (e : PyError) (whole : Result Plains PyError) → value_at vs i ≡ Some v → paired (replaced_with b t pieces unset v count) ≡ Err e → followed out (each_replaced b t pieces unset count (values_from i vs)) ≡ whole → whole ≡ Err e
subject_less b t pieces unset count i vs v out e whole there is h =
    sym h
    ∙ ap (λ (l : Plains). followed out (each_replaced b t pieces unset count l)) (from_some vs i v there)
    ∙ ap (λ (r : Result Plain PyError). followed out (r and_ok λ m. each_replaced b t pieces unset count (values_from (i + 1) vs) and_ok λ more. Ok (m then more))) is

pub subject_fails : (b : Bool) (t : PlainTree) (pieces : List Piece) (unset : List ℕ) (count i : ℕ) (vs : Plains) (v : Plain) (out : Plains) (e : PyError) (whole : Result Plains PyError) → value_at vs i ≡ Some v → Meets {A = Plain} (paired (replaced_with b t pieces unset v count)) (Err e) → followed out (each_replaced b t pieces unset count (values_from i vs)) ≡ whole → Meets {A = Plains} whole (Err e)
subject_fails b t pieces unset count i vs v out e whole there m h =
    unless_case (no_memory e) (Err e ≡ paired (replaced_with b t pieces unset v count)) (Err e ≡ whole) (λ is. sym (subject_less b t pieces unset count i vs v out e whole there (sym is) h)) m

-- and at the end they are all
pub no_subject : (b : Bool) (t : PlainTree) (pieces : List Piece) (unset : List ℕ) (count i : ℕ) (vs : Plains) (out : Plains) (whole : Result Plains PyError) → values_from i vs ≡ empty → followed out (each_replaced b t pieces unset count (values_from i vs)) ≡ whole → whole ≡ Ok out
no_subject b t pieces unset count i vs out whole ended h =
    sym h
    ∙ ap (λ (l : Plains). followed out (each_replaced b t pieces unset count l)) ended
    ∙ ap Ok (appended_nothing out)
