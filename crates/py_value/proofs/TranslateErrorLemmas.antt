-- Which errors a translated text may come to.
use Rattle.std.proofs.Common.{◌≡◌, ◌⊎◌, inl, inr, ℕ, pos, Bool, true, false, cond, List, [], ◌∷◌, ◌++◌, Option, Some, None, Result, Ok, Err, refl, sym, ◌∙◌, subst}
use Rattle.std.specs.Prelude.{MatchResult}
use Rattle.py_base.specs.declared.error.PyError.{PyError}
use Rattle.py_base.specs.declared.error.PyError.TheVariants.{NoMemory, NotSubscriptable, Translate}
use Rattle.py_base.specs.declared.error.causes.TranslateKind.TheVariants.{Range, Kind}
use Rattle.py_base.specs.declared.error.type_names.ClassName.TheVariants.{Object}
use Rattle.py_int.specs.Boolean.{int_of_bool}
use Rattle.py_value.specs.Asking.{Seen, Comes, no_memory, UnlessOutOfMemory}
use Rattle.py_value.specs.Classes.{class_of}
use Rattle.py_value.specs.Plain.{Plain, none, bool, int, str, bytes, tuple, list, dict, handle}
use Rattle.py_value.specs.Translate.{Goes, Translates, has_items, char_of, put_char, put_found, put_looked_up, translate_error}
use Rattle.py_value.proofs.AskingLemmas.{unless_or}

-- the error of `translate`, or memory ran out
abbrev IsNamed : PyError → Type 0
IsNamed e = (translate_error e ≡ true) ⊎ (e ≡ NoMemory)

one_named : (e d : PyError) → translate_error e ≡ true → e ≡ d → IsNamed d
one_named e d named is = inl (subst (λ x. translate_error x ≡ true) is named)

char_named : (out : List ℕ) (o : Option ℕ) (d : PyError) → put_char out o ≡ Err d → IsNamed d
char_named out None d h = one_named (Translate Range) d refl (cc h)
char_named out (Some c) d h = absurd (cc h)

found_named : (out : List ℕ) (v : Plain) (d : PyError) → put_found out v ≡ Err d → IsNamed d
found_named out none d h = absurd (cc h)
found_named out (str cs) d h = absurd (cc h)
found_named out (bool b) d h = char_named out (char_of (int_of_bool b)) d h
found_named out (int z) d h = char_named out (char_of z) d h
found_named out (bytes bs) d h = one_named (Translate Kind) d refl (cc h)
found_named out (tuple vs) d h = one_named (Translate Kind) d refl (cc h)
found_named out (list vs) d h = one_named (Translate Kind) d refl (cc h)
found_named out (dict es) d h = one_named (Translate Kind) d refl (cc h)
found_named out (handle x) d h = one_named (Translate Kind) d refl (cc h)

kept_named : (b : Bool) (out : List ℕ) (d : PyError) → cond b (Err NoMemory) (Ok out) ≡ Err d → IsNamed d
kept_named true out d h = let is : NoMemory ≡ d = cc h in inr (sym is)
kept_named false out d h = absurd (cc h)

looked_up_named : (c : ℕ) (out : List ℕ) (found : Result Plain PyError) (d : PyError) → put_looked_up c out found ≡ Err d → IsNamed d
looked_up_named c out (Ok v) d h = found_named out v d h
looked_up_named c out (Err x) d h = kept_named (no_memory x) (out ++ c ∷ []) d h

-- of two steps the first that fails has the error
either_named : {A : Type 0} (one : Result A PyError) (More : A → Type 0) (s new : Seen) (r : Result (List ℕ) PyError) (e : PyError) → r ≡ Err e → ((d : PyError) → one ≡ Err d → IsNamed d) → ((a : A) → More a → IsNamed e) → MatchResult one More (λ d. (r ≡ Err d) × (new ≡ s)) → IsNamed e
either_named (Ok a) More s new r e is first more h = more a h
either_named (Err d) More s new r e is first more h = let same : d ≡ e = cc (sym h.0 ∙ is) in subst (λ x. IsNamed x) same (first d refl)

goes_named : (v : Plain) (cs out : List ℕ) (old new : Seen) (r : Result (List ℕ) PyError) (e : PyError) → r ≡ Err e → Goes v cs out old new r → IsNamed e
goes_named v [] out old new r e is h = absurd (cc (sym h.0 ∙ is))
goes_named v (c ∷ cs) out old new r e is h =
    either_named (put_looked_up c out h.0) (λ more. Goes v cs more h.1 new r) h.1 new r e is (λ d fails. looked_up_named c out h.0 d fails) (λ more g. goes_named v cs more h.1 new r e is g) h.3

handle_named : (b : Bool) (has : Result (Unit {0}) PyError) (d : PyError) → has ≡ Err d → has ≡ cond b (Ok tt) (Err (NotSubscriptable Object)) → IsNamed d
handle_named true has d is h = absurd (cc (sym h ∙ is))
handle_named false has d is h = one_named (NotSubscriptable Object) d refl (cc (sym h ∙ is))

items_named : (v : Plain) (s : Seen) (has : Result (Unit {0}) PyError) (d : PyError) → has ≡ Err d → Comes s s (has_items v) has → IsNamed d
items_named none s has d is h = one_named (NotSubscriptable (class_of none)) d refl (cc (sym h.0 ∙ is))
items_named (bool b) s has d is h = one_named (NotSubscriptable (class_of (bool b))) d refl (cc (sym h.0 ∙ is))
items_named (int z) s has d is h = one_named (NotSubscriptable (class_of (int z))) d refl (cc (sym h.0 ∙ is))
items_named (str cs) s has d is h = absurd (cc (sym h.0 ∙ is))
items_named (bytes bs) s has d is h = absurd (cc (sym h.0 ∙ is))
items_named (tuple vs) s has d is h = absurd (cc (sym h.0 ∙ is))
items_named (list vs) s has d is h = absurd (cc (sym h.0 ∙ is))
items_named (dict es) s has d is h = absurd (cc (sym h.0 ∙ is))
items_named (handle x) s has d is h = handle_named h.0 has d is h.2.0

tested_named : (v : Plain) (cs : List ℕ) (old new : Seen) (r : Result (List ℕ) PyError) (e : PyError) → r ≡ Err e → UnlessOutOfMemory r ((has : Result (Unit {0}) PyError) × Comes old old (has_items v) has × MatchResult has (λ u. Goes v cs [] old new r) (λ d. (r ≡ Err d) × (new ≡ old))) → IsNamed e
tested_named v cs old new r e is h =
    elim (unless_or r ((has : Result (Unit {0}) PyError) × Comes old old (has_items v) has × MatchResult has (λ u. Goes v cs [] old new r) (λ d. (r ≡ Err d) × (new ≡ old))) h) [
      | inr short ↦ inr (let same : e ≡ NoMemory = cc (sym is ∙ short) in same)
      | inl p ↦ either_named p.0 (λ u. Goes v cs [] old new r) old new r e is (λ d fails. items_named v old p.0 d fails p.1) (λ u g. goes_named v cs [] old new r e is g) p.2
    ]

pub translate_errors : (v : Plain) (cs : List ℕ) (old new : Seen) (e : PyError) → Translates v cs old new (Err e) → IsNamed e
translate_errors v cs old new e h = tested_named v cs old new (Err e) e refl h.comes
