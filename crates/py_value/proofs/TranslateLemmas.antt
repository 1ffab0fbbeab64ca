-- How each character goes into the whole text that a table changes.
use Rattle.std.proofs.Common.{◌≡◌, ◌∙◌, ◌≤◌, Bool, true, false, cond, ℕ, pos, List, [], ◌∷◌, ◌++◌, Result, Ok, Err, refl, sym, ap, subst, arith, length, chars, IsUtf8}
use Rattle.std.specs.Prelude.{MatchResult}
use Rattle.std.specs.Char.{encode_utf8}
use Rattle.std.proofs.lemmas.Str.{chars_past_char}
use Rattle.py_base.specs.declared.error.PyError.{PyError}
use Rattle.py_base.specs.declared.error.PyError.TheVariants.{NoMemory}
use Rattle.py_value.specs.Asking.{Seen, Answers, Comes, no_memory, UnlessOutOfMemory, Meets}
use Rattle.py_value.specs.Lookup.{item}
use Rattle.py_value.specs.Plain.{Plain, int}
use Rattle.py_value.specs.Translate.{Puts, Goes, GoesOn, Translates, has_items, put_found, put_looked_up}
use Rattle.py_value.proofs.AskingLemmas.{unless_map, unless_free}
use Rattle.py_value.proofs.TextLemmas.{no_chars}

-- a look-up that gave a value, and what was put for it
pub found : {v : Plain} {c : ℕ} {out : List ℕ} {s0 s1 : Seen} {w : Plain} {r : Result (List ℕ) PyError} → Answers (item v (int (pos c))) s0 s1 (Ok w) → Meets (put_found out w) r → Puts v c out s0 s1 r
found {v = v} {c = c} {out = out} {s0 = s0} {s1 = s1} {w = w} {r = r} a m = record {
  kept = a.kept;
  later = a.later;
  comes = unless_map r (r ≡ put_found out w) ((x : Result Plain PyError) × Answers (item v (int (pos c))) s0 s1 x × (r ≡ put_looked_up c out x)) (λ is. (Ok w, a, is)) m;
}

other_error : (e : PyError) → (e ≡ NoMemory → ⊥) → no_memory e ≡ false
other_error NoMemory h = absurd (h refl)
other_error e h = refl

kept_is : (c : ℕ) (out : List ℕ) (e : PyError) → no_memory e ≡ false → put_looked_up c out (Err e) ≡ Ok (out ++ c ∷ [])
kept_is c out e h = ap (λ (b : Bool). cond b (Err NoMemory) (Ok (out ++ c ∷ []))) h

-- a look-up that failed
pub not_found : {v : Plain} {c : ℕ} {out : List ℕ} {s0 s1 : Seen} {e : PyError} {r : Result (List ℕ) PyError} → (e ≡ NoMemory → ⊥) → Answers (item v (int (pos c))) s0 s1 (Err e) → Meets (Ok (out ++ c ∷ [])) r → Puts v c out s0 s1 r
not_found {v = v} {c = c} {out = out} {s0 = s0} {s1 = s1} {e = e} {r = r} other a m = record {
  kept = a.kept;
  later = a.later;
  comes = unless_map r (r ≡ Ok (out ++ c ∷ [])) ((x : Result Plain PyError) × Answers (item v (int (pos c))) s0 s1 x × (r ≡ put_looked_up c out x)) (λ is. (Err e, a, is ∙ sym (kept_is c out e (other_error e other)))) m;
}

one_then : (v : Plain) (c : ℕ) (cs out mid : List ℕ) (s0 s1 s2 : Seen) (r : Result (List ℕ) PyError) → Puts v c out s0 s1 (Ok mid) → Goes v cs mid s1 s2 r → Goes v (c ∷ cs) out s0 s2 r
one_then v c cs out mid s0 s1 s2 r one h =
    (one.comes.0, s1, one.comes.1, subst (λ (x : Result (List ℕ) PyError). MatchResult x (λ more. Goes v cs more s1 s2 r) (λ e. (r ≡ Err e) × (s2 ≡ s1))) one.comes.2 h)

-- a character that was put, and those after it
pub then_more : (v : Plain) (c : ℕ) (cs out mid : List ℕ) (s0 s1 s2 : Seen) (r : Result (List ℕ) PyError) → Puts v c out s0 s1 (Ok mid) → GoesOn v cs mid s1 s2 r → GoesOn v (c ∷ cs) out s0 s2 r
then_more v c cs out mid s0 s1 s2 r one more = record {
  kept = more.kept ∙ one.kept;
  later = omega (arith, one.later, more.later);
  comes = unless_map r (Goes v cs mid s1 s2 r) (Goes v (c ∷ cs) out s0 s2 r) (one_then v c cs out mid s0 s1 s2 r one) more.comes;
}

one_stops : (v : Plain) (c : ℕ) (cs out : List ℕ) (s0 s1 : Seen) (e : PyError) → ((x : Result Plain PyError) × Answers (item v (int (pos c))) s0 s1 x × (Err e ≡ put_looked_up c out x)) → Goes v (c ∷ cs) out s0 s1 (Err e)
one_stops v c cs out s0 s1 e p =
    let r : Result (List ℕ) PyError = Err e in
    (p.0, s1, p.1, subst (λ (x : Result (List ℕ) PyError). MatchResult x (λ more. Goes v cs more s1 s1 r) (λ d. (r ≡ Err d) × (s1 ≡ s1))) p.2 (refl, refl))

-- a character at which it ended
pub stops : (v : Plain) (c : ℕ) (cs out : List ℕ) (s0 s1 : Seen) (e : PyError) → Puts v c out s0 s1 (Err e) → GoesOn v (c ∷ cs) out s0 s1 (Err e)
stops v c cs out s0 s1 e one = record {
  kept = one.kept;
  later = one.later;
  comes = unless_map {A = List ℕ} (Err e) ((x : Result Plain PyError) × Answers (item v (int (pos c))) s0 s1 x × (Err e ≡ put_looked_up c out x)) (Goes v (c ∷ cs) out s0 s1 (Err e)) (one_stops v c cs out s0 s1 e) one.comes;
}

-- no character is left
pub ends : (v : Plain) (out : List ℕ) (s : Seen) → GoesOn v [] out s s (Ok out)
ends v out s = record { kept = refl; later = omega arith; comes = (refl, refl) }

pub turn : (v : Plain) (bs rest : List ℕ) (c : ℕ) (out mid : List ℕ) (s0 s1 s2 : Seen) (r : Result (List ℕ) PyError) → IsUtf8 bs → bs ≡ encode_utf8 c ++ rest → Puts v c out s0 s1 (Ok mid) → GoesOn v (chars rest) mid s1 s2 r → GoesOn v (chars bs) out s0 s2 r
turn v bs rest c out mid s0 s1 s2 r u e one more =
    subst (λ (l : List ℕ). GoesOn v l out s0 s2 r) (sym (chars_past_char bs rest c u e)) (then_more v c (chars rest) out mid s0 s1 s2 r one more)

pub stop_turn : (v : Plain) (bs rest : List ℕ) (c : ℕ) (out : List ℕ) (s0 s1 : Seen) (e : PyError) → IsUtf8 bs → bs ≡ encode_utf8 c ++ rest → Puts v c out s0 s1 (Err e) → GoesOn v (chars bs) out s0 s1 (Err e)
stop_turn v bs rest c out s0 s1 e u is one =
    subst (λ (l : List ℕ). GoesOn v l out s0 s1 (Err e)) (sym (chars_past_char bs rest c u is)) (stops v c (chars rest) out s0 s1 e one)

pub last_turn : (v : Plain) (bs out : List ℕ) (s : Seen) → length bs ≡ 0 → GoesOn v (chars bs) out s s (Ok out)
last_turn v bs out s n = subst (λ (l : List ℕ). GoesOn v l out s s (Ok out)) (sym (no_chars bs n)) (ends v out s)

-- the table was tested, and then each character
pub translated : {v : Plain} {cs : List ℕ} {s0 s1 : Seen} {r : Result (List ℕ) PyError} → Comes s0 s0 (has_items v) (Ok tt) → GoesOn v cs [] s0 s1 r → Translates v cs s0 s1 r
translated {v = v} {cs = cs} {s0 = s0} {s1 = s1} {r = r} has more = record {
  kept = more.kept;
  later = more.later;
  comes = unless_map r (Goes v cs [] s0 s1 r) ((x : Result (Unit {0}) PyError) × Comes s0 s0 (has_items v) x × MatchResult x (λ u. Goes v cs [] s0 s1 r) (λ e. (r ≡ Err e) × (s1 ≡ s0))) (λ h. (Ok tt, has, h)) more.comes;
}

pub not_tested : {v : Plain} {cs : List ℕ} {s0 : Seen} {e : PyError} → Comes s0 s0 (has_items v) (Err e) → Translates v cs s0 s0 (Err e)
not_tested {v = v} {cs = cs} {s0 = s0} {e = e} has = record {
  kept = refl;
  later = omega arith;
  comes = unless_free {A = List ℕ} (Err e) ((x : Result (Unit {0}) PyError) × Comes s0 s0 (has_items v) x × MatchResult x (λ u. Goes v cs [] s0 s0 (Err e)) (λ d. (Err e ≡ Err d) × (s0 ≡ s0))) (Err e, has, (refl, refl));
}
