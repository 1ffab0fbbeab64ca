-- What is built and what is still to come make the whole result.
use Rattle.std.proofs.Common.{◌≡◌, ◌⊎◌, inl, inr, ℕ, zero, suc, ◌+◌, ◌*◌, ◌≤◌, ◌<◌, Bool, true, false, cond, leb, ltb, eqb, min, List, [], ◌∷◌, ◌++◌, length, take, drop, Option, Some, None, refl, sym, ap, subst, ◌∙◌, arith}
use Rattle.std.specs.Prelude.{slice_range}
use Rattle.std.proofs.lemmas.List.{take_all}
use Rattle.std.proofs.lemmas.Bool.{eqb-true, leb-true, leb-false, ltb-true}
use Rattle.sre_code.specs.PlainTree.{PlainTree}
use Rattle.sre_match.specs.Matches.{Span, any_end, next_span, is_empty_span, spans}
use Rattle.sre_match.specs.Search.{Search, NextStart, start_of, start_after}
use Rattle.py_sre.specs.Replacing.{Replacement, fill, replaced_from, substituted, substitutions, is_reached, up_to}
use Rattle.sre_match.proofs.Spans.{Follows, next_follows, turns, turns_fall, wanted, wanted_first, wanted_none, wanted_full, wanted_some}
use Rattle.py_sre.proofs.ReplacingLemmas.{three_parts}

-- so much of a result is built, up to the place of the walk
pub record Built (list : Replacement) (s : List ℕ) (t : PlainTree) (limit count : ℕ) (next_start : NextStart) (place : ℕ) (units : List ℕ) : Type 0 where
  pub place_is : place ≡ next_start.place
  pub within : place ≤ length s
  pub whole : units ++ replaced_from place s (wanted limit count t s next_start.place next_start.advance) list ≡ substituted t s limit list
  pub number : count + length (wanted limit count t s next_start.place next_start.advance) ≡ length (spans t s 0 limit)
  pub room : count + turns s next_start.place next_start.advance ≤ 2 * length s + 1

pub built_start : (list : Replacement) (s : List ℕ) (t : PlainTree) (limit : ℕ) (next_start : NextStart) → next_start ≡ record { place = 0; advance = false } → Built list s t limit 0 next_start 0 []
built_start list s t limit next_start is =
    let start : NextStart = record { place = 0; advance = false } in
    let made : Built list s t limit 0 start 0 [] = record {
      place_is = refl;
      within = omega arith;
      whole = ap (λ (xs : List Span). replaced_from 0 s xs list) (wanted_first limit t s);
      number = ap (λ (xs : List Span). 0 + length xs) (wanted_first limit t s) ∙ omega arith;
      room = omega arith;
    } in
    subst (λ (x : NextStart). Built list s t limit 0 x 0 []) (sym is) made

no_zero : (n : ℕ) → eqb (suc n) 0 ≡ false
no_zero n = at (eqb (suc n) 0) refl
  where
    at : (b : Bool) → eqb (suc n) 0 ≡ b → eqb (suc n) 0 ≡ false
    at true e = absurd (cc (eqb-true (suc n) 0 e))
    at false e = e

-- a limit that is not reached
not_reached : (limit count : ℕ) → is_reached limit count ≡ false → (limit ≡ 0) ⊎ (count < limit)
not_reached zero count e = inl refl
not_reached (suc limit) count e = at (leb (suc limit) count) refl (rw not_zero at e)
  where
    not_zero : eqb (suc limit) 0 ≡ false
    not_zero = no_zero limit

    at : (b : Bool) → leb (suc limit) count ≡ b → b ≡ false → (suc limit ≡ 0) ⊎ (count < suc limit)
    at true is e = absurd cc
    at false is e = inr (let h = leb-false (suc limit) count is in omega (arith, h))

reached : (limit count : ℕ) → is_reached limit count ≡ true → (limit ≡ 0 → ⊥) × (limit ≤ count)
reached zero count e = absurd cc
reached (suc limit) count e = (λ z. cc z, leb-true (suc limit) count (rw (no_zero limit) at e))

-- what is known where one more span is to be replaced
pub record IsNext (s : List ℕ) (t : PlainTree) (limit count : ℕ) (next_start : NextStart) (x : Span) : Type 0 where
  pub short : (limit ≡ 0) ⊎ (count < limit)
  pub next : next_span t s next_start.place (any_end next_start.advance) ≡ Some x

pub next_is : (s : List ℕ) (t : PlainTree) (limit count : ℕ) (next_start : NextStart) (x : Span) → Some x ≡ up_to limit count (next_span t s next_start.place (any_end next_start.advance)) → IsNext s t limit count next_start x
next_is s t limit count next_start x e = at (is_reached limit count) refl e
  where
    at : (b : Bool) → is_reached limit count ≡ b → Some x ≡ cond b None (next_span t s next_start.place (any_end next_start.advance)) → IsNext s t limit count next_start x
    at true is e = absurd cc
    at false is e = record { short = not_reached limit count is; next = sym e }

pub none_is : (s : List ℕ) (t : PlainTree) (limit count : ℕ) (next_start : NextStart) → None ≡ up_to limit count (next_span t s next_start.place (any_end next_start.advance)) → wanted limit count t s next_start.place next_start.advance ≡ []
none_is s t limit count next_start e = at (is_reached limit count) refl e
  where
    at : (b : Bool) → is_reached limit count ≡ b → None ≡ cond b None (next_span t s next_start.place (any_end next_start.advance)) → wanted limit count t s next_start.place next_start.advance ≡ []
    at true is e = let h = reached limit count is in wanted_full limit count t s next_start.place next_start.advance h.0 h.1
    at false is e = wanted_none limit count t s next_start.place next_start.advance (sym e)

pub next_after : (s : List ℕ) (t : PlainTree) (limit count : ℕ) (next_start after : NextStart) (x : Span) → Some x ≡ up_to limit count (next_span t s next_start.place (any_end next_start.advance)) → after ≡ start_after (up_to limit count (next_span t s next_start.place (any_end next_start.advance))) next_start → after ≡ record { place = x.stop; advance = is_empty_span x }
next_after s t limit count next_start after x e moved = moved ∙ ap (λ (o : Option Span). start_after o next_start) (sym e)

pub follows_is : (list : Replacement) (s : List ℕ) (t : PlainTree) (limit count : ℕ) (next_start : NextStart) (place : ℕ) (units : List ℕ) (x : Span) → Built list s t limit count next_start place units → Some x ≡ up_to limit count (next_span t s next_start.place (any_end next_start.advance)) → Follows s place next_start.advance x
follows_is list s t limit count next_start place units x k e =
    let n = next_is s t limit count next_start x e in
    let f = next_follows t s next_start.place (any_end next_start.advance) x (omega (arith, k.place_is, k.within)) n.next in
    subst (λ (q : ℕ). Follows s q next_start.advance x) (sym k.place_is) f

-- one gap and one filled template more
pub built_more : (list : Replacement) (s : List ℕ) (t : PlainTree) (limit count : ℕ) (next_start after : NextStart) (place : ℕ) (was new : List ℕ) (x : Span)
    → Built list s t limit count next_start place was
    → Some x ≡ up_to limit count (next_span t s next_start.place (any_end next_start.advance))
    → after ≡ start_after (up_to limit count (next_span t s next_start.place (any_end next_start.advance))) next_start
    → new ≡ (was ++ slice_range s place x.start) ++ fill list s x
    → Built list s t limit (count + 1) after x.stop new
built_more list s t limit count next_start after place was new x k e moved n =
    let next = next_is s t limit count next_start x e in
    let q = next_start.place in
    let le : q ≤ length s = omega (arith, k.place_is, k.within) in
    let f = next_follows t s q (any_end next_start.advance) x le next.next in
    let falls = turns_fall s q next_start.advance x f in
    let one : wanted limit count t s q next_start.advance ≡ x ∷ wanted limit (count + 1) t s x.stop (is_empty_span x) = wanted_some limit count t s q next_start.advance x le next.short next.next in
    let rest = replaced_from x.stop s (wanted limit (count + 1) t s x.stop (is_empty_span x)) list in
    let before : was ++ (slice_range s place x.start ++ (fill list s x ++ rest)) ≡ substituted t s limit list = (rw one at k.whole) in
    let there : NextStart = record { place = x.stop; advance = is_empty_span x } in
    let made : Built list s t limit (count + 1) there x.stop new = record {
      place_is = refl;
      within = f.to;
      whole = three_parts was (slice_range s place x.start) (fill list s x) rest new n ∙ before;
      number = let long = ap length one in omega (arith, long, k.number);
      room = omega (arith, falls, k.room);
    } in
    subst (λ (y : NextStart). Built list s t limit (count + 1) y x.stop new) (sym (next_after s t limit count next_start after x e moved)) made

-- the last gap
pub built_end : (list : Replacement) (s : List ℕ) (t : PlainTree) (limit count : ℕ) (next_start : NextStart) (place : ℕ) (was new : List ℕ)
    → Built list s t limit count next_start place was
    → None ≡ up_to limit count (next_span t s next_start.place (any_end next_start.advance))
    → new ≡ was ++ drop place s → (new ≡ substituted t s limit list) × (count ≡ substitutions t s limit)
built_end list s t limit count next_start place was new k e n =
    let none = none_is s t limit count next_start e in
    (n ∙ (rw none at k.whole), (let long = ap length none in omega (arith, long, k.number)))

-- the same over equal trees and subjects
pub over_same : (u t : PlainTree) (v s : List ℕ) (limit count q : ℕ) (advance : Bool) (o : Option Span) → u ≡ t → v ≡ s → o ≡ up_to limit count (next_span u v q (any_end advance)) → o ≡ up_to limit count (next_span t s q (any_end advance))
over_same u t v s limit count q advance o et es e = rw (← et, ← es) e

pub moved_same : (u t : PlainTree) (v s : List ℕ) (limit count : ℕ) (next_start after : NextStart) → u ≡ t → v ≡ s → after ≡ start_after (up_to limit count (next_span u v next_start.place (any_end next_start.advance))) next_start → after ≡ start_after (up_to limit count (next_span t s next_start.place (any_end next_start.advance))) next_start
moved_same u t v s limit count next_start after et es e = rw (← et, ← es) e

-- after a span the walk is nearer to its end
pub falls : (list : Replacement) (s : List ℕ) (t : PlainTree) (limit count : ℕ) (next_start after : NextStart) (place : ℕ) (was : List ℕ) (x : Span)
    → Built list s t limit count next_start place was
    → Some x ≡ up_to limit count (next_span t s next_start.place (any_end next_start.advance))
    → after ≡ start_after (up_to limit count (next_span t s next_start.place (any_end next_start.advance))) next_start
    → turns s after.place after.advance + 1 ≤ turns s next_start.place next_start.advance
falls list s t limit count next_start after place was x k e moved =
    let next = next_is s t limit count next_start x e in
    let f = next_follows t s next_start.place (any_end next_start.advance) x (omega (arith, k.place_is, k.within)) next.next in
    let there = next_after s t limit count next_start after x e moved in
    let fall = turns_fall s next_start.place next_start.advance x f in
    rw there fall

pub start_zero : (units : List ℕ) (n : ℕ) → start_of units 0 n ≡ 0
start_zero units n = at (ltb n 0) refl
  where
    at : (b : Bool) → ltb n 0 ≡ b → cond b (length (take n units) + 1) (min 0 (length units)) ≡ 0
    at true e = let h = ltb-true n 0 e in absurd (omega arith)
    at false e = omega arith

pub standing_start : (r : Search) (next_start : NextStart) (units : List ℕ) (n : ℕ) → r.start ≡ start_of units 0 n → next_start ≡ record { place = r.start; advance = false } → next_start ≡ record { place = 0; advance = false }
standing_start r next_start units n e is = is ∙ ap (λ (p : ℕ). record { place = p; advance = false }) (e ∙ start_zero units n)

pub subject_start : (units s : List ℕ) (n : ℕ) → units ≡ s → n ≡ length s → take n units ≡ s
subject_start units s n e is = rw (e, is) (take_all (length s) s (omega arith))

-- a span that is found follows the place up to which all is built
pub follows_here : (list : Replacement) (s : List ℕ) (t : PlainTree) (limit count : ℕ) (next_start : NextStart) (place : ℕ) (was : List ℕ) (x : Span) (u : PlainTree) (v : List ℕ)
    → u ≡ t → v ≡ s → Built list s t limit count next_start place was
    → Some x ≡ up_to limit count (next_span u v next_start.place (any_end next_start.advance))
    → Follows s place next_start.advance x
follows_here list s t limit count next_start place was x u v et es k e =
    follows_is list s t limit count next_start place was x k (over_same u t v s limit count next_start.place next_start.advance (Some x) et es e)
