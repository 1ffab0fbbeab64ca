-- The places of parts: each turn begins after the one before it.
use Rattle.std.proofs.Common.{◌≡◌, ◌∙◌, ◌==◌, ℕ, zero, suc, ◌+◌, ◌-◌, ◌<◌, ◌≤◌, Bool, true, false, ◌&&◌, nat_le, if◌then◌else◌, List, [], ◌∷◌, ◌++◌, length, sym, ap, refl, arith, Option, Some, None}
use Rattle.std.specs.Prelude.{Ok}
use Rattle.std.proofs.lemmas.Bool.Decides.{nat_tests}
use Rattle.py_base.proofs.HoldsLemmas.{Holds, ok, then_holds}
use Rattle.py_spec.specs.declared.percent.parts.CFormatSpec.{CFormatSpec}
use Rattle.py_spec.specs.Laws.{PlacesAscend, all_after, ascending}
use Rattle.py_spec.specs.Percent.Literals.{literal, put_first}
use Rattle.py_spec.specs.Percent.Reading.{place_of}
use Rattle.py_spec.specs.Percent.Template.{Turn, Parts, specifier_after, read_turn, turn_parts, read_parts, percent_parts}
use Rattle.py_spec.proofs.ByteLawLemmas.{of_both, ascend_bytes}
use Rattle.py_spec.proofs.PartLemmas.{of_parts}
use Rattle.py_spec.proofs.LengthLemmas.{a_specifier}

-- what a literal takes is not less than its length, so that a full one leaves less
literal_step : (c d : ℕ) (cs : List ℕ) (a b : Bool) → length (literal cs).0 + length (literal cs).1 ≤ length cs → length (literal (d ∷ cs)).0 + length (literal (d ∷ cs)).1 ≤ length (d ∷ cs) → (let r : List ℕ × List ℕ = if a then (if b then put_first 37 (literal cs) else ([], c ∷ d ∷ cs)) else put_first c (literal (d ∷ cs)) in length r.0 + length r.1 ≤ length (c ∷ d ∷ cs))
literal_step c d cs true true p q = omega (arith, p)
literal_step c d cs true false p q = omega arith
literal_step c d cs false b p q = omega (arith, q)

literal_takes : (cs : List ℕ) → length (literal cs).0 + length (literal cs).1 ≤ length cs
literal_takes [] = omega arith
literal_takes (c ∷ []) = by_test (c == 37) where
  by_test : (b : Bool) → (let r : List ℕ × List ℕ = if b then ([], c ∷ []) else (c ∷ [], []) in length r.0 + length r.1 ≤ 1)
  by_test true = omega arith
  by_test false = omega arith
literal_takes (c ∷ d ∷ cs) = literal_step c d cs (c == 37) (d == 37) (literal_takes cs) (literal_takes (d ∷ cs))

-- each place is this one or after it
abbrev from : ℕ → Parts → Bool
from place [] = true
from place (p ∷ ps) = nat_le place p.0 && from place ps

-- the specifier of a turn begins where its literal ends, and something is read after it
abbrev TurnPlaces : ℕ → List ℕ → List ℕ → Option (ℕ × CFormatSpec) → List ℕ → Type 0
TurnPlaces n text cs None x = x ≡ []
TurnPlaces n text cs (Some s) x = (r : ℕ) × (s.0 ≡ n - r) × (length text + r ≤ length cs) × (length x < r)

abbrev TurnAscends : ℕ → List ℕ → Turn → List ℕ → Type 0
TurnAscends n cs t x = TurnPlaces n t.0 cs t.1 x

after_literal : (n : ℕ) (text rest cs : List ℕ) → length text + length rest ≤ length cs → Holds (TurnAscends n cs) (specifier_after n text rest)
after_literal n text [] cs h = ok refl
after_literal n text (c ∷ rest) cs h = then_holds (a_specifier n rest) λ s x p. ok (length (c ∷ rest), refl, h, omega (arith, p))

a_turn : (n : ℕ) (cs : List ℕ) → Holds (TurnAscends n cs) (read_turn n cs)
a_turn n cs = after_literal n (literal cs).0 (literal cs).1 cs (literal_takes cs)

-- places that begin at one are after each before it
later : (p q : ℕ) (ps : Parts) → p < q → from q ps ≡ true → all_after p ps ≡ true
later p q [] h f = refl
later p q (r ∷ ps) h f = grind (arith, nat_tests, h, f, later p q ps h)

earlier : (p q : ℕ) (ps : Parts) → p ≤ q → from q ps ≡ true → from p ps ≡ true
earlier p q [] h f = refl
earlier p q (r ∷ ps) h f = grind (arith, nat_tests, h, f, earlier p q ps h)

-- the parts of a turn at a place, before parts that begin at another
turn_ascends : (place next : ℕ) (text : List ℕ) (read : Option (ℕ × CFormatSpec)) (ps : Parts) → place < next → ((s : ℕ × CFormatSpec) → read ≡ Some s → (place ≤ s.0) × (0 < length text → place < s.0) × (s.0 < next)) → from next ps ≡ true → ascending ps ≡ true → (ascending (turn_parts place (text, read) ++ ps) ≡ true) × (from place (turn_parts place (text, read) ++ ps) ≡ true)
turn_ascends place next [] None ps h k f a = (a, earlier place next ps (omega (arith, h)) f)
turn_ascends place next (c ∷ cs) None ps h k f a = grind (arith, nat_tests, a, later place next ps h f, earlier place next ps (omega (arith, h)) f)
turn_ascends place next [] (Some s) ps h k f a =
    let facts = k s refl in
    grind (arith, nat_tests, a, facts.0, later s.0 next ps facts.2 f, earlier place next ps (omega (arith, h)) f)
turn_ascends place next (c ∷ cs) (Some s) ps h k f a =
    let facts = k s refl in
    let first : place < s.0 = facts.1 (omega arith) in
    grind (arith, nat_tests, a, first, later place next ps h f, later s.0 next ps facts.2 f, earlier place next ps (omega (arith, h)) f)

some_place : (n : ℕ) (text cs x : List ℕ) (read : Option (ℕ × CFormatSpec)) → length cs ≤ n → TurnPlaces n text cs read x → (s : ℕ × CFormatSpec) → read ≡ Some s → (place_of n cs ≤ s.0) × (0 < length text → place_of n cs < s.0) × (s.0 < place_of n x)
some_place n text cs x None h t s e = let f : ⊥ = cc e in absurd f
some_place n text cs x (Some q) h t s e =
    let same : q ≡ s = cc e in
    let at : s.0 ≡ n - t.0 = sym (ap (λ (p : ℕ × CFormatSpec). p.0) same) ∙ t.1 in
    (omega (arith, h, at, t.2, t.3), λ l. omega (arith, h, at, t.2, t.3, l), omega (arith, h, at, t.2, t.3))

shorter_rest : (n : ℕ) (text cs x : List ℕ) (read : Option (ℕ × CFormatSpec)) → 0 < length cs → TurnPlaces n text cs read x → length x < length cs
shorter_rest n text cs x None h t = omega (arith, h, ap length t)
shorter_rest n text cs x (Some s) h t = omega (arith, t.2, t.3)

ascending_parts : (k n : ℕ) (cs : List ℕ) → length cs ≤ n → Holds (λ ps x. (ascending ps ≡ true) × (from (place_of n cs) ps ≡ true)) (read_parts k n cs)
ascending_parts zero n cs h = ok (refl, refl)
ascending_parts (suc k) n [] h = ok (refl, refl)
ascending_parts (suc k) n (c ∷ cs) h =
    then_holds (a_turn n (c ∷ cs)) λ turn x p.
    let less : length x < length (c ∷ cs) = shorter_rest n turn.0 (c ∷ cs) x turn.1 (omega arith) p in
    then_holds (ascending_parts k n x (omega (arith, h, less))) λ ps y q.
    ok (turn_ascends (place_of n (c ∷ cs)) (place_of n x) turn.0 turn.1 ps (omega (arith, h, less)) (some_place n turn.0 (c ∷ cs) x turn.1 h p) q.1 q.0)

ascend_text : (cs : List ℕ) (ps : Parts) → percent_parts cs ≡ Ok ps → ascending ps ≡ true
ascend_text cs ps e = (of_parts (λ qs. (ascending qs ≡ true) × (from (place_of (length cs) cs) qs ≡ true)) (read_parts (suc (length cs)) (length cs) cs) ps (ascending_parts (suc (length cs)) (length cs) cs (omega arith)) e).0

pub ascend : PlacesAscend
ascend = of_both ascending ascend_bytes ascend_text
