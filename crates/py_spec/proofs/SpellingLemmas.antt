-- The parts that are read of a template spell it.
use Rattle.std.proofs.Common.{◌≡◌, ◌∙◌, ◌==◌, ℕ, zero, suc, ◌<◌, Bool, true, false, if◌then◌else◌, List, [], ◌∷◌, ◌++◌, length, sym, ap, subst, refl, arith, append_assoc, append-nil}
use Rattle.std.specs.Prelude.{Result, Ok, Err, ⊤}
use Rattle.std.proofs.lemmas.Bool.{eqb-true}
use Rattle.py_base.proofs.HoldsLemmas.{Holds, ok, then_holds}
use Rattle.py_base.specs.declared.error.PyError.{PyError}
use Rattle.py_spec.specs.declared.percent.parts.CFormatPart.TheVariants.{Spec}
use Rattle.py_spec.specs.declared.percent.parts.CFormatSpec.{CFormatSpec}
use Rattle.py_spec.specs.Laws.{PartsSpellTheTemplate}
use Rattle.py_spec.specs.Percent.ByteParts.{as_bytes, parts_bytes}
use Rattle.py_spec.specs.Percent.Literals.{literal, put_first}
use Rattle.py_spec.specs.Percent.Reading.{place_of, read_specifier}
use Rattle.py_spec.specs.Percent.Spelling.{doubled, SpellAll}
use Rattle.py_spec.specs.Percent.Template.{Turn, Parts, literal_part, turn_parts, specifier_after, read_turn, read_parts, percent_parts}
use Rattle.py_spec.proofs.LengthLemmas.{turn_shorter}
use Rattle.py_spec.proofs.PartLemmas.{literal_full, of_parts}
use Rattle.py_spec.proofs.SuffixLemmas.{EndsIn, specifier_leaves}

-- a literal is read from its units, with each percent sign twice
abbrev SpellsLiteral : List ℕ → List ℕ × List ℕ → Type 0
SpellsLiteral cs r = cs ≡ doubled r.0 ++ r.1

plain_first : (c : ℕ) (cs : List ℕ) (r : List ℕ × List ℕ) → (c == 37) ≡ false → SpellsLiteral cs r → SpellsLiteral (c ∷ cs) (put_first c r)
plain_first c cs r e h =
    ap (λ (l : List ℕ). c ∷ l) h ∙ sym (ap (λ (b : Bool). (if b then 37 ∷ 37 ∷ doubled r.0 else c ∷ doubled r.0) ++ r.1) e)

percent_first : (c d : ℕ) (cs : List ℕ) (r : List ℕ × List ℕ) → (c == 37) ≡ true → (d == 37) ≡ true → SpellsLiteral cs r → SpellsLiteral (c ∷ d ∷ cs) (put_first 37 r)
percent_first c d cs r e f h =
    ap (λ (x : ℕ). x ∷ d ∷ cs) (eqb-true c 37 e) ∙ ap (λ (x : ℕ). 37 ∷ x ∷ cs) (eqb-true d 37 f) ∙ ap (λ (l : List ℕ). 37 ∷ 37 ∷ l) h

literal_step : (c d : ℕ) (cs : List ℕ) (a b : Bool) → (c == 37) ≡ a → (d == 37) ≡ b → SpellsLiteral cs (literal cs) → SpellsLiteral (d ∷ cs) (literal (d ∷ cs)) → SpellsLiteral (c ∷ d ∷ cs) (if a then (if b then put_first 37 (literal cs) else ([], c ∷ d ∷ cs)) else put_first c (literal (d ∷ cs)))
literal_step c d cs true true e f p q = percent_first c d cs (literal cs) e f p
literal_step c d cs true false e f p q = refl
literal_step c d cs false b e f p q = plain_first c (d ∷ cs) (literal (d ∷ cs)) e q

literal_spells : (cs : List ℕ) → SpellsLiteral cs (literal cs)
literal_spells [] = refl
literal_spells (c ∷ []) = by_test (c == 37) refl where
  by_test : (b : Bool) → (c == 37) ≡ b → SpellsLiteral (c ∷ []) (if b then ([], c ∷ []) else (c ∷ [], []))
  by_test true e = refl
  by_test false e = plain_first c [] ([], []) e refl
literal_spells (c ∷ d ∷ cs) = literal_step c d cs (c == 37) (d == 37) refl refl (literal_spells cs) (literal_spells (d ∷ cs))

-- after a literal is nothing, or a percent sign
abbrev AtPercent : List ℕ → Type 0
AtPercent [] = ⊤
AtPercent (c ∷ cs) = c ≡ 37

after_step : (c d : ℕ) (cs : List ℕ) (a b : Bool) → (c == 37) ≡ a → AtPercent (literal cs).1 → AtPercent (literal (d ∷ cs)).1 → (let r : List ℕ × List ℕ = if a then (if b then put_first 37 (literal cs) else ([], c ∷ d ∷ cs)) else put_first c (literal (d ∷ cs)) in AtPercent r.1)
after_step c d cs true true e p q = p
after_step c d cs true false e p q = eqb-true c 37 e
after_step c d cs false b e p q = q

after_literal : (cs : List ℕ) → AtPercent (literal cs).1
after_literal [] = tt
after_literal (c ∷ []) = by_test (c == 37) refl where
  by_test : (b : Bool) → (c == 37) ≡ b → (let r : List ℕ × List ℕ = if b then ([], c ∷ []) else (c ∷ [], []) in AtPercent r.1)
  by_test true e = eqb-true c 37 e
  by_test false e = tt
after_literal (c ∷ d ∷ cs) = after_step c d cs (c == 37) (d == 37) refl (after_literal cs) (after_literal (d ∷ cs))

-- a literal before parts that spell the rest
put_literal : (n : ℕ) (text rest cs : List ℕ) (ps : Parts) → cs ≡ doubled text ++ rest → SpellAll n ps rest → SpellAll n (literal_part (place_of n cs) text ++ ps) cs
put_literal n [] rest cs ps e h = subst (λ (l : List ℕ). SpellAll n ps l) (sym e) h
put_literal n (c ∷ text) rest cs ps e h =
    subst (λ (l : Parts). SpellAll n (l ++ ps) cs) (sym (literal_full (place_of n cs) c text)) (doubled (c ∷ text), rest, e, refl, refl, h)

-- a specifier before them
abbrev IsReadTo : ℕ → List ℕ → CFormatSpec → List ℕ → Type 0
IsReadTo n cs s x = (read_specifier n cs ≡ Ok (s, x)) × EndsIn cs x

is_read : (n : ℕ) (cs : List ℕ) → Holds (IsReadTo n cs) (read_specifier n cs)
is_read n cs = record { by = λ s x r. (r, (specifier_leaves n cs).by s x r) }

put_spec : (n c : ℕ) (cs x : List ℕ) (s : CFormatSpec) (ps : Parts) → c ≡ 37 → IsReadTo n cs s x → SpellAll n ps x → SpellAll n ((place_of n (c ∷ cs), Spec s) ∷ ps) (c ∷ cs)
put_spec n c cs x s ps e r h =
    let front : List ℕ = r.1.0 in
    (37 ∷ front, x, ap (λ (d : ℕ). d ∷ cs) e ∙ ap (λ (l : List ℕ). 37 ∷ l) r.1.1, refl, (front, refl, sym (ap (read_specifier n) r.1.1) ∙ r.0), h)

-- the parts of a turn before those of what it leaves
abbrev TurnSpells : ℕ → List ℕ → Turn → List ℕ → Type 0
TurnSpells n cs t x = (ps : Parts) → SpellAll n ps x → SpellAll n (turn_parts (place_of n cs) t ++ ps) cs

by_rest : (n : ℕ) (cs text rest : List ℕ) → cs ≡ doubled text ++ rest → AtPercent rest → Holds (TurnSpells n cs) (specifier_after n text rest)
by_rest n cs text [] e a = ok λ ps h.
    subst (λ (l : Parts). SpellAll n (l ++ ps) cs) (sym (append-nil (literal_part (place_of n cs) text))) (put_literal n text [] cs ps e h)
by_rest n cs text (c ∷ rest) e a = then_holds (is_read n rest) λ s x r. ok λ ps h.
    let spec : Parts = (place_of n (c ∷ rest), Spec s) ∷ [] in
    subst (λ (l : Parts). SpellAll n l cs) (sym (append_assoc (literal_part (place_of n cs) text) spec ps)) (put_literal n text (c ∷ rest) cs (spec ++ ps) e (put_spec n c rest x s ps a r h))

turn_spells : (n : ℕ) (cs : List ℕ) → Holds (TurnSpells n cs) (read_turn n cs)
turn_spells n cs = by_rest n cs (literal cs).0 (literal cs).1 (literal_spells cs) (after_literal cs)

a_turn : (n : ℕ) (cs : List ℕ) → 0 < length cs → Holds (λ t x. TurnSpells n cs t x × (length x < length cs)) (read_turn n cs)
a_turn n cs h = record { by = λ t x r. ((turn_spells n cs).by t x r, turn_shorter n cs x t h (sym r)) }

all_spell : (k n : ℕ) (cs : List ℕ) → length cs < k → Holds (λ ps x. SpellAll n ps cs) (read_parts k n cs)
all_spell zero n cs h = absurd (omega (arith, h))
all_spell (suc k) n [] h = ok refl
all_spell (suc k) n (c ∷ cs) h =
    then_holds (a_turn n (c ∷ cs) (omega arith)) λ turn x p.
    then_holds (all_spell k n x (omega (arith, h, p.1))) λ ps y q.
    ok (p.0 ps q)

text_spells : (cs : List ℕ) (ps : Parts) → percent_parts cs ≡ Ok ps → SpellAll (length cs) ps cs
text_spells cs ps e = of_parts (λ qs. SpellAll (length cs) qs cs) (read_parts (suc (length cs)) (length cs) cs) ps (all_spell (suc (length cs)) (length cs) cs (omega arith)) e

bytes_spell : (bs : List ℕ) (r : Result Parts PyError) (ps : Parts) → ((qs : Parts) → r ≡ Ok qs → SpellAll (length bs) qs bs) → as_bytes r ≡ Ok ps → (qs : Parts) × (ps ≡ parts_bytes qs) × SpellAll (length bs) qs bs
bytes_spell bs (Ok qs) ps h e = let is : parts_bytes qs ≡ ps = cc e in (qs, sym is, h qs refl)
bytes_spell bs (Err w) ps h e = let f : ⊥ = cc e in absurd f

pub parts_spell : PartsSpellTheTemplate
parts_spell = record {
  of_text = text_spells;
  of_bytes = λ bs ps e. bytes_spell bs (percent_parts bs) ps (text_spells bs) e;
}
