-- One turn of the loop that reads the parts of a template.
use Rattle.std.proofs.Common.{◌≡◌, ◌∙◌, ◌==◌, Bool, false, if◌then◌else◌, ℕ, suc, ◌<◌, ◌≤◌, List, [], ◌∷◌, ◌++◌, length, sym, ap, subst, refl, arith, append_assoc, append-nil}
use Rattle.std.proofs.lemmas.Bool.Decides.{nat_tests}
use Rattle.std.specs.Prelude.{Ok, Err, Some, drop}
use Rattle.py_spec.specs.declared.percent.parts.CFormatPart.TheVariants.{Literal}
use Rattle.py_spec.specs.declared.percent.parts.CFormatSpec.{CFormatSpec}
use Rattle.py_spec.specs.Percent.Literals.{literal}
use Rattle.py_base.specs.Reading.{◌and_then◌}
use Rattle.py_base.specs.declared.error.PyError.{PyError}
use Rattle.py_base.proofs.HoldsLemmas.{Holds}
use Rattle.py_base.proofs.LoopLemmas.{Left, nothing_more, turned, stopped}
use Rattle.py_spec.specs.Percent.Reading.{Read, place_of, read_specifier}
use Rattle.py_spec.specs.Percent.Template.{Turn, Parts, specifier_after, read_turn, literal_part, turn_parts, read_parts, value_of, percent_parts}
use Rattle.py_spec.proofs.LengthLemmas.{turn_shorter}

-- the parts of a template are those that are made, and those of what is left
abbrev pub PartsLeft : List ℕ → Parts → List ℕ → Type 0
PartsLeft whole made rest = Left (read_parts (suc (length whole)) (length whole) whole) (λ k cs. read_parts k (length whole) cs) (λ more. made ++ more) rest

pub parts_none : (whole : List ℕ) (made : Parts) → made ≡ [] → PartsLeft whole made whole
parts_none whole made e = rw e (record { most = suc (length whole); enough = omega arith; whole = nothing_more (read_parts (suc (length whole)) (length whole) whole) })

abbrev and_more : ℕ → ℕ → ℕ → Read Turn → Read Parts
and_more k n place r = r and_then λ turn rest. read_parts k n rest and_then λ parts end. Ok (turn_parts place turn ++ parts, end)

one_turn : (k n : ℕ) (rest : List ℕ) → 0 < length rest → read_parts (suc k) n rest ≡ and_more k n (place_of n rest) (read_turn n rest)
one_turn k n [] h = absurd (omega (arith, h))
one_turn k n (c ∷ cs) h = refl

pub parts_more : (whole rest after : List ℕ) (made more : Parts) (turn : Turn) → 0 < length rest → Ok (turn, after) ≡ read_turn (length whole) rest → more ≡ made ++ turn_parts (place_of (length whole) rest) turn → PartsLeft whole made rest → PartsLeft whole more after
parts_more whole rest after made more turn h e m l =
    let n = length whole in
    let parts = turn_parts (place_of n rest) turn in
    turned (λ ps. more ++ ps) (λ ps. parts ++ ps) after (λ k. one_turn k n rest h ∙ ap (and_more k n (place_of n rest)) (sym e)) (λ ps. sym (ap (λ x. x ++ ps) m ∙ append_assoc made parts ps)) (turn_shorter n rest after turn h e) l

pub parts_fault : (whole rest : List ℕ) (made : Parts) (e : PyError) → 0 < length rest → read_turn (length whole) rest ≡ Err e → PartsLeft whole made rest → percent_parts whole ≡ Err e
parts_fault whole rest made e h r l =
    ap value_of (stopped (Err e) (λ k. one_turn k (length whole) rest h ∙ ap (and_more k (length whole) (place_of (length whole) rest)) r) l)

none_more : (k n : ℕ) (rest : List ℕ) → length rest ≤ 0 → read_parts (suc k) n rest ≡ Ok ([], [])
none_more k n [] h = refl
none_more k n (c ∷ cs) h = absurd (omega (arith, h))

pub parts_end : (whole rest : List ℕ) (made : Parts) → length rest ≤ 0 → PartsLeft whole made rest → Ok made ≡ percent_parts whole
parts_end whole rest made h l =
    sym (ap value_of (stopped (Ok ([], [])) (λ k. none_more k (length whole) rest h) l) ∙ ap Ok (append-nil made))

-- the specifier of a turn whose literal is read
abbrev with_specifier : ℕ → List ℕ → Read CFormatSpec → Read Turn
with_specifier place text r = r and_then λ s end. Ok ((text, Some (place, s)), end)

after_some : (n : ℕ) (text rest : List ℕ) → 0 < length rest → specifier_after n text rest ≡ with_specifier (place_of n rest) text (read_specifier n (drop 1 rest))
after_some n text [] h = absurd (omega (arith, h))
after_some n text (c ∷ cs) h = refl

turn_is : (n place : ℕ) (cs text rest next : List ℕ) → literal cs ≡ (text, rest) → 0 < length rest → place ≡ place_of n rest → next ≡ drop 1 rest → read_turn n cs ≡ with_specifier place text (read_specifier n next)
turn_is n place cs text rest next l h p d =
    ap (λ r. specifier_after n r.0 r.1) l ∙ after_some n text rest h ∙ ap (λ p. with_specifier p text (read_specifier n (drop 1 rest))) (sym p) ∙ ap (λ x. with_specifier place text (read_specifier n x)) (sym d)

pub turn_read : (n place : ℕ) (cs text rest next end : List ℕ) (s : CFormatSpec) → literal cs ≡ (text, rest) → 0 < length rest → place ≡ place_of n rest → next ≡ drop 1 rest → Ok (s, end) ≡ read_specifier n next → Ok ((text, Some (place, s)), end) ≡ read_turn n cs
turn_read n place cs text rest next end s l h p d e =
    sym (turn_is n place cs text rest next l h p d ∙ ap (with_specifier place text) (sym e))

pub turn_fault : (n place : ℕ) (cs text rest next : List ℕ) (e : PyError) → literal cs ≡ (text, rest) → 0 < length rest → place ≡ place_of n rest → next ≡ drop 1 rest → read_specifier n next ≡ Err e → read_turn n cs ≡ Err e
turn_fault n place cs text rest next e l h p d r =
    turn_is n place cs text rest next l h p d ∙ ap (with_specifier place text) r

-- what is true of the parts that are read is true of the parts of a template
pub of_parts : (P : Parts → Type 0) (r : Read Parts) (ps : Parts) → Holds (λ qs x. P qs) r → value_of r ≡ Ok ps → P ps
of_parts P (Ok q) ps h e = let same : q.0 ≡ ps = cc e in subst P same (h.by q.0 q.1 refl)
of_parts P (Err w) ps h e = let f : ⊥ = cc e in absurd f

some_text : (n : ℕ) → 0 < n → (n == 0) ≡ false
some_text n h = grind (arith, nat_tests)

-- a literal that is not empty is a part
pub literal_full : (place c : ℕ) (cs : List ℕ) → literal_part place (c ∷ cs) ≡ (place, Literal (c ∷ cs)) ∷ []
literal_full place c cs = ap (λ (b : Bool). if b then [] else (place, Literal (c ∷ cs)) ∷ []) (some_text (length (c ∷ cs)) (omega arith))
