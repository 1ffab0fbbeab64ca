-- What the laws of percent templates rest on.
use Rattle.std.proofs.Common.{◌≡◌, ◌∙◌, ℕ, zero, suc, ◌+◌, Bool, true, ◌&&◌, List, [], ◌∷◌, ◌++◌, length, sym, ap, refl, arith, Option, Some, None}
use Rattle.std.specs.Prelude.{Ok, Err, MatchOption, ⊤}
use Rattle.std.proofs.lemmas.Bool.{and_parts}
use Rattle.std.proofs.lemmas.Bool.Decides.{nat_tests}
use Rattle.py_base.specs.Reading.{◌and_then◌}
use Rattle.py_base.proofs.HoldsLemmas.{Holds, ok, bad, then_holds}
use Rattle.py_spec.specs.declared.percent.parts.CFormatPart.TheVariants.{Literal, Spec}
use Rattle.py_spec.specs.declared.percent.parts.CFormatSpec.{CFormatSpec}
use Rattle.py_spec.specs.Laws.{FullLiterals, LiteralsApart, MoreRoomChangesNothing, all_full, is_full, literals_apart}
use Rattle.py_spec.specs.Percent.Literals.{literal}
use Rattle.py_spec.specs.Percent.Reading.{Read, place_of, read_specifier}
use Rattle.py_spec.specs.Percent.Template.{Turn, Parts, specifier_after, read_turn, turn_parts, read_parts, percent_parts}
use Rattle.py_spec.proofs.ByteLawLemmas.{of_both, full_bytes, apart_bytes}
use Rattle.py_spec.proofs.PartLemmas.{literal_full, of_parts}
use Rattle.py_spec.proofs.LengthLemmas.{turn_shorter}

-- the parts after a turn
abbrev after_turn : ℕ → ℕ → ℕ → Read Turn → Read Parts
after_turn k n place r = r and_then λ turn rest. read_parts k n rest and_then λ parts end. Ok (turn_parts place turn ++ parts, end)

-- a turn is read alike, and so are the parts after it
by_turn : (k more n place : ℕ) (r : Read Turn) → ((t : Turn) (rest : List ℕ) → r ≡ Ok (t, rest) → read_parts (k + more) n rest ≡ read_parts k n rest) → after_turn (k + more) n place r ≡ after_turn k n place r
by_turn k more n place (Ok t) same = ap (λ (r : Read Parts). r and_then λ parts end. Ok (turn_parts place t.0 ++ parts, end)) (same t.0 t.1 refl)
by_turn k more n place (Err w) same = refl

pub more_room : MoreRoomChangesNothing
more_room zero more n cs h = absurd (omega (arith, h))
more_room (suc k) more n [] h = ap (λ (j : ℕ). read_parts j n []) {x = suc k + more} {y = suc (k + more)} (omega arith)
more_room (suc k) more n (c ∷ cs) h =
    ap (λ (j : ℕ). read_parts j n (c ∷ cs)) {x = suc k + more} {y = suc (k + more)} (omega arith)
    ∙ by_turn k more n (place_of n (c ∷ cs)) (read_turn n (c ∷ cs)) (λ t rest e. more_room k more n rest (omega (arith, h, turn_shorter n (c ∷ cs) rest t (omega arith) (sym e))))

-- no literal is empty
full_joined : (ps qs : Parts) → all_full ps ≡ true → all_full qs ≡ true → all_full (ps ++ qs) ≡ true
full_joined [] qs h k = k
full_joined (p ∷ ps) qs h k =
    let f = and_parts (is_full p.1) (all_full ps) h in
    ap (λ (b : Bool). b && all_full (ps ++ qs)) f.0 ∙ full_joined ps qs f.1 k

full_turn : (place : ℕ) (text : List ℕ) (read : Option (ℕ × CFormatSpec)) → all_full (turn_parts place (text, read)) ≡ true
full_turn place [] None = refl
full_turn place [] (Some s) = refl
full_turn place (c ∷ cs) None = grind (arith, nat_tests)
full_turn place (c ∷ cs) (Some s) = grind (arith, nat_tests)

any_turn : (r : Read Turn) → Holds (λ (t : Turn) x. ⊤) r
any_turn (Ok r) = ok tt
any_turn (Err e) = bad

full_parts : (k n : ℕ) (cs : List ℕ) → Holds (λ ps x. all_full ps ≡ true) (read_parts k n cs)
full_parts zero n cs = ok refl
full_parts (suc k) n [] = ok refl
full_parts (suc k) n (c ∷ cs) =
    then_holds (any_turn (read_turn n (c ∷ cs))) λ turn x p.
    then_holds (full_parts k n x) λ ps y q.
    ok (full_joined (turn_parts (place_of n (c ∷ cs)) turn) ps (full_turn (place_of n (c ∷ cs)) turn.0 turn.1) q)

full_text : (cs : List ℕ) (ps : Parts) → percent_parts cs ≡ Ok ps → all_full ps ≡ true
full_text cs ps e = of_parts (λ qs. all_full qs ≡ true) (read_parts (suc (length cs)) (length cs) cs) ps (full_parts (suc (length cs)) (length cs) cs) e

pub full_literals : FullLiterals
full_literals = of_both all_full full_bytes full_text

-- a turn without a specifier is the last one
abbrev EndsOrSpec : Turn → List ℕ → Type 0
EndsOrSpec t x = MatchOption t.1 (x ≡ []) (λ s. ⊤)

spec_read : (r : Read CFormatSpec) → Holds (λ (s : CFormatSpec) x. ⊤) r
spec_read (Ok r) = ok tt
spec_read (Err e) = bad

after_literal : (n : ℕ) (text cs : List ℕ) → Holds EndsOrSpec (specifier_after n text cs)
after_literal n text [] = ok refl
after_literal n text (c ∷ cs) = then_holds (spec_read (read_specifier n cs)) λ s x p. ok tt

a_turn : (n : ℕ) (cs : List ℕ) → Holds EndsOrSpec (read_turn n cs)
a_turn n cs = after_literal n (literal cs).0 (literal cs).1

none_after : (k n : ℕ) (cs : List ℕ) → cs ≡ [] → Holds (λ (ps : Parts) x. ps ≡ []) (read_parts k n cs)
none_after zero n cs e = ok refl
none_after (suc k) n [] e = ok refl
none_after (suc k) n (c ∷ cs) e = let f : ⊥ = cc e in absurd f

-- the parts of a turn before other parts, which are none where the turn has no specifier
apart_turn : (place : ℕ) (text : List ℕ) (read : Option (ℕ × CFormatSpec)) (ps : Parts) → MatchOption read (ps ≡ []) (λ s. ⊤) → literals_apart ps ≡ true → literals_apart (turn_parts place (text, read) ++ ps) ≡ true
apart_turn place [] None ps n h = h
apart_turn place (c ∷ cs) None ps n h = ap (λ (l : Parts). literals_apart ((l ++ []) ++ ps)) (literal_full place c cs) ∙ ap (λ (qs : Parts). literals_apart ((place, Literal (c ∷ cs)) ∷ qs)) n
apart_turn place [] (Some s) ps n h = h
apart_turn place (c ∷ cs) (Some s) ps n h = ap (λ (l : Parts). literals_apart ((l ++ (s.0, Spec s.1) ∷ []) ++ ps)) (literal_full place c cs) ∙ h

parts_after : (k n : ℕ) (read : Option (ℕ × CFormatSpec)) (x : List ℕ) → MatchOption read (x ≡ []) (λ s. ⊤) → Holds (λ ps y. literals_apart ps ≡ true) (read_parts k n x) → Holds (λ ps y. MatchOption read (ps ≡ []) (λ s. ⊤) × (literals_apart ps ≡ true)) (read_parts k n x)
parts_after k n None x e h = record { by = λ ps y r. ((none_after k n x e).by ps y r, h.by ps y r) }
parts_after k n (Some s) x e h = record { by = λ ps y r. (tt, h.by ps y r) }

apart_parts : (k n : ℕ) (cs : List ℕ) → Holds (λ ps x. literals_apart ps ≡ true) (read_parts k n cs)
apart_parts zero n cs = ok refl
apart_parts (suc k) n [] = ok refl
apart_parts (suc k) n (c ∷ cs) =
    then_holds (a_turn n (c ∷ cs)) λ turn x p.
    then_holds (parts_after k n turn.1 x p (apart_parts k n x)) λ ps y q.
    ok (apart_turn (place_of n (c ∷ cs)) turn.0 turn.1 ps q.0 q.1)

apart_text : (cs : List ℕ) (ps : Parts) → percent_parts cs ≡ Ok ps → literals_apart ps ≡ true
apart_text cs ps e = of_parts (λ qs. literals_apart qs ≡ true) (read_parts (suc (length cs)) (length cs) cs) ps (apart_parts (suc (length cs)) (length cs) cs) e

pub apart : LiteralsApart
apart = of_both literals_apart apart_bytes apart_text
