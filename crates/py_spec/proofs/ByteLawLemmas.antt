-- What holds of the parts of a text holds of the same parts as bytes.
use Rattle.std.proofs.Common.{◌≡◌, ◌∙◌, ℕ, Bool, true, ◌&&◌, not, nat_lt, List, [], ◌∷◌, sym, ap, refl}
use Rattle.std.specs.Prelude.{Result, Ok, Err}
use Rattle.py_base.specs.declared.error.PyError.{PyError}
use Rattle.py_spec.specs.declared.percent.parts.CFormatPart.{CFormatPart}
use Rattle.py_spec.specs.declared.percent.parts.CFormatPart.TheVariants.{Literal, LiteralBytes, Spec}
use Rattle.py_spec.specs.Laws.{HoldsOfParts, is_literal, is_full, all_full, begins_literal, literals_apart, all_after, ascending}
use Rattle.py_spec.specs.Percent.ByteParts.{as_bytes, part_bytes, parts_bytes}
use Rattle.py_spec.specs.Percent.Template.{Parts, percent_parts}

by_result : (test : Parts → Bool) (r : Result Parts PyError) (ps : Parts) → ((qs : Parts) → test (parts_bytes qs) ≡ test qs) → ((qs : Parts) → r ≡ Ok qs → test qs ≡ true) → as_bytes r ≡ Ok ps → test ps ≡ true
by_result test (Ok qs) ps same h e = let is : parts_bytes qs ≡ ps = cc e in sym (ap test is) ∙ same qs ∙ h qs refl
by_result test (Err w) ps same h e = let f : ⊥ = cc e in absurd f

pub of_both : (test : Parts → Bool) → ((ps : Parts) → test (parts_bytes ps) ≡ test ps) → ((cs : List ℕ) (ps : Parts) → percent_parts cs ≡ Ok ps → test ps ≡ true) → HoldsOfParts test
of_both test same h = record {
  of_text = h;
  of_bytes = λ bs ps e. by_result test (percent_parts bs) ps same (h bs) e;
}

full_part : (p : CFormatPart) → is_full (part_bytes p) ≡ is_full p
full_part (Literal text) = refl
full_part (LiteralBytes bytes) = refl
full_part (Spec s) = refl

pub full_bytes : (ps : Parts) → all_full (parts_bytes ps) ≡ all_full ps
full_bytes [] = refl
full_bytes (p ∷ ps) =
    ap (λ (b : Bool). b && all_full (parts_bytes ps)) (full_part p.1) ∙ ap (λ (b : Bool). is_full p.1 && b) (full_bytes ps)

literal_part : (p : CFormatPart) → is_literal (part_bytes p) ≡ is_literal p
literal_part (Literal text) = refl
literal_part (LiteralBytes bytes) = refl
literal_part (Spec s) = refl

begins_bytes : (ps : Parts) → begins_literal (parts_bytes ps) ≡ begins_literal ps
begins_bytes [] = refl
begins_bytes (p ∷ ps) = literal_part p.1

pub apart_bytes : (ps : Parts) → literals_apart (parts_bytes ps) ≡ literals_apart ps
apart_bytes [] = refl
apart_bytes (p ∷ ps) =
    ap (λ (b : Bool). not (b && begins_literal (parts_bytes ps)) && literals_apart (parts_bytes ps)) (literal_part p.1)
    ∙ ap (λ (b : Bool). not (is_literal p.1 && b) && literals_apart (parts_bytes ps)) (begins_bytes ps)
    ∙ ap (λ (b : Bool). not (is_literal p.1 && begins_literal ps) && b) (apart_bytes ps)

after_bytes : (place : ℕ) (ps : Parts) → all_after place (parts_bytes ps) ≡ all_after place ps
after_bytes place [] = refl
after_bytes place (p ∷ ps) = ap (λ (b : Bool). nat_lt place p.0 && b) (after_bytes place ps)

pub ascend_bytes : (ps : Parts) → ascending (parts_bytes ps) ≡ ascending ps
ascend_bytes [] = refl
ascend_bytes (p ∷ ps) =
    ap (λ (b : Bool). b && ascending (parts_bytes ps)) (after_bytes p.0 ps) ∙ ap (λ (b : Bool). all_after p.0 ps && b) (ascend_bytes ps)
