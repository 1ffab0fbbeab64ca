-- A template without specifiers.
use Rattle.std.proofs.Common.{◌≡◌, ◌∙◌, ℕ, Bool, true, false, List, [], ◌∷◌, ◌++◌, append_assoc, Some, Result, Ok, refl, sym, ap, count_by}
use Rattle.std.proofs.lemmas.List.{append-nil}
use Rattle.py_base.specs.declared.error.PyError.{PyError}
use Rattle.py_spec.specs.declared.percent.parts.CFormatPart.TheVariants.{Literal, LiteralBytes, Spec}
use Rattle.py_spec.specs.Percent.Specifiers.{checked, is_bare, is_keyed, specifiers_of}
use Rattle.py_spec.specs.Percent.Template.{Parts}
use Rattle.py_value.specs.Asking.{gives, ◌and_then◌}
use Rattle.py_value.specs.Plain.{Plain, Plains}
use Rattle.py_format.specs.declared.percent.kind.Kind.{Kind}
use Rattle.py_format.specs.Laws.{all_literal, literals}
use Rattle.py_format.specs.Percent.Fold.{is_mapping, literal, none_left, parts_of, percent, put_all, put_all_by, put_parts}
use Rattle.py_format.specs.Percent.Taking.{values_in}

parts_kept : (kind : Kind) (mapping : Bool) (ps : Parts) (vs : Plains) (out : List ℕ) → all_literal ps ≡ true → put_parts kind mapping ps vs out ≡ (gives (none_left kind mapping vs) and_then λ u. gives (Ok (out ++ literals kind ps)))
parts_kept kind mapping [] vs out h = ap (λ (o : List ℕ). gives (none_left kind mapping vs) and_then λ u. gives (Ok o)) (sym (append-nil out))
parts_kept kind mapping ((place, Literal t) ∷ ps) vs out h =
    parts_kept kind mapping ps vs (out ++ literal kind (Literal t)) h
    ∙ ap (λ (o : List ℕ). gives (none_left kind mapping vs) and_then λ u. gives (Ok o)) (append_assoc out (literal kind (Literal t)) (literals kind ps))
parts_kept kind mapping ((place, LiteralBytes t) ∷ ps) vs out h =
    parts_kept kind mapping ps vs (out ++ literal kind (LiteralBytes t)) h
    ∙ ap (λ (o : List ℕ). gives (none_left kind mapping vs) and_then λ u. gives (Ok o)) (append_assoc out (literal kind (LiteralBytes t)) (literals kind ps))
parts_kept kind mapping ((place, Spec s) ∷ ps) vs out h = absurd (cc)

none_keyed : (ps : Parts) → all_literal ps ≡ true → count_by (λ p. is_keyed p.1) ps ≡ 0
none_keyed [] h = refl
none_keyed ((place, Literal t) ∷ ps) h = none_keyed ps h
none_keyed ((place, LiteralBytes t) ∷ ps) h = none_keyed ps h
none_keyed ((place, Spec s) ∷ ps) h = absurd (cc)

none_bare : (ps : Parts) → all_literal ps ≡ true → count_by (λ p. is_bare p.1) ps ≡ 0
none_bare [] h = refl
none_bare ((place, Literal t) ∷ ps) h = none_bare ps h
none_bare ((place, LiteralBytes t) ∷ ps) h = none_bare ps h
none_bare ((place, Spec s) ∷ ps) h = absurd (cc)

no_specifiers : (ps : Parts) → all_literal ps ≡ true → specifiers_of ps ≡ Some (0, false)
no_specifiers ps h = ap (λ k. checked k (count_by (λ p. is_bare p.1) ps)) (none_keyed ps h) ∙ ap (λ b. checked 0 b) (none_bare ps h)

literals_kept : (kind : Kind) (mapping : Bool) (ps : Parts) (v : Plain) (out : List ℕ) → all_literal ps ≡ true → put_all_by (specifiers_of ps) kind mapping ps v out ≡ (gives (none_left kind mapping (values_in v)) and_then λ u. gives (Ok (out ++ literals kind ps)))
literals_kept kind mapping ps v out h = ap (λ s. put_all_by s kind mapping ps v out) (no_specifiers ps h) ∙ parts_kept kind mapping ps (values_in v) out h

pub template_kept : (kind : Kind) (template : List ℕ) (ps : Parts) (v : Plain) → parts_of kind template ≡ Ok ps → all_literal ps ≡ true → percent kind template v ≡ (is_mapping kind v and_then λ mapping. gives (none_left kind mapping (values_in v)) and_then λ u. gives (Ok (literals kind ps)))
template_kept kind template ps v read h =
    ap (λ (r : Result Parts PyError). gives r and_then λ qs. put_all kind qs v []) read
    ∙ (λ i. is_mapping kind v and_then (λ mapping. literals_kept kind mapping ps v [] h i))
