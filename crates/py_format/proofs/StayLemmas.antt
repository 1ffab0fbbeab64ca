-- What was written stays, and what is written after it does not depend on it.
use Rattle.std.proofs.Common.{◌≡◌, ◌∙◌, ℕ, Bool, true, false, List, [], ◌∷◌, ◌++◌, append_assoc, Option, Some, None, Ok, Err, refl, sym, ap, cond}
use Rattle.std.proofs.lemmas.List.{append-nil}
use Rattle.py_base.specs.declared.error.PyError.TheVariants.{PercentArgs}
use Rattle.py_base.specs.declared.error.percent.PercentCause.TheVariants.{StarNotInt}
use Rattle.py_spec.specs.declared.percent.parts.CFormatPart.{CFormatPart}
use Rattle.py_spec.specs.declared.percent.parts.CFormatPart.TheVariants.{Literal, LiteralBytes, Spec}
use Rattle.py_spec.specs.declared.percent.parts.CFormatSpec.{CFormatSpec}
use Rattle.py_spec.specs.Percent.Specifiers.{specifiers_of}
use Rattle.py_spec.specs.Percent.Template.{Parts}
use Rattle.py_value.specs.Asking.{Asking, gives, asks, tests, ◌and_then◌}
use Rattle.py_value.specs.Lookup.{item}
use Rattle.py_value.specs.Plain.{Plain, Plains}
use Rattle.py_format.specs.declared.percent.kind.Kind.{Kind}
use Rattle.py_format.specs.Percent.Fold.{is_mapping, literal, none_left, put_next, put_part, put_parts, put_keyed, put_keyed_part, put_keyed_parts, put_all_by, put_all, has_star, key_value}
use Rattle.py_format.specs.Percent.Taking.{take_width, take_precision, next_value, settled, values_in}
use Rattle.py_format.specs.Percent.Values.{put_value, write}

-- three calls one after the other
assoc : {A B C : Type 0} (call : Asking A) (f : A → Asking B) (g : B → Asking C) → (call and_then f) and_then g ≡ (call and_then λ a. f a and_then g)
assoc (gives (Ok a)) f g = refl
assoc (gives (Err e)) f g = refl
assoc (asks q m k next) f g = λ i. asks q m k (λ a. assoc (next a) f g i)
assoc (tests q next) f g = λ i. tests q (λ b. assoc (next b) f g i)

on_each : {A B : Type 0} (call : Asking A) (f g : A → Asking B) → ((a : A) → f a ≡ g a) → (call and_then f) ≡ (call and_then g)
on_each call f g h = λ i. call and_then (λ a. h a i)

-- a call before what stays
stays_then : {A B C : Type 0} (call : Asking A) (f : A → Asking C) (g : A → Asking B) (k : B → Asking C) → ((a : A) → f a ≡ (g a and_then k)) → (call and_then f) ≡ ((call and_then g) and_then k)
stays_then call f g k h = on_each call f (λ a. g a and_then k) h ∙ sym (assoc call g k)

-- what comes after what was written
abbrev after : List ℕ → List ℕ → Asking (List ℕ)
after out t = gives (Ok (out ++ t))

abbrev after_taken : List ℕ → (List ℕ × Plains) → Asking (List ℕ × Plains)
after_taken out r = gives (Ok (out ++ r.0, r.1))

value_stays : (kind : Kind) (s : CFormatSpec) (place : ℕ) (v : Plain) (out : List ℕ) → put_value kind s place v out ≡ (put_value kind s place v [] and_then after out)
value_stays kind s place v out = stays_then (write kind s place v) (λ t. gives (Ok (out ++ t))) (λ t. gives (Ok ([] ++ t))) (after out) (λ t. refl)

taken_stays : (kind : Kind) (s : CFormatSpec) (place : ℕ) (v : Plain) (vs : Plains) (out : List ℕ) → (put_value kind s place v out and_then λ t. gives (Ok (t, vs))) ≡ ((put_value kind s place v [] and_then λ t. gives (Ok (t, vs))) and_then after_taken out)
taken_stays kind s place v vs out =
    ap (λ (call : Asking (List ℕ)). call and_then λ t. gives (Ok (t, vs))) (value_stays kind s place v out)
    ∙ assoc (put_value kind s place v []) (after out) (λ t. gives (Ok (t, vs)))
    ∙ sym (assoc (put_value kind s place v []) (λ t. gives (Ok (t, vs))) (after_taken out))

next_stays : (kind : Kind) (s : CFormatSpec) (place : ℕ) (vs : Plains) (out : List ℕ) → put_next kind s place vs out ≡ (put_next kind s place vs [] and_then after_taken out)
next_stays kind s place vs out =
    stays_then (gives (take_width s.flags s.min_field_width vs)) (λ w. gives (take_precision s.precision w.1) and_then λ p. gives (next_value p.1) and_then λ v. put_value kind (settled s w.0 p.0) place v.0 out and_then λ t. gives (Ok (t, v.1))) (λ w. gives (take_precision s.precision w.1) and_then λ p. gives (next_value p.1) and_then λ v. put_value kind (settled s w.0 p.0) place v.0 [] and_then λ t. gives (Ok (t, v.1))) (after_taken out)
    (λ w. stays_then (gives (take_precision s.precision w.1)) (λ p. gives (next_value p.1) and_then λ v. put_value kind (settled s w.0 p.0) place v.0 out and_then λ t. gives (Ok (t, v.1))) (λ p. gives (next_value p.1) and_then λ v. put_value kind (settled s w.0 p.0) place v.0 [] and_then λ t. gives (Ok (t, v.1))) (after_taken out)
    (λ p. stays_then (gives (next_value p.1)) (λ v. put_value kind (settled s w.0 p.0) place v.0 out and_then λ t. gives (Ok (t, v.1))) (λ v. put_value kind (settled s w.0 p.0) place v.0 [] and_then λ t. gives (Ok (t, v.1))) (after_taken out)
    (λ v. taken_stays kind (settled s w.0 p.0) place v.0 v.1 out)))

literal_stays : (out t : List ℕ) (vs : Plains) → gives (Ok (out ++ t, vs)) ≡ (gives (Ok ([] ++ t, vs)) and_then after_taken out)
literal_stays out t vs = refl

part_stays : (kind : Kind) (place : ℕ) (p : CFormatPart) (vs : Plains) (out : List ℕ) → put_part kind place p vs out ≡ (put_part kind place p vs [] and_then after_taken out)
part_stays kind place (Literal t) vs out = literal_stays out (literal kind (Literal t)) vs
part_stays kind place (LiteralBytes t) vs out = literal_stays out (literal kind (LiteralBytes t)) vs
part_stays kind place (Spec s) vs out = next_stays kind s place vs out

-- after two pieces of what was written
after_both : (call : Asking (List ℕ)) (a b : List ℕ) → (call and_then after (a ++ b)) ≡ ((call and_then after b) and_then after a)
after_both call a b = stays_then call (after (a ++ b)) (after b) (after a) (λ t. ap (λ (u : List ℕ). gives (Ok u)) (append_assoc a b t))

parts_stay : (kind : Kind) (mapping : Bool) (ps : Parts) (vs : Plains) (out : List ℕ) → put_parts kind mapping ps vs out ≡ (put_parts kind mapping ps vs [] and_then after out)
parts_stay kind mapping [] vs out = stays_then (gives (none_left kind mapping vs)) (λ u. gives (Ok out)) (λ u. gives (Ok [])) (after out) (λ u. ap (λ (t : List ℕ). gives (Ok t)) (sym (append-nil out)))
parts_stay kind mapping (p ∷ ps) vs out =
    ap (λ (call : Asking (List ℕ × Plains)). call and_then λ r. put_parts kind mapping ps r.1 r.0) (part_stays kind p.0 p.1 vs out)
    ∙ assoc (put_part kind p.0 p.1 vs []) (after_taken out) (λ r. put_parts kind mapping ps r.1 r.0)
    ∙ stays_then (put_part kind p.0 p.1 vs []) (λ r. put_parts kind mapping ps r.1 (out ++ r.0)) (λ r. put_parts kind mapping ps r.1 r.0) (after out)
    (λ r. parts_stay kind mapping ps r.1 (out ++ r.0) ∙ after_both (put_parts kind mapping ps r.1 []) out r.0 ∙ ap (λ (call : Asking (List ℕ)). call and_then after out) (sym (parts_stay kind mapping ps r.1 r.0)))

star_stays : (b : Bool) (one two : Asking (List ℕ)) (out : List ℕ) → one ≡ (two and_then after out) → cond b (gives (Err (PercentArgs StarNotInt))) one ≡ (cond b (gives (Err (PercentArgs StarNotInt))) two and_then after out)
star_stays true one two out h = refl
star_stays false one two out h = h

keyed_stays : (kind : Kind) (s : CFormatSpec) (place : ℕ) (v : Plain) (out : List ℕ) → put_keyed kind s place v out ≡ (put_keyed kind s place v [] and_then after out)
keyed_stays kind s place v out =
    star_stays (has_star s) (item v (key_value s.mapping_key) and_then λ w. put_value kind s place w out) (item v (key_value s.mapping_key) and_then λ w. put_value kind s place w []) out
    (stays_then (item v (key_value s.mapping_key)) (λ w. put_value kind s place w out) (λ w. put_value kind s place w []) (after out) (λ w. value_stays kind s place w out))

keyed_part_stays : (kind : Kind) (place : ℕ) (p : CFormatPart) (v : Plain) (out : List ℕ) → put_keyed_part kind place p v out ≡ (put_keyed_part kind place p v [] and_then after out)
keyed_part_stays kind place (Literal t) v out = refl
keyed_part_stays kind place (LiteralBytes t) v out = refl
keyed_part_stays kind place (Spec s) v out = keyed_stays kind s place v out

keyed_parts_stay : (kind : Kind) (ps : Parts) (v : Plain) (out : List ℕ) → put_keyed_parts kind ps v out ≡ (put_keyed_parts kind ps v [] and_then after out)
keyed_parts_stay kind [] v out = ap (λ (t : List ℕ). gives (Ok t)) (sym (append-nil out))
keyed_parts_stay kind (p ∷ ps) v out =
    ap (λ (call : Asking (List ℕ)). call and_then λ t. put_keyed_parts kind ps v t) (keyed_part_stays kind p.0 p.1 v out)
    ∙ assoc (put_keyed_part kind p.0 p.1 v []) (after out) (λ t. put_keyed_parts kind ps v t)
    ∙ stays_then (put_keyed_part kind p.0 p.1 v []) (λ t. put_keyed_parts kind ps v (out ++ t)) (λ t. put_keyed_parts kind ps v t) (after out)
    (λ t. keyed_parts_stay kind ps v (out ++ t) ∙ after_both (put_keyed_parts kind ps v []) out t ∙ ap (λ (call : Asking (List ℕ)). call and_then after out) (sym (keyed_parts_stay kind ps v t)))

all_by_stays : (specifiers : Option (ℕ × Bool)) (kind : Kind) (mapping : Bool) (ps : Parts) (v : Plain) (out : List ℕ) → put_all_by specifiers kind mapping ps v out ≡ (put_all_by specifiers kind mapping ps v [] and_then after out)
all_by_stays None kind mapping ps v out = refl
all_by_stays (Some (n, true)) kind true ps v out = keyed_parts_stay kind ps v out
all_by_stays (Some (n, true)) kind false ps v out = refl
all_by_stays (Some (n, false)) kind mapping ps v out = parts_stay kind mapping ps (values_in v) out

pub written_stays : (kind : Kind) (ps : Parts) (v : Plain) (out : List ℕ) → put_all kind ps v out ≡ (put_all kind ps v [] and_then λ t. gives (Ok (out ++ t)))
written_stays kind ps v out = stays_then (is_mapping kind v) (λ mapping. put_all_by (specifiers_of ps) kind mapping ps v out) (λ mapping. put_all_by (specifiers_of ps) kind mapping ps v []) (after out) (λ mapping. all_by_stays (specifiers_of ps) kind mapping ps v out)
