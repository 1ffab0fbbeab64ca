-- How what a part writes goes into what the template makes.
use Rattle.std.proofs.Common.{◌≡◌, ℕ, List, Result, Ok, Err, Bool, true, false, refl, sym, subst, arith, cond}
use Rattle.py_base.specs.declared.error.PyError.{PyError}
use Rattle.py_value.specs.Asking.{Asking, gives, ◌and_then◌, Answers, Comes, Seen}
use Rattle.py_value.specs.Plain.{Plain, Plains}
use Rattle.py_value.specs.Printing.{written}
use Rattle.py_value.proofs.AskingLemmas.{go_on, stop, asks_nothing, met}
use Rattle.py_base.specs.declared.error.percent.PercentCause.TheVariants.{StarNotInt}
use Rattle.py_base.specs.declared.error.PyError.TheVariants.{PercentArgs}
use Rattle.py_spec.specs.declared.percent.parts.CFormatSpec.{CFormatSpec}
use Rattle.py_value.specs.Lookup.{item}
use Rattle.py_format.specs.declared.percent.kind.Kind.{Kind}
use Rattle.py_format.specs.Percent.Fold.{both, has_star, is_mapping, key_value, put_all, put_all_by, put_keyed, put_keyed_parts, put_parts}
use Rattle.py_spec.specs.Percent.Specifiers.{specifiers_of}
use Rattle.py_spec.specs.Percent.Template.{Parts}
use Rattle.std.specs.Prelude.{Option, Some}
use Rattle.py_format.specs.Percent.Taking.{values_in}
use Rattle.py_format.specs.Percent.Values.{put_value}

-- what was written, beside the values that are left
pub both_on : (r : Result (Unit {0}) PyError) (call : Asking (List ℕ)) (out : List ℕ) (vs : Plains) (s0 s1 : Seen) → Answers call s0 s1 (written r out) → Answers (call and_then λ t. gives (Ok (t, vs))) s0 s1 (both r out vs)
both_on (Ok u) call out vs s0 s1 h = go_on (λ t. gives (Ok (t, vs))) h (asks_nothing refl)
both_on (Err e) call out vs s0 s1 h = stop (λ t. gives (Ok (t, vs))) h

-- the test at the end, and then what was written
pub ended_on : (r want : Result (Unit {0}) PyError) (out : List ℕ) (s : Seen) → r ≡ want → Answers (gives want and_then λ u. gives (Ok out)) s s (written r out)
ended_on (Ok u) want out s e = subst (λ w. Answers (gives w and_then λ u. gives (Ok out)) s s (Ok out)) e (asks_nothing refl)
ended_on (Err d) want out s e = subst (λ w. Answers (gives w and_then λ u. gives (Ok out)) s s (Err d)) e (asks_nothing (met {A = List ℕ} {want = Err d} {r = Err d} refl))

-- a test of the host
pub comes_in : {A : Type 0} {call : Asking A} {a : A} {s : Seen} → Comes s s call (Ok a) → Answers call s s (Ok a)
comes_in h = record { kept = refl; later = omega arith; comes = h }

-- a specifier with a key and without a `*`
pub keyed_on : (kind : Kind) (s : CFormatSpec) (place : ℕ) (v : Plain) (out : List ℕ) (r : Result (List ℕ) PyError) (s0 s1 : Seen) → has_star s ≡ false → Answers (item v (key_value s.mapping_key) and_then λ w. put_value kind s place w out) s0 s1 r → Answers (put_keyed kind s place v out) s0 s1 r
keyed_on kind s place v out r s0 s1 e h = subst (λ (b : Bool). Answers (cond b (gives (Err (PercentArgs StarNotInt))) (item v (key_value s.mapping_key) and_then λ w. put_value kind s place w out)) s0 s1 r) (sym e) h

-- all parts, by whether they have keys
pub all_bare : (kind : Kind) (ps : Parts) (v : Plain) (out : List ℕ) (mapping : Bool) (n : ℕ) (r : Result (List ℕ) PyError) (s0 s1 : Seen) → Comes s0 s0 (is_mapping kind v) (Ok mapping) → specifiers_of ps ≡ Some (n, false) → Answers (put_parts kind mapping ps (values_in v) out) s0 s1 r → Answers (put_all kind ps v out) s0 s1 r
all_bare kind ps v out mapping n r s0 s1 test is more = go_on (λ b. put_all_by (specifiers_of ps) kind b ps v out) (comes_in test) (subst (λ (o : Option (ℕ × Bool)). Answers (put_all_by o kind mapping ps v out) s0 s1 r) (sym is) more)

pub all_keyed : (kind : Kind) (ps : Parts) (v : Plain) (out : List ℕ) (mapping : Bool) (n : ℕ) (r : Result (List ℕ) PyError) (s0 s1 : Seen) → Comes s0 s0 (is_mapping kind v) (Ok mapping) → mapping ≡ true → specifiers_of ps ≡ Some (n, true) → Answers (put_keyed_parts kind ps v out) s0 s1 r → Answers (put_all kind ps v out) s0 s1 r
all_keyed kind ps v out mapping n r s0 s1 test on is more = go_on (λ b. put_all_by (specifiers_of ps) kind b ps v out) (comes_in test) (subst (λ (o : Option (ℕ × Bool)). Answers (put_all_by o kind mapping ps v out) s0 s1 r) (sym is) (subst (λ (b : Bool). Answers (put_all_by (Some (n, true)) kind b ps v out) s0 s1 r) (sym on) more))
