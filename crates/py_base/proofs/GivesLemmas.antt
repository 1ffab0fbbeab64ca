-- What a reader reads, for the half of a theorem "what is in the grammar is read".
-- Each proof follows its reader line by line, and says what each line gives:
--     pair_again a b x = reads _ (the first part) (passes _ (why the test is passed) (it (an equation)))
-- skips is for a test that is not passed, spelled where the input is written otherwise, done for a last line that computes.
use Rattle.std.proofs.Common.{◌≡◌, refl, sym, ap, ◌∙◌, ℕ, Bool, true, false, List, [], ◌∷◌, ◌++◌, length, take, drop, arith, length-append}
use Rattle.std.specs.Prelude.{Option, Some, None, Ok, nat_lt, if◌then◌else◌}
use Rattle.std.proofs.Math.Seq.{take-append_seam, drop-append_seam}
use Rattle.std.proofs.lemmas.Bool.{ne_eqb, le-ltb}
use Rattle.py_base.specs.Reading.{Read, ◌and_then◌, read_one, read_many, find, read_found, read_by}
use Rattle.py_base.proofs.HoldsLemmas.{Each}

-- this is read, and this is left
pub record Gives {E A : Type 0} (r : Read E A) (a : A) (x : List ℕ) : Type 0 where
  pub is : r ≡ Ok (a, x)

pub it : {E A : Type 0} {r : Read E A} {a : A} {x : List ℕ} → r ≡ Ok (a, x) → Gives r a x
it {E} {A} {r} {a} {x} e = record { is = e }

pub done : {E A : Type 0} {a : A} {x : List ℕ} → Gives {E = E} (Ok (a, x)) a x
done {E} {A} {a} {x} = record { is = refl }

pub reads : {E A B : Type 0} {r : Read E A} (f : A → List ℕ → Read E B) {a : A} {x : List ℕ} {b : B} {y : List ℕ} → Gives r a x → Gives (f a x) b y → Gives (r and_then f) b y
reads {E} {A} {B} {r} f {a} {x} {b} {y} g h = record { is = ap (λ r. r and_then f) g.is ∙ h.is }

pub passes : {E A : Type 0} {b : Bool} {r : Read E A} (s : Read E A) {a : A} {x : List ℕ} → b ≡ true → Gives r a x → Gives (if b then r else s) a x
passes {E} {A} {b} {r} s {a} {x} e h = record { is = ap (λ b. if b then r else s) e ∙ h.is }

pub skips : {E A : Type 0} {b : Bool} (r : Read E A) {s : Read E A} {a : A} {x : List ℕ} → b ≡ false → Gives s a x → Gives (if b then r else s) a x
skips {E} {A} {b} r {s} {a} {x} e h = record { is = ap (λ b. if b then r else s) e ∙ h.is }

pub spelled : {E A : Type 0} (read : List ℕ → Read E A) {u v : List ℕ} {a : A} {x : List ℕ} → u ≡ v → Gives (read v) a x → Gives (read u) a x
spelled {E} {A} read {u} {v} {a} {x} e h = record { is = ap read e ∙ h.is }

-- these, before others
pub many_again : {E : Type 0} (e : E) (n : ℕ) (part x : List ℕ) → length part ≡ n → Gives (read_many e n (part ++ x)) part x
many_again e n part x l =
    let taken : take n (part ++ x) ≡ part = ap (λ k. take k (part ++ x)) (sym l) ∙ take-append_seam part x in
    let left : drop n (part ++ x) ≡ x = ap (λ k. drop k (part ++ x)) (sym l) ∙ drop-append_seam part x in
    skips {b = nat_lt (length (part ++ x)) n} _ (le-ltb (length (part ++ x)) n (omega (arith, l, length-append part x)))
    (it (λ i. Ok (taken i, left i)))

-- a table without this key
pub absent : {X : Type 0} (table : List (ℕ × X)) (key : ℕ) → Each (λ row. key ≡ row.0 → ⊥) table → find table key ≡ None
absent [] key h = refl
absent (row ∷ table) key h = ap (λ b. if b then Some row.1 else find table key) (ne_eqb row.0 key (λ k. h.0 (sym k))) ∙ absent table key h.1

-- which row of a table reads on
pub read_by_is : {E A : Type 0} (e : E) (table : List (ℕ × (List ℕ → Read E A))) (ws rest : List ℕ) (word key : ℕ) (found : Option (List ℕ → Read E A)) → Ok (word, rest) ≡ read_one e ws → word ≡ key → find table key ≡ found → read_by e table ws ≡ read_found e found rest
read_by_is e table ws rest word key found r k f =
    ap (λ r. r and_then λ key rest. read_found e (find table key) rest) (sym r)
    ∙ ap (λ key. read_found e (find table key) rest) k
    ∙ ap (λ found. read_found e found rest) f
