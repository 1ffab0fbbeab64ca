-- What is true of all that a reader reads, for the half of a theorem "what is read is in the grammar".
-- Each proof follows its reader line by line, and binds the fact of each step:
--     a_pair ws = then_holds (one_holds _ ws) λ a x p. then_holds (one_holds _ x) λ b y q. ok (the fact, from p and q)
-- check is for a last line `if test then Ok .. else Err ..`, guard for a line `if test then Err .. else`, table_holds for read_found.
use Rattle.std.proofs.Common.{◌≡◌, refl, sym, ap, subst, ℕ, Bool, true, false, List, [], ◌∷◌, ◌++◌, ◌≤◌, length, drop, arith}
use Rattle.std.specs.Prelude.{Ok, Err, IfOk, if◌then◌else◌, Option, Some, ◌==◌, nat_lt}
use Rattle.std.proofs.lemmas.Bool.{eqb-true, ltb-false}
use Rattle.std.proofs.lemmas.List.{length-take, take-append-drop}
use Rattle.py_base.specs.Reading.{Read, ◌and_then◌, read_one, read_many, is_next, find, read_found}

-- P of the value and of what is left, where something is read
pub record Holds {E A : Type 0} (P : A → List ℕ → Type 0) (r : Read E A) : Type 0 where
  pub by : (a : A) (x : List ℕ) → r ≡ Ok (a, x) → P a x

pub ok : {E A : Type 0} {P : A → List ℕ → Type 0} {a : A} {x : List ℕ} → P a x → Holds {E = E} P (Ok (a, x))
ok {E} {A} {P} {a} {x} p = record { by = λ b y e. (let Q : Read E A → Type 0 = λ r. IfOk r (λ q. P q.0 q.1) in subst Q e p) }

pub bad : {E A : Type 0} {P : A → List ℕ → Type 0} {e : E} → Holds {A = A} P (Err e)
bad {E} {A} {P} {e} = record { by = λ b y q. (let f : ⊥ = cc q in absurd f) }

then_by : {E A B : Type 0} {P : A → List ℕ → Type 0} {Q : B → List ℕ → Type 0} (r : Read E A) (f : A → List ℕ → Read E B) → Holds P r → ((a : A) (x : List ℕ) → P a x → Holds Q (f a x)) → (b : B) (y : List ℕ) → (r and_then f) ≡ Ok (b, y) → Q b y
then_by (Ok p) f h k b y e = (k p.0 p.1 (h.by p.0 p.1 refl)).by b y e
then_by (Err w) f h k b y e = let g : ⊥ = cc e in absurd g

pub then_holds : {E A B : Type 0} {P : A → List ℕ → Type 0} {Q : B → List ℕ → Type 0} {r : Read E A} {f : A → List ℕ → Read E B} → Holds P r → ((a : A) (x : List ℕ) → P a x → Holds Q (f a x)) → Holds Q (r and_then f)
then_holds {E} {A} {B} {P} {Q} {r} {f} h k = record { by = then_by {P = P} {Q = Q} r f h k }

pub if_holds : {E A : Type 0} {P : A → List ℕ → Type 0} (b : Bool) {r s : Read E A} → (b ≡ true → Holds P r) → (b ≡ false → Holds P s) → Holds P (if b then r else s)
if_holds true h k = h refl
if_holds false h k = k refl

pub check : {E A : Type 0} {P : A → List ℕ → Type 0} (b : Bool) (e : E) (a : A) (x : List ℕ) → (b ≡ true → P a x) → Holds P (if b then Ok (a, x) else Err e)
check true e a x h = ok (h refl)
check false e a x h = bad

pub guard : {E A : Type 0} {P : A → List ℕ → Type 0} (b : Bool) (e : E) {r : Read E A} → (b ≡ false → Holds P r) → Holds P (if b then Err e else r)
guard true e h = bad
guard false e h = h refl

pub weaker : {E A : Type 0} {P Q : A → List ℕ → Type 0} {r : Read E A} → Holds P r → ((a : A) (x : List ℕ) → P a x → Q a x) → Holds Q r
weaker {E} {A} {P} {Q} {r} h k = record { by = λ a x e. k a x (h.by a x e) }

-- the next one, and the next n
pub one_holds : {E : Type 0} (e : E) (ws : List ℕ) → Holds (λ w x. ws ≡ w ∷ x) (read_one e ws)
one_holds e [] = bad
one_holds e (w ∷ ws) = ok refl

pub many_hold : {E : Type 0} (e : E) (n : ℕ) (ws : List ℕ) → Holds (λ part x. (ws ≡ part ++ x) × (length part ≡ n)) (read_many e n ws)
many_hold e n ws = guard (nat_lt (length ws) n) e λ f.
    let long : n ≤ length ws = ltb-false (length ws) n f in
    ok (sym (take-append-drop n ws), omega (arith, length-take n ws, long))

pub next_is : (w : ℕ) (ws : List ℕ) → is_next w ws ≡ true → ws ≡ w ∷ drop 1 ws
next_is w [] h = let f : ⊥ = cc h in absurd f
next_is w (v ∷ ws) h = ap (λ u. u ∷ ws) (eqb-true v w h)

-- P of each row of a table
abbrev pub Each : {X : Type 0} → (X → Type 0) → List X → Type 0
Each P [] = Unit {0}
Each P (x ∷ xs) = P x × Each P xs

-- the facts of the rows, with tt after the last
infixr 10 ◌also◌
pub ◌also◌ : {A B : Type 0} → A → B → A × B
a also b = (a, b)

by_key : {E A : Type 0} (P : ℕ → A → List ℕ → Type 0) (e : E) (key op : ℕ) (b : Bool) → (key == op) ≡ b → (read : List ℕ → Read E A) (other : Option (List ℕ → Read E A)) (ws : List ℕ) → Holds (P key) (read ws) → Holds (P op) (read_found e other ws) → Holds (P op) (read_found e (if b then Some read else other) ws)
by_key {E} {A} P e key op true q read other ws h k = let Q : ℕ → Type 0 = λ v. Holds (P v) (read ws) in subst Q (eqb-true key op q) h
by_key {E} {A} P e key op false q read other ws h k = k

-- what each reader keeps of its key, a table keeps of the key that it is given
pub table_holds : {E A : Type 0} (P : ℕ → A → List ℕ → Type 0) (e : E) (table : List (ℕ × (List ℕ → Read E A))) (key : ℕ) (ws : List ℕ) → Each (λ row. Holds (P row.0) (row.1 ws)) table → Holds (P key) (read_found e (find table key) ws)
table_holds {E} {A} P e [] key ws h = bad
table_holds {E} {A} P e (row ∷ table) key ws h = by_key P e row.0 key (row.0 == key) refl row.1 (find table key) ws h.0 (table_holds P e table key ws h.1)
