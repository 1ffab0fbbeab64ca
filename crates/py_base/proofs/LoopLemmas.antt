-- What a loop has left to read, where its definition is a recursion that counts down.
-- The invariant is Left, from `whole` at the length of the input; a turn keeps it by turned, an end or an error by stopped:
--     preserved c = turned .. after (why one turn is so) (why the value so far grows so) (why less is left) c.loop-x.invariant
-- each with a lemma of the reader on what one unfolding of the recursion is, from the facts of the turn.
use Rattle.std.proofs.Common.{◌≡◌, refl, sym, ap, ◌∙◌, ℕ, zero, suc, ◌<◌, Bool, true, false, List, length, arith}
use Rattle.std.specs.Prelude.{Result, Ok, Err}
use Rattle.py_base.specs.Reading.{Read, ◌and_then◌, unless}

-- want is what the loop reads in the rest, put to what it has read by f, for some count past the rest's length
pub record Left {E B C : Type 0} (want : Read E C) (loop : ℕ → List ℕ → Read E B) (f : B → C) (rest : List ℕ) : Type 0 where
  pub most : ℕ
  pub enough : length rest < most
  pub whole : want ≡ (loop most rest and_then λ b x. Ok (f b, x))

pub nothing_more : {E A : Type 0} (r : Read E A) → r ≡ (r and_then λ a x. Ok (a, x))
nothing_more (Ok r) = refl
nothing_more (Err e) = refl

onward : {E A B C : Type 0} (r : Read E A) (g : A → B) (f : B → C) (h : A → C) → ((a : A) → f (g a) ≡ h a) → ((r and_then λ a x. Ok (g a, x)) and_then λ b x. Ok (f b, x)) ≡ (r and_then λ a x. Ok (h a, x))
onward (Ok r) g f h e = ap (λ c. Ok (c, r.1)) (e r.0)
onward (Err w) g f h e = refl

turn : {E B C : Type 0} (most : ℕ) (want : Read E C) (loop : ℕ → List ℕ → Read E B) (f h : B → C) (g : B → B) (rest after : List ℕ) → ((k : ℕ) → loop (suc k) rest ≡ (loop k after and_then λ b x. Ok (g b, x))) → ((b : B) → f (g b) ≡ h b) → length after < length rest → length rest < most → want ≡ (loop most rest and_then λ b x. Ok (f b, x)) → Left want loop h after
turn zero want loop f h g rest after one same less l w = let z : ⊥ = omega (arith, l) in absurd z
turn (suc k) want loop f h g rest after one same less l w = record {
  most = k;
  enough = omega (arith, l, less);
  whole = w ∙ ap (λ r. r and_then λ b x. Ok (f b, x)) (one k) ∙ onward (loop k after) g f h same;
}

-- after a turn that reads up to `after`, and puts what it read to the rest's value by g
pub turned : {E B C : Type 0} {want : Read E C} {loop : ℕ → List ℕ → Read E B} {f : B → C} (h : B → C) (g : B → B) {rest : List ℕ} (after : List ℕ) → ((k : ℕ) → loop (suc k) rest ≡ (loop k after and_then λ b x. Ok (g b, x))) → ((b : B) → f (g b) ≡ h b) → length after < length rest → Left want loop f rest → Left want loop h after
turned {E} {B} {C} {want} {loop} {f} h g {rest} after one same less l = turn l.most want loop f h g rest after one same less l.enough l.whole

stop : {E B C : Type 0} (most : ℕ) (want : Read E C) (loop : ℕ → List ℕ → Read E B) (f : B → C) (rest : List ℕ) (r : Read E B) → ((k : ℕ) → loop (suc k) rest ≡ r) → length rest < most → want ≡ (loop most rest and_then λ b x. Ok (f b, x)) → want ≡ (r and_then λ b x. Ok (f b, x))
stop zero want loop f rest r one l w = let z : ⊥ = omega (arith, l) in absurd z
stop (suc k) want loop f rest r one l w = w ∙ ap (λ r. r and_then λ b x. Ok (f b, x)) (one k)

-- where the loop ends, with a value or an error
pub stopped : {E B C : Type 0} {want : Read E C} {loop : ℕ → List ℕ → Read E B} {f : B → C} {rest : List ℕ} (r : Read E B) → ((k : ℕ) → loop (suc k) rest ≡ r) → Left want loop f rest → want ≡ (r and_then λ b x. Ok (f b, x))
stopped {E} {B} {C} {want} {loop} {f} {rest} r one l = stop l.most want loop f rest r one l.enough l.whole

-- the error of a part is the error of the whole
pub handed_on : {E A B : Type 0} (b : Bool) {want : Result A E} {more : Result B E} (e : E) → (want ≡ Err e → more ≡ Err e) → unless b (Err e ≡ want) → unless b (Err e ≡ more)
handed_on true e f h = tt
handed_on false e f h = sym (f (sym h))
