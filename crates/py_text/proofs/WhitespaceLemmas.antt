-- The words of a text, one after another.
use Rattle.std.proofs.Common.{◌≡◌, ℕ, ◌<◌, Bool, true, false, if◌then◌else◌, List, [], ◌∷◌, ◌++◌, length, suc, zero, refl, ap, sym, ◌∙◌, arith, append_assoc, append-nil}
use Rattle.py_base.specs.Chars.Whitespace.{is_ascii_whitespace, skip_while}
use Rattle.py_text.specs.Whitespace.{until_whitespace, from_whitespace, split_whitespace}

skip_case : (q : ℕ → Bool) (c : ℕ) (cs : List ℕ) (t : Bool) → q c ≡ t → skip_while q (skip_while q cs) ≡ skip_while q cs → skip_while q (skip_while q (c ∷ cs)) ≡ skip_while q (c ∷ cs)
skip_case q c cs true h more = let e : skip_while q (c ∷ cs) ≡ skip_while q cs = ap (λ t. if t then skip_while q cs else c ∷ cs) h in ap (skip_while q) e ∙ more ∙ sym e
skip_case q c cs false h more = let e : skip_while q (c ∷ cs) ≡ c ∷ cs = ap (λ t. if t then skip_while q cs else c ∷ cs) h in ap (skip_while q) e

pub skip_twice : (q : ℕ → Bool) (L : List ℕ) → skip_while q (skip_while q L) ≡ skip_while q L
skip_twice q [] = refl
skip_twice q (c ∷ cs) = skip_case q c cs (q c) refl (skip_twice q cs)

rest_piece : List ℕ → List (List ℕ)
rest_piece M = elim M [ [] ↦ [] | c ∷ cs ↦ (c ∷ cs) ∷ [] ]

-- whitespace before it does not count
pub words_skip : (k : ℕ) (L : List ℕ) → split_whitespace k (skip_while is_ascii_whitespace L) ≡ split_whitespace k L
words_skip zero L = ap (λ (M : List ℕ). elim M as (λ _. List (List ℕ)) [ [] ↦ [] | c ∷ cs ↦ (c ∷ cs) ∷ [] ]) (skip_twice is_ascii_whitespace L)
words_skip (suc k) L = ap (λ (M : List ℕ). elim M as (λ _. List (List ℕ)) [ [] ↦ [] | c ∷ cs ↦ until_whitespace (c ∷ cs) ∷ split_whitespace k (from_whitespace (c ∷ cs)) ]) (skip_twice is_ascii_whitespace L)

words_none : (k : ℕ) → split_whitespace k [] ≡ []
words_none zero = refl
words_none (suc k) = refl

words_zero : (L : List ℕ) → skip_while is_ascii_whitespace L ≡ L → 0 < length L → split_whitespace zero L ≡ L ∷ []
words_zero [] h some = absurd (omega arith)
words_zero (c ∷ cs) h some = ap (λ (M : List ℕ). elim M as (λ _. List (List ℕ)) [ [] ↦ [] | c ∷ cs ↦ (c ∷ cs) ∷ [] ]) h

words_more : (k : ℕ) (L : List ℕ) → skip_while is_ascii_whitespace L ≡ L → 0 < length L → split_whitespace (suc k) L ≡ until_whitespace L ∷ split_whitespace k (from_whitespace L)
words_more k [] h some = absurd (omega arith)
words_more k (c ∷ cs) h some = ap (λ (M : List ℕ). elim M as (λ _. List (List ℕ)) [ [] ↦ [] | c ∷ cs ↦ until_whitespace (c ∷ cs) ∷ split_whitespace k (from_whitespace (c ∷ cs)) ]) h

-- the words before rest, which does not begin with a blank, are in the list
pub record Wording (rest : List ℕ) (list total : List (List ℕ)) (left : ℕ) : Type 0 where
  pub clean : skip_while is_ascii_whitespace rest ≡ rest
  pub so_far : list ++ split_whitespace left rest ≡ total

pub wording_none : (L rest : List ℕ) (k : ℕ) → rest ≡ skip_while is_ascii_whitespace L → Wording rest [] (split_whitespace k L) k
wording_none L rest k h = record { clean = ap (skip_while is_ascii_whitespace) h ∙ skip_twice is_ascii_whitespace L ∙ sym h; so_far = ap (split_whitespace k) h ∙ words_skip k L }

pub wording_more : (rest word after next : List ℕ) (list longer total : List (List ℕ)) (left n : ℕ) → 0 < length rest → left ≡ suc n → word ≡ until_whitespace rest → after ≡ from_whitespace rest → next ≡ skip_while is_ascii_whitespace after → longer ≡ list ++ word ∷ [] → Wording rest list total left → Wording next longer total n
wording_more rest word after next list longer total left n some s w b k l g = record {
  clean = ap (skip_while is_ascii_whitespace) k ∙ skip_twice is_ascii_whitespace after ∙ sym k;
  so_far =
      let one : split_whitespace left rest ≡ word ∷ split_whitespace n next = ap (λ m. split_whitespace m rest) s ∙ words_more n rest g.clean some ∙ (λ j. sym w j ∷ split_whitespace n (from_whitespace rest)) ∙ ap (λ m. word ∷ split_whitespace n m) (sym b) ∙ ap (λ m. word ∷ m) (sym (words_skip n after) ∙ ap (split_whitespace n) (sym k)) in
      ap (λ r. r ++ split_whitespace n next) l ∙ append_assoc list (word ∷ []) (split_whitespace n next) ∙ ap (λ r. list ++ r) (sym one) ∙ g.so_far;
}

pub wording_rest : (rest : List ℕ) (list longer total : List (List ℕ)) (left : ℕ) → 0 < length rest → left ≡ 0 → longer ≡ list ++ rest ∷ [] → Wording rest list total left → longer ≡ total
wording_rest rest list longer total left some z l g = l ∙ ap (λ r. list ++ r) (sym (ap (λ m. split_whitespace m rest) z ∙ words_zero rest g.clean some)) ∙ g.so_far

pub wording_all : (rest : List ℕ) (list total : List (List ℕ)) (left : ℕ) → rest ≡ [] → Wording rest list total left → list ≡ total
wording_all rest list total left e g = sym (append-nil list) ∙ ap (λ r. list ++ r) (sym (ap (split_whitespace left) e ∙ words_none left)) ∙ g.so_far
