-- The pieces between whitespace.
use Rattle.std.specs.Prelude.{◌≡◌, ◌≢◌, ℕ, zero, suc, ◌+◌, ◌<◌, ◌≤◌, ℤ, pos, negsuc, ◌<ℤ◌, Bool, true, false, not, cond, if◌then◌else◌, All, List, [], ◌∷◌, ◌++◌, map, reverse, take_while, length}
use Rattle.std.proofs.Common.{refl, ap, sym, ◌∙◌, subst, arith}
use Rattle.std.proofs.lemmas.Int.{ints}
use Rattle.std.proofs.lemmas.List.{length-map, length-reverse, reverse-append, reverse-reverse}
use Rattle.std.proofs.lemmas.List.Sums.{take_while-cons}
use Rattle.std.proofs.lemmas.List.Elements.{All-nil, All-cons, All-head, All-tail, All-append, All-map}
use Rattle.py_base.specs.Chars.Whitespace.{is_ascii_whitespace, skip_while}
use Rattle.py_text.specs.Laws.{AllButLast, AllButFirst, HasNoWhitespace, BeginsWithoutWhitespace, EndsWithoutWhitespace, AreBetweenWhitespace, PiecesBetweenWhitespace, PiecesBetweenFromRight}
use Rattle.py_text.specs.Mirror.{mirrored}
use Rattle.py_text.specs.Pieces.{limit}
use Rattle.py_text.specs.Whitespace.{until_whitespace, from_whitespace, split_whitespace}
use Rattle.py_text.proofs.LineLemmas.{skip_le}
use Rattle.py_text.proofs.LawLemmas.{after_shorter}

pub but_last_more : (P : List ℕ → Type 0) (x : List ℕ) (ps : List (List ℕ)) → P x → AllButLast P ps → AllButLast P (x ∷ ps)
but_last_more P x [] p h = tt
but_last_more P x (y ∷ ys) p h = (p, h)

not_nil : (c : ℕ) (cs : List ℕ) → c ∷ cs ≢ []
not_nil c cs e = cc

skip_head_case : (d : ℕ) (ds : List ℕ) (c : ℕ) (cs : List ℕ) (t : Bool) → is_ascii_whitespace d ≡ t → (skip_while is_ascii_whitespace ds ≡ c ∷ cs → is_ascii_whitespace c ≡ false) → skip_while is_ascii_whitespace (d ∷ ds) ≡ c ∷ cs → is_ascii_whitespace c ≡ false
skip_head_case d ds c cs true h more e = more (sym (ap (λ t. if t then skip_while is_ascii_whitespace ds else d ∷ ds) h) ∙ e)
skip_head_case d ds c cs false h more e =
    let same : d ∷ ds ≡ c ∷ cs = sym (ap (λ t. if t then skip_while is_ascii_whitespace ds else d ∷ ds) h) ∙ e in
    let head : d ≡ c = cc in
    subst (λ (x : ℕ). is_ascii_whitespace x ≡ false) head h

skip_head : (L : List ℕ) (c : ℕ) (cs : List ℕ) → skip_while is_ascii_whitespace L ≡ c ∷ cs → is_ascii_whitespace c ≡ false
skip_head [] c cs e = absurd (cc)
skip_head (d ∷ ds) c cs e = skip_head_case d ds c cs (is_ascii_whitespace d) refl (skip_head ds c cs) e

taken_case : (c : ℕ) (cs : List ℕ) (t : Bool) → is_ascii_whitespace c ≡ t → All (λ d. is_ascii_whitespace d ≡ false) (take_while (λ d. not (is_ascii_whitespace d)) cs) → All (λ d. is_ascii_whitespace d ≡ false) (take_while (λ d. not (is_ascii_whitespace d)) (c ∷ cs))
taken_case c cs true h more = subst (All (λ d. is_ascii_whitespace d ≡ false)) (sym (take_while-cons (λ d. not (is_ascii_whitespace d)) c cs ∙ ap (λ t. cond (not t) (c ∷ take_while (λ d. not (is_ascii_whitespace d)) cs) []) h)) (All-nil (λ d. is_ascii_whitespace d ≡ false))
taken_case c cs false h more = subst (All (λ d. is_ascii_whitespace d ≡ false)) (sym (take_while-cons (λ d. not (is_ascii_whitespace d)) c cs ∙ ap (λ t. cond (not t) (c ∷ take_while (λ d. not (is_ascii_whitespace d)) cs) []) h)) (All-cons (λ d. is_ascii_whitespace d ≡ false) c (take_while (λ d. not (is_ascii_whitespace d)) cs) h more)

taken_none : (L : List ℕ) → All (λ d. is_ascii_whitespace d ≡ false) (take_while (λ d. not (is_ascii_whitespace d)) L)
taken_none [] = All-nil (λ d. is_ascii_whitespace d ≡ false)
taken_none (c ∷ cs) = taken_case c cs (is_ascii_whitespace c) refl (taken_none cs)

taken_some : (c : ℕ) (cs : List ℕ) → is_ascii_whitespace c ≡ false → take_while (λ d. not (is_ascii_whitespace d)) (c ∷ cs) ≢ []
taken_some c cs h e =
    let f : c ∷ take_while (λ d. not (is_ascii_whitespace d)) cs ≡ [] = sym (take_while-cons (λ d. not (is_ascii_whitespace d)) c cs ∙ ap (λ t. cond (not t) (c ∷ take_while (λ d. not (is_ascii_whitespace d)) cs) []) h) ∙ e in cc

none_between : AreBetweenWhitespace []
none_between = record { not_empty = All-nil (λ p. p ≢ []); begin_without = All-nil BeginsWithoutWhitespace; no_whitespace = tt }

taken_begins : (c : ℕ) (cs : List ℕ) → is_ascii_whitespace c ≡ false → BeginsWithoutWhitespace (until_whitespace (c ∷ cs))
taken_begins c cs h =
    let f : until_whitespace (c ∷ cs) ≡ c ∷ take_while (λ d. not (is_ascii_whitespace d)) cs = take_while-cons (λ d. not (is_ascii_whitespace d)) c cs ∙ ap (λ t. cond (not t) (c ∷ take_while (λ d. not (is_ascii_whitespace d)) cs) []) h in
    subst BeginsWithoutWhitespace (sym f) h

clean_zero : (L M : List ℕ) → skip_while is_ascii_whitespace L ≡ M → AreBetweenWhitespace (elim M [ [] ↦ [] | c ∷ cs ↦ (c ∷ cs) ∷ [] ])
clean_zero L [] e = none_between
clean_zero L (c ∷ cs) e = record {
  not_empty = All-cons (λ p. p ≢ []) (c ∷ cs) [] (not_nil c cs) (All-nil (λ p. p ≢ []));
  begin_without = All-cons BeginsWithoutWhitespace (c ∷ cs) [] (skip_head L c cs e) (All-nil BeginsWithoutWhitespace);
  no_whitespace = tt;
}

clean_more : (k : ℕ) (L M : List ℕ) → skip_while is_ascii_whitespace L ≡ M → ((N : List ℕ) → AreBetweenWhitespace (split_whitespace k N)) → AreBetweenWhitespace (elim M [ [] ↦ [] | c ∷ cs ↦ until_whitespace (c ∷ cs) ∷ split_whitespace k (from_whitespace (c ∷ cs)) ])
clean_more k L [] e more = none_between
clean_more k L (c ∷ cs) e more =
    let rest = more (from_whitespace (c ∷ cs)) in
    record {
      not_empty = All-cons (λ p. p ≢ []) _ _ (taken_some c cs (skip_head L c cs e)) rest.not_empty;
      begin_without = All-cons BeginsWithoutWhitespace _ _ (taken_begins c cs (skip_head L c cs e)) rest.begin_without;
      no_whitespace = but_last_more HasNoWhitespace _ _ (taken_none (c ∷ cs)) rest.no_whitespace;
    }

clean : (k : ℕ) (L : List ℕ) → AreBetweenWhitespace (split_whitespace k L)
clean zero L = clean_zero L (skip_while is_ascii_whitespace L) refl
clean (suc k) L = clean_more k L (skip_while is_ascii_whitespace L) refl (λ N. clean k N)

-- where no limit is reached, no piece has whitespace
clear_more : (k : ℕ) (L M : List ℕ) → skip_while is_ascii_whitespace L ≡ M → length L ≤ suc k → ((N : List ℕ) → length N ≤ k → All HasNoWhitespace (split_whitespace k N)) → All HasNoWhitespace (elim M [ [] ↦ [] | c ∷ cs ↦ until_whitespace (c ∷ cs) ∷ split_whitespace k (from_whitespace (c ∷ cs)) ])
clear_more k L [] e short more = All-nil HasNoWhitespace
clear_more k L (c ∷ cs) e short more =
    let left : length (from_whitespace (c ∷ cs)) ≤ k = omega (arith, after_shorter c cs (skip_head L c cs e), ap length e, skip_le is_ascii_whitespace L) in
    All-cons HasNoWhitespace _ _ (taken_none (c ∷ cs)) (more (from_whitespace (c ∷ cs)) left)

clear : (k : ℕ) (L : List ℕ) → length L ≤ k → All HasNoWhitespace (split_whitespace k L)
clear zero [] h = All-nil HasNoWhitespace
clear zero (c ∷ cs) h = absurd (omega arith)
clear (suc k) L h = clear_more k L (skip_while is_ascii_whitespace L) refl h (λ N g. clear k N g)

unlimited : (m : ℤ) (L M : List ℕ) → m <ℤ pos 0 → length L ≡ length M → All HasNoWhitespace (split_whitespace (limit (length L) m) M)
unlimited (pos k) L M h e = absurd (omega (arith, ints))
unlimited (negsuc k) L M h e = clear (length L + 1) M (omega (arith, e))

pub between_whitespace : PiecesBetweenWhitespace
between_whitespace = λ m L. (clean (limit (length L) m) L, λ h. unlimited m L L h refl)

-- of each in a list turned round the same holds
turned_all : {X : Type 0} (P : X → Type 0) (xs : List X) → All P xs → All P (reverse xs)
turned_all P [] h = h
turned_all P (x ∷ xs) h =
    subst (All P) (sym (reverse-append (x ∷ []) xs))
    (All-append P (reverse xs) (x ∷ []) (turned_all P xs (All-tail P x xs h)) (All-cons P x [] (All-head P x xs h) (All-nil P)))

turned_some : (p : List ℕ) → p ≢ [] → reverse p ≢ []
turned_some p n e = n (sym (reverse-reverse p) ∙ ap reverse e)

but_first_more : (P : List ℕ → Type 0) (x : List ℕ) (ps : List (List ℕ)) → 0 < length ps → AllButFirst P ps → P x → AllButFirst P (ps ++ x ∷ [])
but_first_more P x [] some h p = absurd (omega arith)
but_first_more P x (y ∷ ys) some h p = All-append P ys (x ∷ []) h (All-cons P x [] p (All-nil P))

pub mirrored_length : (ps : List (List ℕ)) → length (mirrored ps) ≡ length ps
mirrored_length ps = length-reverse (map reverse ps) ∙ length-map ps reverse

-- what holds of each but the last of the texts turned round holds of each but the first
pub but_last_turned : (P Q : List ℕ → Type 0) → ((p : List ℕ) → P p → Q (reverse p)) → (ps : List (List ℕ)) → AllButLast P ps → AllButFirst Q (mirrored ps)
but_last_turned P Q turn [] h = tt
but_last_turned P Q turn (p ∷ []) h = All-nil Q
but_last_turned P Q turn (p ∷ q ∷ qs) h =
    subst (AllButFirst Q) (sym (reverse-append (reverse p ∷ []) (map reverse (q ∷ qs))))
    (but_first_more Q (reverse p) (mirrored (q ∷ qs)) (omega (arith, mirrored_length (q ∷ qs))) (but_last_turned P Q turn (q ∷ qs) h.1) (turn p h.0))

-- and what holds of each holds of each
pub each_turned : (P Q : List ℕ → Type 0) → ((p : List ℕ) → P p → Q (reverse p)) → (ps : List (List ℕ)) → All P ps → All Q (mirrored ps)
each_turned P Q turn ps h = turned_all Q (map reverse ps) (All-map Q reverse ps (λ k d lt. turn _ (h k d lt)))

clear_turned : (p : List ℕ) → HasNoWhitespace p → HasNoWhitespace (reverse p)
clear_turned p h = turned_all (λ c. is_ascii_whitespace c ≡ false) p h

begin_turned : (p : List ℕ) → BeginsWithoutWhitespace p → EndsWithoutWhitespace (reverse p)
begin_turned p h = subst BeginsWithoutWhitespace (sym (reverse-reverse p)) h

pub between_from_right : PiecesBetweenFromRight
between_from_right = λ m L.
    let turned = clean (limit (length L) m) (reverse L) in (
      record {
        not_empty = each_turned (λ p. p ≢ []) (λ p. p ≢ []) turned_some _ turned.not_empty;
        end_without = each_turned BeginsWithoutWhitespace EndsWithoutWhitespace begin_turned _ turned.begin_without;
        no_whitespace = but_last_turned HasNoWhitespace HasNoWhitespace clear_turned _ turned.no_whitespace;
      },
      λ h. each_turned HasNoWhitespace HasNoWhitespace clear_turned _ (unlimited m L (reverse L) h (sym (length-reverse L))),
    )
