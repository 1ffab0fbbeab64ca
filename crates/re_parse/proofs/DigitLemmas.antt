-- What a loop over the digits that a text begins with has passed.
use Rattle.std.proofs.Common.{◌≡◌, refl, sym, ◌∙◌, ap, ℕ, ◌+◌, ◌<◌, ◌≤◌, true, false, List, [], ◌∷◌, ◌++◌, take, drop, length, get_or, append-nil, append_assoc}
use Rattle.std.specs.Prelude.{cond}
use Rattle.std.proofs.lemmas.List.{take_more, drop_more, drop_all}
use Rattle.re_tree.specs.Characters.{is_digit}
use Rattle.re_tree.specs.Reading.{digits_of, after_digits}

-- the first i characters are digits
pub record DigitsPassed (text : List ℕ) (i : ℕ) : Type 0 where
  pub digits : digits_of text ≡ take i text ++ digits_of (drop i text)
  pub rest : after_digits text ≡ after_digits (drop i text)

pub none_passed : (text : List ℕ) → DigitsPassed text 0
none_passed text = record { digits = refl; rest = refl }

digit_first : (c : ℕ) (cs : List ℕ) → is_digit c ≡ true → (digits_of (c ∷ cs) ≡ c ∷ digits_of cs) × (after_digits (c ∷ cs) ≡ after_digits cs)
digit_first c cs e = (ap (λ b. cond b (c ∷ digits_of cs) []) e, ap (λ b. cond b (after_digits cs) (c ∷ cs)) e)

other_first : (c : ℕ) (cs : List ℕ) → is_digit c ≡ false → (digits_of (c ∷ cs) ≡ []) × (after_digits (c ∷ cs) ≡ c ∷ cs)
other_first c cs e = (ap (λ b. cond b (c ∷ digits_of cs) []) e, ap (λ b. cond b (after_digits cs) (c ∷ cs)) e)

pub one_more : (text : List ℕ) (i : ℕ) → i < length text → is_digit (get_or text i 0) ≡ true → DigitsPassed text i → DigitsPassed text (i + 1)
one_more text i less e h =
    let c : ℕ = get_or text i 0 in
    let d : drop i text ≡ c ∷ drop (i + 1) text = drop_more text i 0 less in
    let k = digit_first c (drop (i + 1) text) e in
    record {
      digits =
          h.digits ∙ ap (λ l. take i text ++ l) (ap digits_of d ∙ k.0)
          ∙ sym (append_assoc (take i text) (c ∷ []) (digits_of (drop (i + 1) text)))
          ∙ ap (λ l. l ++ digits_of (drop (i + 1) text)) (sym (take_more text i 0 less));
      rest = h.rest ∙ ap after_digits d ∙ k.1;
    }

pub stops : (text : List ℕ) (i : ℕ) → i < length text → is_digit (get_or text i 0) ≡ false → DigitsPassed text i → (digits_of text ≡ take i text) × (after_digits text ≡ drop i text)
stops text i less e h =
    let c : ℕ = get_or text i 0 in
    let d : drop i text ≡ c ∷ drop (i + 1) text = drop_more text i 0 less in
    let k = other_first c (drop (i + 1) text) e in
    (h.digits ∙ ap (λ l. take i text ++ l) (ap digits_of d ∙ k.0) ∙ append-nil (take i text), h.rest ∙ ap after_digits d ∙ k.1 ∙ sym d)

pub ends : (text : List ℕ) (i : ℕ) → length text ≤ i → DigitsPassed text i → (digits_of text ≡ take i text) × (after_digits text ≡ drop i text)
ends text i past h =
    let d : drop i text ≡ [] = drop_all i text past in
    (h.digits ∙ ap (λ l. take i text ++ digits_of l) d ∙ append-nil (take i text), h.rest ∙ ap after_digits d ∙ sym d)
