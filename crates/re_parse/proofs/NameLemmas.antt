-- What a loop that looks for the end of a name has passed.
use Rattle.std.proofs.Common.{◌≡◌, refl, sym, ◌∙◌, ap, ℕ, ◌+◌, ◌==◌, ◌<◌, ◌≤◌, true, false, List, [], ◌∷◌, ◌++◌, take, drop, length, get_or, append-nil, append_assoc}
use Rattle.std.specs.Prelude.{Option, Some, None, cond}
use Rattle.std.specs.Option.{option_map}
use Rattle.std.proofs.lemmas.List.{take_more, drop_more, drop_all}
use Rattle.re_tree.specs.Reading.{add_first, up_to}

abbrev Named : Type 0
Named = Option (List ℕ × List ℕ)

abbrev pub with_before : List ℕ → Named → Named
with_before before o = option_map (λ x. (before ++ x.0, x.1)) o

nothing_before : (o : Named) → o ≡ with_before [] o
nothing_before None = refl
nothing_before (Some x) = refl

one_before : (before : List ℕ) (c : ℕ) (o : Named) → with_before before (add_first c o) ≡ with_before (before ++ c ∷ []) o
one_before before c None = refl
one_before before c (Some x) = ap (λ l. Some (l, x.1)) (sym (append_assoc before (c ∷ []) x.0))

-- the first i characters do not end the name
pub record NamePassed (end : ℕ) (text : List ℕ) (i : ℕ) : Type 0 where
  pub is : up_to end text ≡ with_before (take i text) (up_to end (drop i text))

pub none_passed : (end : ℕ) (text : List ℕ) → NamePassed end text 0
none_passed end text = record { is = nothing_before (up_to end text) }

pub one_more : (end : ℕ) (text : List ℕ) (i : ℕ) → i < length text → (get_or text i 0 == end) ≡ false → NamePassed end text i → NamePassed end text (i + 1)
one_more end text i less e h =
    let c : ℕ = get_or text i 0 in
    let rest : List ℕ = drop (i + 1) text in
    let d : drop i text ≡ c ∷ rest = drop_more text i 0 less in
    record {
      is =
          h.is ∙ ap (λ l. with_before (take i text) (up_to end l)) d
          ∙ ap (λ b. with_before (take i text) (cond b (Some ([], rest)) (add_first c (up_to end rest)))) e
          ∙ one_before (take i text) c (up_to end rest) ∙ ap (λ l. with_before l (up_to end rest)) (sym (take_more text i 0 less));
    }

pub found : (end : ℕ) (text : List ℕ) (i : ℕ) → i < length text → (get_or text i 0 == end) ≡ true → NamePassed end text i → Some (take i text, drop (i + 1) text) ≡ up_to end text
found end text i less e h =
    let c : ℕ = get_or text i 0 in
    let rest : List ℕ = drop (i + 1) text in
    let d : drop i text ≡ c ∷ rest = drop_more text i 0 less in
    sym (h.is ∙ ap (λ l. with_before (take i text) (up_to end l)) d
    ∙ ap (λ b. with_before (take i text) (cond b (Some ([], rest)) (add_first c (up_to end rest)))) e
    ∙ ap (λ l. Some (l, rest)) (append-nil (take i text)))

pub not_found : (end : ℕ) (text : List ℕ) (i : ℕ) → length text ≤ i → NamePassed end text i → None ≡ up_to end text
not_found end text i past h = sym (h.is ∙ ap (λ l. with_before (take i text) (up_to end l)) (drop_all i text past))
