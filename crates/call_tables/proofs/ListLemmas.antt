-- One more text among the tokens of a list of texts.
use Rattle.std.proofs.Common.{◌≡◌, ◌++◌, ◌∙◌, ◌<◌, ◌+◌, ap, sym, refl, zero, suc, List, [], ◌∷◌, ℕ, Some, None, length, take, map, get_or, arith}
use Rattle.std.specs.Prelude.{slice_get}
use Rattle.std.proofs.lemmas.List.{take_more}
use Rattle.call_tables.specs.declared.token.Token.{Token}
use Rattle.call_tables.specs.declared.token.Token.TheVariants.{Text, Count}

item_at : (items : List (List ℕ)) (i : ℕ) (q : List ℕ) → slice_get items i ≡ Some q → get_or items i [] ≡ q
item_at [] i q h = absurd (cc)
item_at (x ∷ xs) zero q h = cc
item_at (x ∷ xs) (suc i) q h = item_at xs i q h

pub item_there : (items : List (List ℕ)) (i : ℕ) → i < length items → slice_get items i ≡ None → ⊥
item_there [] i l h = absurd (omega arith)
item_there (x ∷ xs) zero l h = cc
item_there (x ∷ xs) (suc i) l h = item_there xs i (omega arith) h

texts_append : (xs : List (List ℕ)) (q : List ℕ) → map (λ t. Text t) (xs ++ q ∷ []) ≡ map (λ t. Text t) xs ++ Text q ∷ []
texts_append [] q = refl
texts_append (x ∷ xs) q = ap (λ r. Text x ∷ r) (texts_append xs q)

pub text_told : (n : ℕ) (items : List (List ℕ)) (i : ℕ) (q : List ℕ) (was new : List Token) → i < length items → slice_get items i ≡ Some q →
    was ≡ Count n ∷ map (λ t. Text t) (take i items) → new ≡ was ++ Text q ∷ [] → new ≡ Count n ∷ map (λ t. Text t) (take (i + 1) items)
text_told n items i q was new l h w e =
    let taken : take (i + 1) items ≡ take i items ++ q ∷ [] = take_more items i [] l ∙ ap (λ r. take i items ++ r ∷ []) (item_at items i q h) in
    e ∙ ap (λ r. r ++ Text q ∷ []) w ∙ ap (λ r. Count n ∷ r) (sym (ap (map (λ t. Text t)) taken ∙ texts_append (take i items) q))
