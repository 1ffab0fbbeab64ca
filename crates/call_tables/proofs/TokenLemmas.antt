-- How the words of tokens are joined.
use Rattle.std.proofs.Common.{◌≡◌, ◌++◌, ◌∙◌, ◌<◌, ◌+◌, ap, sym, refl, List, [], ◌∷◌, ℕ, codes, length, take, get_or, append_assoc}
use Rattle.std.proofs.lemmas.List.{append-nil, take_more}
use Rattle.call_tables.specs.declared.token.Token.{Token}
use Rattle.call_tables.specs.Token.{token_text, spaced}

pub spaced-append : (a b : List Token) → spaced (a ++ b) ≡ spaced a ++ spaced b
spaced-append [] b = refl
spaced-append (t ∷ ts) b =
    ap (λ r. codes " " ++ token_text t ++ r) (spaced-append ts b)
    ∙ sym (append_assoc (codes " " ++ token_text t) (spaced ts) (spaced b))

-- one more word after a space
pub word_written : (was mid new start word : List ℕ) (ts : List Token) (i : ℕ) (t : Token) → i < length ts → t ≡ get_or ts i t → word ≡ token_text t →
    was ≡ start ++ spaced (take i ts) → mid ≡ was ++ codes " " → new ≡ mid ++ word → new ≡ start ++ spaced (take (i + 1) ts)
word_written was mid new start word ts i t lt is w e m n =
    let one : take (i + 1) ts ≡ take i ts ++ t ∷ [] = take_more ts i t lt ∙ ap (λ x. take i ts ++ x ∷ []) (sym is) in
    rw (n, m, e, w, one, spaced-append (take i ts) (t ∷ [])) (simp (append_assoc, append-nil))
