use Rattle.std.proofs.Common.{rules, ◌≡◌, ◌↔◌, map, IsTrue, string_bytes, List, ℕ, [], ◌∷◌, refl, sym, ap, ◌∙◌, codes}
use Rattle.std.proofs.lemmas.List.{nil_from_length}
use Rattle.sre_commands.proofs.program.is_sub.Goals as goal

head_same : (x y : List ℕ) (xs ys : List (List ℕ)) → x ∷ xs ≡ y ∷ ys → x ≡ y
head_same x y xs ys e = cc

pub returns : goal.returns
returns c =
    let none : c.in-Some.rest.now ≡ [] = search (rules, nil_from_length) in
    let eq : IsTrue c.eq.result ↔ (c.as_str.result.now ≡ codes "sub") = search rules in
    let one : map string_bytes c.args.arguments.now ≡ string_bytes c.in-Some.word.now ∷ [] =
    (let all : c.args.arguments.now ≡ c.in-Some.word.now ∷ c.in-Some.rest.now = search rules in rw (all, none) refl) in (
      λ t. one ∙ ap (λ (x : List ℕ). x ∷ []) (sym c.as_str.ensures.value ∙ eq.0 t),
      λ e. eq.1 (c.as_str.ensures.value ∙ head_same _ _ _ _ (sym one ∙ e)),
    )
