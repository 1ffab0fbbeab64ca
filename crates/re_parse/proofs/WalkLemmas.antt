-- The pass over the tokens of a pattern that makes its tree.
use Rattle.std.proofs.Common.{◌≡◌, refl, sym, ◌∙◌, ap, ℕ, List, [], ◌∷◌, length}
use Rattle.std.specs.Prelude.{Option, Some, None}
use Rattle.re_tree.specs.PlainText.{done}
use Rattle.re_tree.specs.Tokens.{Token}
use Rattle.re_tree.specs.Grammar.{Flags}
use Rattle.re_tree.specs.Reading.{all_tokens}
use Rattle.re_tree.specs.Machine.{State, state, step, run_on, finish, tree_of_all, read_tree}
use Rattle.re_parse.specs.Walk.{last_state, after_tokens}

run_is : (ts : List Token) (o : Option State) → last_state step o ts ≡ run_on o ts
run_is [] o = refl
run_is (t ∷ ts) None = run_is ts None
run_is (t ∷ ts) (Some s) = run_is ts (step s t)

tree_is : (o : Option (List Token)) → finish (after_tokens step (state 0 [] done done) o) ≡ tree_of_all o
tree_is None = refl
tree_is (Some ts) = ap finish (run_is ts (Some (state 0 [] done done)))

-- the tree of a pattern, by the state that the machine ends in
pub tree_read : (flags : Flags) (text : List ℕ) (start : State) (last : Option State) → start ≡ state 0 [] done done
    → last ≡ after_tokens step start (all_tokens flags (length text) (length text) text)
    → finish last ≡ read_tree flags text
tree_read flags text start last s e =
    ap finish e ∙ ap (λ z. finish (after_tokens step z (all_tokens flags (length text) (length text) text))) s ∙ tree_is (all_tokens flags (length text) (length text) text)
