-- What is read as nodes, a tree or a code is spelled so.
use Rattle.std.proofs.Common.{◌≡◌, refl, sym, ap, ◌∙◌, ℕ, zero, suc, ◌+◌, ◌-◌, ◌≤◌, Bool, true, false, List, [], ◌∷◌, ◌++◌, length, drop, append_assoc, arith}
use Rattle.std.specs.Prelude.{Result, Err, Option, Some, None, ◌==◌, nat_lt, Ok, if◌then◌else◌}
use Rattle.std.proofs.lemmas.Bool.{eqb-true, ltb-false, eqb-false, and_parts}
use Rattle.py_base.specs.Reading.{◌and_then◌, is_next}
use Rattle.py_base.proofs.HoldsLemmas.{◌also◌, Holds, ok, bad, guard, then_holds, if_holds, one_holds, many_hold, next_is, weaker, table_holds}
use Rattle.sre_code.specs.declared.error.CodeError.{CodeError}
use Rattle.sre_code.specs.declared.opcodes.TheConstants.{FAILURE, SUCCESS, ANY, ANY_ALL, INFO, MAXGROUPS, MAXDEPTH}
use Rattle.sre_code.specs.declared.tree.RepeatKind.TheVariants.{Greedy, Lazy, Possessive}
use Rattle.sre_code.specs.PlainTree.{PlainNode, PlainTree, fail, any, any_all, ◌then◌, node_depth, depth}
use Rattle.sre_code.specs.Spelling.{node_words, spell, node_fits, tree_fits, info, Spells}
use Rattle.sre_code.specs.Decoding.Decoder.{Read, Body, invalid}
use Rattle.sre_code.specs.Decoding.Words.{is_end}
use Rattle.sre_code.specs.Decoding.Nodes.{node_readers, read_node, read_nodes, read_body, read_tree}
use Rattle.sre_code.specs.Decoding.{read_info, is_last, ended, read_code}
use Rattle.sre_code.proofs.SoundSetLemmas.{IsNode, a_set}
use Rattle.sre_code.proofs.SoundBodyLemmas.{a_literal, a_not_literal, an_anchor, a_groupref, IsBody, IsSound, an_atomic, a_look, a_group, a_repeat, a_possessive, a_repeat_one}
use Rattle.sre_code.proofs.SoundBranchLemmas.{a_branch, none_left, an_exists}

-- nodes, trees and bodies
abbrev ANode : ℕ → ℕ → List ℕ → PlainNode → List ℕ → Type 0
ANode groups levels ws n x = (ws ≡ node_words n ++ x) × node_fits n groups × (node_depth n ≤ levels)

a_simple : (op groups levels : ℕ) (ws : List ℕ) (n : PlainNode) → op ∷ [] ≡ node_words n → node_fits n groups → node_depth n ≡ 0 → Holds {E = CodeError} (IsNode op groups levels ws) (Ok (n, ws))
a_simple op groups levels ws n e f d = ok (record { are = ap (λ v. v ++ ws) e; fits = f; nesting = omega (arith, d) })

pub a_node : (groups levels : ℕ) (body : Body) (ws : List ℕ) → IsSound groups levels body → Holds (ANode groups levels ws) (read_node groups body ws)
a_node groups levels body ws h =
    then_holds (one_holds _ ws) λ op r e.
    weaker
    (table_holds (λ key. IsNode key groups levels r) _ (node_readers groups body) op r
    (a_simple FAILURE groups levels r fail refl tt refl
    also a_simple ANY groups levels r any refl tt refl
    also a_simple ANY_ALL groups levels r any_all refl tt refl
    also an_anchor groups levels r
    also a_groupref groups levels r
    also a_set groups levels r
    also a_literal groups levels r
    also a_not_literal groups levels r
    also a_look groups levels true body r h
    also a_look groups levels false body r h
    also an_atomic groups levels body r h
    also a_branch groups levels body r h
    also an_exists groups levels body r h
    also a_group groups levels body r h
    also a_repeat groups levels body r h
    also a_repeat_one Greedy groups levels body r refl h
    also a_repeat_one Lazy groups levels body r refl h
    also a_possessive groups levels body r h
    also a_repeat_one Possessive groups levels body r refl h
    also tt))
    λ n x p. (e ∙ p.are, p.fits, p.nesting)

abbrev ATree : ℕ → ℕ → List ℕ → PlainTree → List ℕ → Type 0
ATree groups levels ws t x = (ws ≡ spell t ++ x) × tree_fits t groups × (depth t ≤ levels)

some_nodes : (n groups levels : ℕ) (body : Body) (ws : List ℕ) → IsSound groups levels body → Holds (ATree groups levels ws) (read_nodes n groups body ws)
some_nodes zero groups levels body ws h = bad
some_nodes (suc n) groups levels body ws h =
    if_holds (is_end ws) (λ _. ok (refl, tt, omega arith)) λ _.
    then_holds (a_node groups levels body ws h) λ nd x p.
    then_holds (some_nodes n groups levels body x h) λ t y q.
    ok (p.0 ∙ ap (λ v. node_words nd ++ v) q.0 ∙ sym (append_assoc (node_words nd) (spell t) y), (p.1, q.1), omega (arith, p.2, q.2))

pub a_body : (groups levels : ℕ) (ws : List ℕ) → Holds (IsBody groups levels ws) (read_body groups levels ws)
a_body groups zero ws = bad
a_body groups (suc levels) ws =
    weaker (some_nodes (suc (length ws)) groups levels (read_body groups levels) ws (a_body groups levels))
    λ b x p. record { are = p.0; fits = p.1; nesting = omega (arith, p.2) }

pub a_tree : (groups levels : ℕ) (ws : List ℕ) → Holds (ATree groups levels ws) (read_tree groups levels ws)
a_tree groups levels ws = some_nodes (suc (length ws)) groups levels (read_body groups levels) ws (a_body groups levels)

-- whole codes
a_block : (ws : List ℕ) → Holds (λ _ x. (block : Option (List ℕ)) × (ws ≡ info block ++ x)) (read_info ws)
a_block ws =
    if_holds (is_next INFO ws)
    (λ b.
    then_holds (one_holds _ (drop 1 ws)) λ skip rest e.
    guard (skip == 0) _ λ z.
    then_holds (many_hold _ (skip - 1) rest) λ block x p.
    let long : skip ≡ length block + 1 = omega (arith, p.1, eqb-false skip 0 z) in
    ok (Some block, next_is INFO ws b ∙ ap (λ v. INFO ∷ v) (e ∙ (λ i. long i ∷ p.0 i))))
    λ _. ok (None, refl)

last_is : (ws : List ℕ) → is_last ws ≡ true → ws ≡ SUCCESS ∷ []
last_is [] h = let f : ⊥ = cc h in absurd f
last_is (w ∷ ws) h = let c = and_parts (w == SUCCESS) (length ws == 0) h in λ i. eqb-true w SUCCESS c.0 i ∷ none_left ws c.1 i

a_code : (groups : ℕ) (ws : List ℕ) → Holds (λ t x. (block : Option (List ℕ)) × (ws ≡ info block ++ (spell t ++ x)) × tree_fits t groups × (depth t ≤ MAXDEPTH)) (read_info ws and_then λ _ rest. read_tree groups MAXDEPTH rest)
a_code groups ws =
    then_holds (a_block ws) λ _ rest b.
    weaker (a_tree groups MAXDEPTH rest) λ t x p.
    (b.0, b.1 ∙ ap (λ v. info b.0 ++ v) p.0, p.1, p.2)

end_is : (r : Read PlainTree) (t : PlainTree) → ended r ≡ Ok t → r ≡ Ok (t, SUCCESS ∷ [])
end_is (Ok r) t h = at (is_last r.1) refl h
  where
    at : (b : Bool) → is_last r.1 ≡ b → ◌≡◌ {A = Result PlainTree CodeError} (if b then Ok r.0 else invalid) (Ok t) → ◌≡◌ {A = Read PlainTree} (Ok r) (Ok (t, SUCCESS ∷ []))
    at true e h = let same : r.0 ≡ t = cc h in λ i. Ok (same i, last_is r.1 e i)
    at false e h = let f : ⊥ = cc h in absurd f
end_is (Err e) t h = let f : ⊥ = cc h in absurd f

pub what_is_read_is_spelled : (groups : ℕ) (ws : List ℕ) (t : PlainTree) → read_code groups ws ≡ Ok t → Spells ws groups t
what_is_read_is_spelled groups ws t h = at (nat_lt MAXGROUPS groups) refl h
  where
    at : (b : Bool) → nat_lt MAXGROUPS groups ≡ b → ◌≡◌ {A = Result PlainTree CodeError} (if b then invalid else ended (read_info ws and_then λ _ rest. read_tree groups MAXDEPTH rest)) (Ok t) → Spells ws groups t
    at true e h = let f : ⊥ = cc h in absurd f
    at false e h =
        let p = (a_code groups ws).by t (SUCCESS ∷ []) (end_is (read_info ws and_then λ _ rest. read_tree groups MAXDEPTH rest) t h) in
        record { fits = record { count = ltb-false MAXGROUPS groups e; nodes = p.2; nesting = p.3 }; block = p.0; are = p.1 }
