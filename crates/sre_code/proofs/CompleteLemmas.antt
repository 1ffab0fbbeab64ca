-- A node, a tree or a code that is spelled is read.
use Rattle.std.proofs.Common.{◌≡◌, refl, sym, ap, ◌∙◌, ℕ, zero, suc, ◌+◌, ◌-◌, ◌≤◌, ◌<◌, true, false, List, [], ◌∷◌, ◌++◌, length, append_assoc, arith, length-append}
use Rattle.std.specs.Prelude.{Option, Some, None, Ok, if◌then◌else◌}
use Rattle.std.proofs.lemmas.Bool.{ne_eqb, le-ltb, lt-ltb}
use Rattle.py_base.specs.Reading.{◌and_then◌, is_next}
use Rattle.py_base.proofs.GivesLemmas.{Gives, it, done, reads, passes, skips, spelled, many_again}
use Rattle.sre_code.specs.declared.opcodes.TheConstants.{SUCCESS, INFO, MAX_UNTIL, MIN_UNTIL, MAXGROUPS, MAXDEPTH}
use Rattle.sre_code.specs.declared.tree.RepeatKind.TheVariants.{Greedy, Lazy, Possessive}
use Rattle.sre_code.specs.PlainTree.{PlainNode, PlainTree, PlainTrees, fail, any, any_all, lit, not_lit, one_of, at, group, ref, exists, exists_else, branch, repeat, atomic, look, nothing, ◌then◌, only, ◌or◌, node_depth, depth, trees_depth}
use Rattle.sre_code.specs.Spelling.{node_words, spell, alternatives_words, node_fits, tree_fits, alternatives_fit, info, Spells}
use Rattle.sre_code.specs.Decoding.Decoder.{invalid}
use Rattle.sre_code.specs.Decoding.Words.{is_end}
use Rattle.sre_code.specs.Decoding.Branches.{read_branch}
use Rattle.sre_code.specs.Decoding.Nodes.{read_node, read_nodes, read_body, read_tree}
use Rattle.sre_code.specs.Decoding.{read_info, ended, read_code}
use Rattle.sre_code.proofs.CompleteSetLemmas.{set_again}
use Rattle.sre_code.proofs.CompleteBodyLemmas.{Knows, atomic_again, look_again, even_first, mark_again, repeat_again, possessive_again, repeat_one_again}
use Rattle.sre_code.proofs.CompleteBranchLemmas.{AllKnown, branch_again, first_of, more_of, trees_back, without_else, with_else}

-- the first word of a node ends no tree, and begins no block
first_is : (n : PlainNode) (x : List ℕ) → (is_end (node_words n ++ x) ≡ false) × (is_next INFO (node_words n ++ x) ≡ false)
first_is fail x = (refl, refl)
first_is any x = (refl, refl)
first_is any_all x = (refl, refl)
first_is (lit c) x = (refl, refl)
first_is (not_lit c) x = (refl, refl)
first_is (one_of negated is) x = (refl, refl)
first_is (at k) x = (refl, refl)
first_is (group g b) x = (even_first (g - 1), refl)
first_is (ref g) x = (refl, refl)
first_is (exists g y) x = (refl, refl)
first_is (exists_else g y z) x = (refl, refl)
first_is (branch ts) x = (refl, refl)
first_is (repeat Greedy false lo hi b) x = (refl, refl)
first_is (repeat Lazy false lo hi b) x = (refl, refl)
first_is (repeat Possessive false lo hi b) x = (refl, refl)
first_is (repeat Greedy true lo hi b) x = (refl, refl)
first_is (repeat Lazy true lo hi b) x = (refl, refl)
first_is (repeat Possessive true lo hi b) x = (refl, refl)
first_is (atomic b) x = (refl, refl)
first_is (look true k b) x = (refl, refl)
first_is (look false k b) x = (refl, refl)

not_nothing : (ws : List ℕ) → is_end ws ≡ false → 1 ≤ length ws
not_nothing [] h = let f : ⊥ = cc h in absurd f
not_nothing (w ∷ ws) h = omega arith

pub some_word : (n : PlainNode) → 1 ≤ length (node_words n)
some_word n = omega (arith, not_nothing (node_words n ++ []) (first_is n []).0, length-append (node_words n) [])

-- that the nodes of a body are read makes it known
known : (b : PlainTree) (groups levels : ℕ) → depth b + 1 ≤ levels → ((n inside : ℕ) (x : List ℕ) → length (spell b) < n → depth b ≤ inside → is_end x ≡ true → Gives (read_nodes n groups (read_body groups inside) (spell b ++ x)) b x) → Knows (read_body groups levels) b
known b groups zero d again x e = let f : ⊥ = omega (arith, d) in absurd f
known b groups (suc levels) d again x e = again (suc (length (spell b ++ x))) levels x (omega (arith, length-append (spell b) x)) (omega (arith, d)) e

mutual
  pub node_again : (n : PlainNode) (groups levels : ℕ) (x : List ℕ) → node_fits n groups → node_depth n ≤ levels → Gives (read_node groups (read_body groups levels) (node_words n ++ x)) n x
  node_again fail groups levels x h d = it refl
  node_again any groups levels x h d = it refl
  node_again any_all groups levels x h d = it refl
  node_again (lit c) groups levels x h d = it refl
  node_again (not_lit c) groups levels x h d = it refl
  node_again (one_of negated is) groups levels x h d = it (set_again negated is x groups (read_body groups levels) h).is
  node_again (at k) groups levels x h d = it (ap (λ b. if b then Ok (at k, x) else invalid) h)
  node_again (group g b) groups levels x h d = it (mark_again groups g (read_body groups levels) b x h.0 (known b groups levels d λ n inside v l c e. tree_again b n groups inside v l h.1 c e)).is
  node_again (ref g) groups levels x h d =
      let same : g - 1 + 1 ≡ g = omega (arith, h.0) in
      it (ap (λ b. if b then Ok (ref (g - 1 + 1), x) else invalid) (lt-ltb (g - 1) groups (omega (arith, h.0, h.1))) ∙ ap (λ n. Ok (ref n, x)) same)
  node_again (exists g y) groups levels x h d = it (without_else groups g (read_body groups levels) y x h.0 (known y groups levels d λ n inside v l c e. tree_again y n groups inside v l h.1 c e)).is
  node_again (exists_else g y z) groups levels x h d =
      it (with_else groups g (read_body groups levels) y z x h.0 (known y groups levels (omega (arith, d)) λ n inside v l c e. tree_again y n groups inside v l h.1 c e)
      (known z groups levels (omega (arith, d)) λ n inside v l c e. tree_again z n groups inside v l h.2 c e)).is
  node_again (branch ts) groups levels x h d =
      it (ap (λ us. read_branch (read_body groups levels) (alternatives_words us ++ x)) (sym (trees_back ts))
      ∙ (branch_again (read_body groups levels) (first_of ts) (more_of ts) x (all_known ts groups levels h d)).is
      ∙ ap (λ us. Ok (branch us, x)) (trees_back ts))
  node_again (repeat Greedy false lo hi b) groups levels x h d = it (repeat_again lo hi MAX_UNTIL (read_body groups levels) b x Greedy h.0 (known b groups levels d λ n inside v l c e. tree_again b n groups inside v l h.2 c e) refl done).is
  node_again (repeat Lazy false lo hi b) groups levels x h d = it (repeat_again lo hi MIN_UNTIL (read_body groups levels) b x Lazy h.0 (known b groups levels d λ n inside v l c e. tree_again b n groups inside v l h.2 c e) refl done).is
  node_again (repeat Possessive false lo hi b) groups levels x h d = it (possessive_again lo hi (read_body groups levels) b x h.0 (known b groups levels d λ n inside v l c e. tree_again b n groups inside v l h.2 c e)).is
  node_again (repeat Greedy true lo hi b) groups levels x h d = it (repeat_one_again Greedy lo hi (read_body groups levels) b x h.0 h.1 (known b groups levels d λ n inside v l c e. tree_again b n groups inside v l h.2 c e)).is
  node_again (repeat Lazy true lo hi b) groups levels x h d = it (repeat_one_again Lazy lo hi (read_body groups levels) b x h.0 h.1 (known b groups levels d λ n inside v l c e. tree_again b n groups inside v l h.2 c e)).is
  node_again (repeat Possessive true lo hi b) groups levels x h d = it (repeat_one_again Possessive lo hi (read_body groups levels) b x h.0 h.1 (known b groups levels d λ n inside v l c e. tree_again b n groups inside v l h.2 c e)).is
  node_again (atomic b) groups levels x h d = it (atomic_again (read_body groups levels) b x (known b groups levels d λ n inside v l c e. tree_again b n groups inside v l h c e)).is
  node_again (look true k b) groups levels x h d = it (look_again true k (read_body groups levels) b x (known b groups levels d λ n inside v l c e. tree_again b n groups inside v l h c e)).is
  node_again (look false k b) groups levels x h d = it (look_again false k (read_body groups levels) b x (known b groups levels d λ n inside v l c e. tree_again b n groups inside v l h c e)).is

  pub tree_again : (t : PlainTree) (n groups levels : ℕ) (x : List ℕ) → length (spell t) < n → tree_fits t groups → depth t ≤ levels → is_end x ≡ true → Gives (read_nodes n groups (read_body groups levels) (spell t ++ x)) t x
  tree_again t zero groups levels x l h d e = let f : ⊥ = omega (arith, l) in absurd f
  tree_again nothing (suc n) groups levels x l h d e = passes _ e done
  tree_again (nd then t) (suc n) groups levels x l h d e =
      spelled (read_nodes (suc n) groups (read_body groups levels)) (append_assoc (node_words nd) (spell t) x)
      (skips _ (first_is nd (spell t ++ x)).0
      (reads _ (node_again nd groups levels (spell t ++ x) h.0 (omega (arith, d)))
      (reads _ (tree_again t n groups levels x (omega (arith, l, some_word nd, length-append (node_words nd) (spell t))) h.1 (omega (arith, d)) e) done)))

  all_known : (ts : PlainTrees) (groups levels : ℕ) → alternatives_fit ts groups → trees_depth ts ≤ levels → AllKnown (read_body groups levels) (first_of ts ∷ more_of ts)
  all_known (only t) groups levels h d = (known t groups levels d (λ n inside v l c e. tree_again t n groups inside v l h c e), tt)
  all_known (t or ts) groups levels h d = (known t groups levels (omega (arith, d)) (λ n inside v l c e. tree_again t n groups inside v l h.0 c e), all_known ts groups levels h.1 (omega (arith, d)))

no_block : (t : PlainTree) → is_next INFO (spell t ++ SUCCESS ∷ []) ≡ false
no_block nothing = refl
no_block (n then t) = ap (is_next INFO) (append_assoc (node_words n) (spell t) (SUCCESS ∷ [])) ∙ (first_is n (spell t ++ SUCCESS ∷ [])).1

info_again : (block : Option (List ℕ)) (t : PlainTree) → Gives (read_info (info block ++ (spell t ++ SUCCESS ∷ []))) tt (spell t ++ SUCCESS ∷ [])
info_again None t = skips _ (no_block t) done
info_again (Some block) t =
    skips _ (ne_eqb (length block + 1) 0 (λ e. omega (arith, e)))
    (reads _ (many_again _ (length block + 1 - 1) block (spell t ++ SUCCESS ∷ []) (omega arith)) done)

pub what_is_spelled_is_read : (groups : ℕ) (ws : List ℕ) (t : PlainTree) → Spells ws groups t → read_code groups ws ≡ Ok t
what_is_spelled_is_read groups ws t h =
    ap (read_code groups) h.are
    ∙ ap (λ b. if b then invalid else ended (read_info (info h.block ++ (spell t ++ SUCCESS ∷ [])) and_then λ _ rest. read_tree groups MAXDEPTH rest)) (le-ltb MAXGROUPS groups h.fits.count)
    ∙ ap ended (reads (λ _ rest. read_tree groups MAXDEPTH rest) (info_again h.block t)
    (tree_again t (suc (length (spell t ++ SUCCESS ∷ []))) groups MAXDEPTH (SUCCESS ∷ []) (omega (arith, length-append (spell t) (SUCCESS ∷ []))) h.fits.nodes h.fits.nesting refl)).is
