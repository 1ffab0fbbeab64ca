-- What the loops of the decoder have left to read (items of a set, nodes, alternatives), and what a body is read by.
use Rattle.std.proofs.Common.{◌≡◌, refl, sym, ap, ◌∙◌, ℕ, zero, suc, ◌-◌, ◌<◌, Bool, true, false, List, [], ◌∷◌, ◌++◌, length, drop, append_assoc, arith, length-append}
use Rattle.std.specs.Prelude.{Err, ◌==◌, ◌≢◌, Ok, if◌then◌else◌}
use Rattle.std.proofs.lemmas.Bool.{eq-eqb, ne_eqb}
use Rattle.std.proofs.lemmas.List.{append-nil}
use Rattle.py_base.specs.Reading.{◌and_then◌, is_next}
use Rattle.sre_code.specs.declared.error.CodeError.{CodeError}
use Rattle.sre_code.specs.declared.opcodes.TheConstants.{FAILURE, JUMP}
use Rattle.sre_code.specs.declared.set.SetItem.{SetItem}
use Rattle.sre_code.specs.PlainTree.{PlainNode, PlainTree, nothing, ◌then◌}
use Rattle.sre_code.specs.TreeView.{trees_of}
use Rattle.sre_code.specs.Spelling.{item_words, node_words, spell}
use Rattle.sre_code.specs.Decoding.Decoder.{Read, invalid}
use Rattle.sre_code.specs.Decoding.Words.{is_end}
use Rattle.sre_code.specs.Decoding.Sets.{read_item, read_items}
use Rattle.sre_code.specs.Decoding.Branches.{read_alternative, read_alternatives}
use Rattle.sre_code.specs.Decoding.Nodes.{read_node, read_nodes, read_body, read_tree}
use Rattle.py_base.proofs.LoopLemmas.{Left, nothing_more, turned, stopped}
use Rattle.sre_code.specs.declared.tree.Node.{Node}
use Rattle.sre_code.specs.TreeView.{node_of, tree_of}
use Rattle.sre_code.proofs.SoundSetLemmas.{an_item}
use Rattle.sre_code.proofs.SoundBranchLemmas.{an_alternative}
use Rattle.sre_code.proofs.SoundLemmas.{a_node, a_body}
use Rattle.sre_code.proofs.CompleteSetLemmas.{some_item}
use Rattle.sre_code.proofs.CompleteLemmas.{some_word}

-- items
abbrev pub ItemsLeft : List ℕ → List SetItem → List ℕ → Type 0
ItemsLeft words items rest = Left (read_items (suc (length words)) words) read_items (λ more. items ++ more) rest

pub items_none : (words : List ℕ) → ItemsLeft words [] words
items_none words = record { most = suc (length words); enough = omega arith; whole = nothing_more (read_items (suc (length words)) words) }

item_or : ℕ → List ℕ → Bool → Read SetItem → Read (List SetItem)
item_or k rest b r = if b then Ok ([], drop 1 rest) else (r and_then λ item x. read_items k x and_then λ items y. Ok (item ∷ items, y))

pub item_shorter : (rest after : List ℕ) (item : SetItem) → Ok (item, after) ≡ read_item rest → length after < length rest
item_shorter rest after item e = let p = (an_item rest).by item after (sym e) in omega (arith, ap length p.0, some_item item, length-append (item_words item) after)

pub items_more : (words rest after : List ℕ) (items : List SetItem) (item : SetItem) → is_next FAILURE rest ≡ false → Ok (item, after) ≡ read_item rest → ItemsLeft words items rest → ItemsLeft words (items ++ item ∷ []) after
unfolding item_or
items_more words rest after items item s e l =
    turned (λ more. (items ++ item ∷ []) ++ more) (λ more. item ∷ more) after (λ k. ap (λ b. item_or k rest b (read_item rest)) s ∙ ap (item_or k rest false) (sym e)) (λ more. sym (append_assoc items (item ∷ []) more)) (item_shorter rest after item e) l

pub items_error : (words rest : List ℕ) (items : List SetItem) (e : CodeError) → is_next FAILURE rest ≡ false → read_item rest ≡ Err e → ItemsLeft words items rest → read_items (suc (length words)) words ≡ Err e
unfolding item_or
items_error words rest items e s h l = stopped (Err e) (λ k. ap (λ b. item_or k rest b (read_item rest)) s ∙ ap (item_or k rest false) h) l

-- nodes, before a tree
abbrev pub before : List Node → PlainTree → PlainTree
before [] t = t
before (n ∷ ns) t = node_of n then before ns t

before_one : (ns : List Node) (n : Node) (t : PlainTree) → before ns (node_of n then t) ≡ before (ns ++ n ∷ []) t
before_one [] n t = refl
before_one (m ∷ ns) n t = ap (λ u. node_of m then u) (before_one ns n t)

before_nothing : (ns : List Node) → before ns nothing ≡ tree_of ns
before_nothing [] = refl
before_nothing (m ∷ ns) = ap (λ u. node_of m then u) (before_nothing ns)

abbrev pub NodesLeft : ℕ → ℕ → List ℕ → List Node → List ℕ → Type 0
NodesLeft groups levels words nodes rest = Left (read_tree groups levels words) (λ n ws. read_nodes n groups (read_body groups levels) ws) (before nodes) rest

pub nodes_none : (groups levels : ℕ) (words : List ℕ) → NodesLeft groups levels words [] words
nodes_none groups levels words = record { most = suc (length words); enough = omega arith; whole = nothing_more (read_tree groups levels words) }

node_or : ℕ → ℕ → ℕ → List ℕ → Bool → Read PlainNode → Read PlainTree
node_or groups levels k rest b r = if b then Ok (nothing, rest) else (r and_then λ node x. read_nodes k groups (read_body groups levels) x and_then λ t y. Ok (node then t, y))

pub node_shorter : (groups levels : ℕ) (rest after : List ℕ) (node : PlainNode) → Ok (node, after) ≡ read_node groups (read_body groups levels) rest → length after < length rest
node_shorter groups levels rest after node e =
    let p = (a_node groups levels (read_body groups levels) rest (a_body groups levels)).by node after (sym e) in
    omega (arith, ap length p.0, some_word node, length-append (node_words node) after)

pub nodes_more : (groups levels : ℕ) (words rest after : List ℕ) (nodes : List Node) (node : Node) → is_end rest ≡ false → Ok (node_of node, after) ≡ read_node groups (read_body groups levels) rest → NodesLeft groups levels words nodes rest → NodesLeft groups levels words (nodes ++ node ∷ []) after
unfolding node_or
nodes_more groups levels words rest after nodes node s e l =
    turned (before (nodes ++ node ∷ [])) (λ t. node_of node then t) after
    (λ k. ap (λ b. node_or groups levels k rest b (read_node groups (read_body groups levels) rest)) s ∙ ap (node_or groups levels k rest false) (sym e))
    (before_one nodes node) (node_shorter groups levels rest after (node_of node) e) l

pub nodes_error : (groups levels : ℕ) (words rest : List ℕ) (nodes : List Node) (e : CodeError) → is_end rest ≡ false → read_node groups (read_body groups levels) rest ≡ Err e → NodesLeft groups levels words nodes rest → read_tree groups levels words ≡ Err e
unfolding node_or
nodes_error groups levels words rest nodes e s h l =
    stopped (Err e) (λ k. ap (λ b. node_or groups levels k rest b (read_node groups (read_body groups levels) rest)) s ∙ ap (node_or groups levels k rest false) h) l

pub nodes_end : (groups levels : ℕ) (words rest : List ℕ) (nodes : List Node) → is_end rest ≡ true → NodesLeft groups levels words nodes rest → read_tree groups levels words ≡ Ok (tree_of nodes, rest)
unfolding node_or
nodes_end groups levels words rest nodes s l =
    stopped (Ok (nothing, rest)) (λ k. ap (λ b. node_or groups levels k rest b (read_node groups (read_body groups levels) rest)) s) l ∙ ap (λ t. Ok (t, rest)) (before_nothing nodes)

-- alternatives, at least one
pub record AlternativesLeft (groups levels left : ℕ) (first : PlainTree) (words : List ℕ) (trees : List PlainTree) (rest : List ℕ) : Type 0 where
  pub some : trees ≢ []
  pub reads : Left (read_alternatives (suc (length words)) (read_body groups levels) left words and_then λ ts x. Ok (trees_of (first ∷ ts), x)) (λ n ws. read_alternatives n (read_body groups levels) left ws) (λ ts. trees_of (trees ++ ts)) rest

not_empty : (ts : List PlainTree) (t : PlainTree) → ts ++ t ∷ [] ≢ []
not_empty [] t e = let f : ⊥ = cc e in f
not_empty (u ∷ ts) t e = let f : ⊥ = cc e in f

pub alternatives_none : (groups levels left : ℕ) (first : PlainTree) (words : List ℕ) → AlternativesLeft groups levels left first words (first ∷ []) words
alternatives_none groups levels left first words = record { some = not_empty [] first; reads = record { most = suc (length words); enough = omega arith; whole = refl } }

alternative_or : ℕ → ℕ → ℕ → ℕ → List ℕ → Bool → Read (PlainTree × ℕ) → Read (List PlainTree)
alternative_or groups levels left k rest b r =
    if b then (if length (drop 1 rest) == left then Ok ([], drop 1 rest) else invalid) else
    (r and_then λ t x. if t.1 == left then (read_alternatives k (read_body groups levels) left x and_then λ ts y. Ok (t.0 ∷ ts, y)) else invalid)

pub alternative_shorter : (groups levels : ℕ) (rest after : List ℕ) (t : PlainTree) (end : ℕ) → Ok ((t, end), after) ≡ read_alternative (read_body groups levels) rest → length after < length rest
alternative_shorter groups levels rest after t end e =
    let p = (an_alternative groups levels (read_body groups levels) rest (a_body groups levels)).by (t, end) after (sym e) in
    omega (arith, ap length p.are, length-append (spell t) (JUMP ∷ p.jump ∷ after))

pub alternatives_more : (groups levels left : ℕ) (first : PlainTree) (words rest after : List ℕ) (trees : List PlainTree) (t : PlainTree) (end : ℕ) → is_next FAILURE rest ≡ false → Ok ((t, end), after) ≡ read_alternative (read_body groups levels) rest → end ≡ left → AlternativesLeft groups levels left first words trees rest → AlternativesLeft groups levels left first words (trees ++ t ∷ []) after
unfolding alternative_or
alternatives_more groups levels left first words rest after trees t end s e same l = record {
  some = not_empty trees t;
  reads =
      turned (λ ts. trees_of ((trees ++ t ∷ []) ++ ts)) (λ ts. t ∷ ts) after
      (λ k. ap (λ b. alternative_or groups levels left k rest b (read_alternative (read_body groups levels) rest)) s
      ∙ ap (alternative_or groups levels left k rest false) (sym e)
      ∙ ap (λ b. if b then (read_alternatives k (read_body groups levels) left after and_then λ ts y. Ok (t ∷ ts, y)) else invalid) (eq-eqb end left same))
      (λ ts. ap trees_of (sym (append_assoc trees (t ∷ []) ts))) (alternative_shorter groups levels rest after t end e) l.reads;
}

pub alternatives_error : (groups levels left : ℕ) (first : PlainTree) (words rest : List ℕ) (trees : List PlainTree) (e : CodeError) → is_next FAILURE rest ≡ false → read_alternative (read_body groups levels) rest ≡ Err e → AlternativesLeft groups levels left first words trees rest → (read_alternatives (suc (length words)) (read_body groups levels) left words and_then λ ts x. Ok (trees_of (first ∷ ts), x)) ≡ Err e
unfolding alternative_or
alternatives_error groups levels left first words rest trees e s h l =
    stopped (Err e) (λ k. ap (λ b. alternative_or groups levels left k rest b (read_alternative (read_body groups levels) rest)) s ∙ ap (alternative_or groups levels left k rest false) h) l.reads

pub alternatives_apart : (groups levels left : ℕ) (first : PlainTree) (words rest after : List ℕ) (trees : List PlainTree) (t : PlainTree) (end : ℕ) → is_next FAILURE rest ≡ false → Ok ((t, end), after) ≡ read_alternative (read_body groups levels) rest → (end ≡ left → ⊥) → AlternativesLeft groups levels left first words trees rest → (read_alternatives (suc (length words)) (read_body groups levels) left words and_then λ ts x. Ok (trees_of (first ∷ ts), x)) ≡ invalid
unfolding alternative_or
alternatives_apart groups levels left first words rest after trees t end s e apart l =
    stopped invalid
    (λ k. ap (λ b. alternative_or groups levels left k rest b (read_alternative (read_body groups levels) rest)) s
    ∙ ap (alternative_or groups levels left k rest false) (sym e)
    ∙ ap (λ b. if b then (read_alternatives k (read_body groups levels) left after and_then λ ts y. Ok (t ∷ ts, y)) else invalid) (ne_eqb end left apart)) l.reads

pub alternatives_end : (groups levels left : ℕ) (first : PlainTree) (words rest : List ℕ) (trees : List PlainTree) → is_next FAILURE rest ≡ true → length (drop 1 rest) ≡ left → AlternativesLeft groups levels left first words trees rest → (read_alternatives (suc (length words)) (read_body groups levels) left words and_then λ ts x. Ok (trees_of (first ∷ ts), x)) ≡ Ok (trees_of trees, drop 1 rest)
unfolding alternative_or
alternatives_end groups levels left first words rest trees s h l =
    stopped (Ok ([], drop 1 rest))
    (λ k. ap (λ b. alternative_or groups levels left k rest b (read_alternative (read_body groups levels) rest)) s
    ∙ ap (λ b. if b then Ok ([], drop 1 rest) else invalid) (eq-eqb (length (drop 1 rest)) left h)) l.reads
    ∙ ap (λ ts. Ok (trees_of ts, drop 1 rest)) (append-nil trees)

pub alternatives_wrong_end : (groups levels left : ℕ) (first : PlainTree) (words rest : List ℕ) (trees : List PlainTree) → is_next FAILURE rest ≡ true → (length (drop 1 rest) ≡ left → ⊥) → AlternativesLeft groups levels left first words trees rest → (read_alternatives (suc (length words)) (read_body groups levels) left words and_then λ ts x. Ok (trees_of (first ∷ ts), x)) ≡ invalid
unfolding alternative_or
alternatives_wrong_end groups levels left first words rest trees s apart l =
    stopped invalid
    (λ k. ap (λ b. alternative_or groups levels left k rest b (read_alternative (read_body groups levels) rest)) s
    ∙ ap (λ b. if b then Ok ([], drop 1 rest) else invalid) (ne_eqb (length (drop 1 rest)) left apart)) l.reads

-- a body, where one more may be inside
pub body_is : (groups levels : ℕ) (words : List ℕ) → (levels ≡ 0 → ⊥) → read_body groups levels words ≡ read_tree groups (levels - 1) words
body_is groups zero words h = absurd (h refl)
body_is groups (suc levels) words h = let same : levels ≡ suc levels - 1 = omega arith in ap (λ l. read_tree groups l words) same
