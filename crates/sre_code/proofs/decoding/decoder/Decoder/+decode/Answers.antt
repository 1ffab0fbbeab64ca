use Rattle.std.proofs.Common.{◌≡◌, sym, ap, ◌∙◌, false, true, drop, length}
use Rattle.std.proofs.lemmas.Result.{err_from_is_err_and}
use Rattle.py_base.specs.Reading.{is_next}
use Rattle.py_base.proofs.LoopLemmas.{handed_on}
use Rattle.sre_code.specs.declared.opcodes.TheConstants.{FAILURE}
use Rattle.sre_code.specs.Decoding.Decoder.{Limits, no_memory}
use Rattle.sre_code.specs.Decoding.Words.{is_end}
use Rattle.sre_code.proofs.LeftLemmas.{body_is, nodes_none, nodes_more, nodes_error, nodes_end, node_shorter, alternatives_none, alternatives_more, alternatives_error, alternatives_apart, alternatives_end, alternatives_wrong_end}
use Rattle.sre_code.proofs.decoding.decoder.Decoder.+decode.Goals as goal

pub read_body-returns : goal.read_body-returns
read_body-returns t c =
    let some : c.args.self.now.levels ≡ 0 → ⊥ = λ e. c.if-self-eq0.false (ap (λ (l : Limits). l.levels) c.self.view_is ∙ e) in
    rw (body_is c.args.self.now.groups c.args.self.now.levels c.args.words.now some, ← c.self.view_is) c.read_tree.ensures

pub read_tree-loop-rest-init : goal.read_tree-loop-rest-init
read_tree-loop-rest-init t c = rw c.new-nodes.ensures.items (nodes_none c.args.self.now.groups c.args.self.now.levels c.args.words.now)

pub read_tree-returns-in_err-node : goal.read_tree-returns-in_err-node
read_tree-returns-in_err-node t c =
    let go : is_end c.loop-rest.rest.now ≡ false = cc (c.is_end.ensures, c.loop-rest-test.true) in
    let p = err_from_is_err_and c.from_residual.result c.from_residual.ensures.1 in
    rw (p.1, p.2) (handed_on (no_memory c.in_err-node.field-0.0) c.in_err-node.field-0.0 (λ h. nodes_error c.args.self.now.groups c.args.self.now.levels c.args.words.now c.loop-rest.rest.now c.loop-rest.nodes.items _ go h c.loop-rest.invariant) c.in_err-node.ensures)

pub read_tree-loop-rest-smaller : goal.read_tree-loop-rest-smaller
read_tree-loop-rest-smaller t c = node_shorter c.args.self.now.groups c.args.self.now.levels c.loop-rest.rest.now c.in_ok-node.after.now _ c.in_ok-node.ensures

pub read_tree-loop-rest-preserved : goal.read_tree-loop-rest-preserved
read_tree-loop-rest-preserved t c =
    let go : is_end c.loop-rest.rest.now ≡ false = cc (c.is_end.ensures, c.loop-rest-test.true) in
    rw c.in_ok-push.ensures.items
    (nodes_more c.args.self.now.groups c.args.self.now.levels c.args.words.now c.loop-rest.rest.now c.in_ok-node.after.now c.loop-rest.nodes.items c.in_ok-node.node go c.in_ok-node.ensures c.loop-rest.invariant)

pub read_tree-returns : goal.read_tree-returns
read_tree-returns t c =
    let end : is_end c.loop-rest.rest.now ≡ true = cc (c.is_end.ensures, c.loop-rest-test.false) in
    rw c.from_nodes.ensures (sym (nodes_end c.args.self.now.groups c.args.self.now.levels c.args.words.now c.loop-rest.rest.now c.loop-rest.nodes.items end c.loop-rest.invariant))

pub read_alternatives-loop-rest-init : goal.read_alternatives-loop-rest-init
read_alternatives-loop-rest-init t c =
    rw (c.in_ok-push.ensures.items, c.new-trees.ensures.items) (alternatives_none c.args.self.now.groups c.args.self.now.levels c.args.left c.args.first c.args.words.now)

pub read_alternatives-returns-in_err-tree : goal.read_alternatives-returns-in_err-tree
read_alternatives-returns-in_err-tree t c =
    let go : is_next FAILURE c.loop-rest.rest.now ≡ false = cc (c.is_next.ensures, c.loop-rest-test.true) in
    let p = err_from_is_err_and c.from_residual-in_err-tree.result c.from_residual-in_err-tree.ensures.1 in
    rw (p.1, p.2) (handed_on (no_memory c.in_err-tree.field-0.0) c.in_err-tree.field-0.0 (λ h. alternatives_error c.args.self.now.groups c.args.self.now.levels c.args.left c.args.first c.args.words.now c.loop-rest.rest.now c.loop-rest.trees.items _ go h c.loop-rest.invariant) c.in_err-tree.ensures)

pub read_alternatives-returns-then-end-left : goal.read_alternatives-returns-then-end-left
read_alternatives-returns-then-end-left t c =
    let go : is_next FAILURE c.loop-rest.rest.now ≡ false = cc (c.is_next.ensures, c.loop-rest-test.true) in
    sym (alternatives_apart c.args.self.now.groups c.args.self.now.levels c.args.left c.args.first c.args.words.now c.loop-rest.rest.now c.in_ok-tree.after.now c.loop-rest.trees.items c.in_ok-tree.tree c.in_ok-tree.end go c.in_ok-tree.ensures c.if-end-left.true c.loop-rest.invariant)

pub read_alternatives-loop-rest-preserved : goal.read_alternatives-loop-rest-preserved
read_alternatives-loop-rest-preserved t c =
    let go : is_next FAILURE c.loop-rest.rest.now ≡ false = cc (c.is_next.ensures, c.loop-rest-test.true) in
    rw c.in_ok-push-2.ensures.items
    (alternatives_more c.args.self.now.groups c.args.self.now.levels c.args.left c.args.first c.args.words.now c.loop-rest.rest.now c.in_ok-tree.after.now c.loop-rest.trees.items c.in_ok-tree.tree c.in_ok-tree.end go c.in_ok-tree.ensures c.if-end-left.false c.loop-rest.invariant)

pub read_alternatives-returns-then-rest-left : goal.read_alternatives-returns-then-rest-left
read_alternatives-returns-then-rest-left t c =
    let end : is_next FAILURE c.loop-rest.rest.now ≡ true = cc (c.is_next.ensures, c.loop-rest-test.false) in
    let apart : length (drop 1 c.loop-rest.rest.now) ≡ c.args.left → ⊥ = rw c.after_next-rest.ensures at c.if-rest-left.true in
    sym (alternatives_wrong_end c.args.self.now.groups c.args.self.now.levels c.args.left c.args.first c.args.words.now c.loop-rest.rest.now c.loop-rest.trees.items end apart c.loop-rest.invariant)

pub read_alternatives-returns : goal.read_alternatives-returns
read_alternatives-returns t c =
    let end : is_next FAILURE c.loop-rest.rest.now ≡ true = cc (c.is_next.ensures, c.loop-rest-test.false) in
    let same : length (drop 1 c.loop-rest.rest.now) ≡ c.args.left = rw c.after_next-rest.ensures at c.if-rest-left.false in
    rw (c.from_trees.ensures, c.after_next-rest.ensures) (sym (alternatives_end c.args.self.now.groups c.args.self.now.levels c.args.left c.args.first c.args.words.now c.loop-rest.rest.now c.loop-rest.trees.items end same c.loop-rest.invariant))
