use Rattle.std.proofs.Common.{◌+◌, ◌*◌, length}
use Rattle.sre_code.proofs.LeftLemmas.{NodesLeft, AlternativesLeft}
use Rattle.sre_code.proofs.decoding.decoder.Decoder.+decode.Given as goal

abbrev pub decreases-read_alternative : goal.decreases-read_alternative
decreases-read_alternative l = 10 * l.self.now.levels + 3

abbrev pub decreases-read_alternatives : goal.decreases-read_alternatives
decreases-read_alternatives l = 10 * l.self.now.levels + 4

abbrev pub decreases-read_any_repeat : goal.decreases-read_any_repeat
decreases-read_any_repeat l = 10 * l.self.now.levels + 4

abbrev pub decreases-read_assert : goal.decreases-read_assert
decreases-read_assert l = 10 * l.self.now.levels + 3

abbrev pub decreases-read_atomic : goal.decreases-read_atomic
decreases-read_atomic l = 10 * l.self.now.levels + 3

abbrev pub decreases-read_body : goal.decreases-read_body
decreases-read_body l = 10 * l.self.now.levels + 0

abbrev pub decreases-read_branch : goal.decreases-read_branch
decreases-read_branch l = 10 * l.self.now.levels + 5

abbrev pub decreases-read_choice : goal.decreases-read_choice
decreases-read_choice l = 10 * l.self.now.levels + 2

abbrev pub decreases-read_exists : goal.decreases-read_exists
decreases-read_exists l = 10 * l.self.now.levels + 3

abbrev pub decreases-read_mark : goal.decreases-read_mark
decreases-read_mark l = 10 * l.self.now.levels + 3

abbrev pub decreases-read_node : goal.decreases-read_node
decreases-read_node l = 10 * l.self.now.levels + 7

abbrev pub decreases-read_part : goal.decreases-read_part
decreases-read_part l = 10 * l.self.now.levels + 2

abbrev pub decreases-read_possessive : goal.decreases-read_possessive
decreases-read_possessive l = 10 * l.self.now.levels + 3

abbrev pub decreases-read_repeat : goal.decreases-read_repeat
decreases-read_repeat l = 10 * l.self.now.levels + 3

abbrev pub decreases-read_repeat_one : goal.decreases-read_repeat_one
decreases-read_repeat_one l = 10 * l.self.now.levels + 3

abbrev pub decreases-read_second : goal.decreases-read_second
decreases-read_second l = 10 * l.self.now.levels + 1

abbrev pub decreases-read_skipped : goal.decreases-read_skipped
decreases-read_skipped l = 10 * l.self.now.levels + 1

abbrev pub decreases-read_tree : goal.decreases-read_tree
decreases-read_tree l = 10 * l.self.now.levels + 8

abbrev pub decreases-read_with_body : goal.decreases-read_with_body
decreases-read_with_body l = 10 * l.self.now.levels + 6

abbrev pub invariant-read_alternatives-loop-rest : goal.invariant-read_alternatives-loop-rest
invariant-read_alternatives-loop-rest l = AlternativesLeft l.self.groups l.self.levels l.left l.fn.first l.words l.trees.items l.rest

abbrev pub decreases-read_alternatives-loop-rest : goal.decreases-read_alternatives-loop-rest
decreases-read_alternatives-loop-rest l = length l.rest

abbrev pub invariant-read_tree-loop-rest : goal.invariant-read_tree-loop-rest
invariant-read_tree-loop-rest l = NodesLeft l.self.groups l.self.levels l.words l.nodes.items l.rest

abbrev pub decreases-read_tree-loop-rest : goal.decreases-read_tree-loop-rest
decreases-read_tree-loop-rest l = length l.rest
