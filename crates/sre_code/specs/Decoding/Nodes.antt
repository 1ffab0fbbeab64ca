-- How a node is read by its first word, and how the nodes of a body are.
use Rattle.std.specs.Prelude.{ℕ, zero, suc, true, false, if◌then◌else◌, List, [], ◌∷◌, ◌++◌, length, Ok}
use Rattle.py_base.specs.Reading.{◌and_then◌, read_by}
use Rattle.sre_code.specs.declared.error.CodeError.TheVariants.{InvalidCode}
use Rattle.sre_code.specs.declared.opcodes.TheConstants.{ASSERT, ASSERT_NOT, BRANCH, GROUPREF_EXISTS, MARK, ATOMIC_GROUP}
use Rattle.sre_code.specs.PlainTree.{PlainNode, PlainTree, nothing, ◌then◌}
use Rattle.sre_code.specs.Decoding.Decoder.{Read, Body, invalid}
use Rattle.sre_code.specs.Decoding.Words.{is_end}
use Rattle.sre_code.specs.Decoding.Leaves.{leaf_readers}
use Rattle.sre_code.specs.Decoding.Bodies.{read_atomic, read_assert, read_mark}
use Rattle.sre_code.specs.Decoding.Repeats.{repeat_readers}
use Rattle.sre_code.specs.Decoding.Branches.{read_branch}
use Rattle.sre_code.specs.Decoding.Conditionals.{read_exists}

abbrev pub body_readers : ℕ → Body → List (ℕ × (List ℕ → Read PlainNode))
body_readers groups body =
    (ASSERT, read_assert true body) ∷ (ASSERT_NOT, read_assert false body)
    ∷ (ATOMIC_GROUP, read_atomic body) ∷ (BRANCH, read_branch body)
    ∷ (GROUPREF_EXISTS, read_exists groups body) ∷ (MARK, read_mark groups body) ∷ []

abbrev pub node_readers : ℕ → Body → List (ℕ × (List ℕ → Read PlainNode))
node_readers groups body = leaf_readers groups ++ (body_readers groups body ++ repeat_readers body)

abbrev pub read_node : ℕ → Body → List ℕ → Read PlainNode
read_node groups body ws = read_by InvalidCode (node_readers groups body) ws

-- nodes up to the end of a body, at most n
abbrev pub read_nodes : ℕ → ℕ → Body → List ℕ → Read PlainTree
read_nodes zero groups body ws = invalid
read_nodes (suc n) groups body ws =
    if is_end ws then Ok (nothing, ws) else
    read_node groups body ws and_then λ node rest.
    read_nodes n groups body rest and_then λ t rest.
    Ok (node then t, rest)

-- a body, where so many bodies may be inside one another from here on
abbrev pub read_body : ℕ → ℕ → Body
read_body groups zero ws = invalid
read_body groups (suc levels) ws = read_nodes (suc (length ws)) groups (read_body groups levels) ws

abbrev pub read_tree : ℕ → ℕ → List ℕ → Read PlainTree
read_tree groups levels ws = read_nodes (suc (length ws)) groups (read_body groups levels) ws
