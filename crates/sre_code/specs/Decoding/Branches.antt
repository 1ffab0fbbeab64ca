-- How a branch is read.
use Rattle.std.specs.Prelude.{◌==◌, ℕ, zero, suc, ◌+◌, ◌-◌, nat_le, if◌then◌else◌, List, [], ◌∷◌, length, drop, Ok}
use Rattle.py_base.specs.Reading.{◌and_then◌, is_next}
use Rattle.sre_code.specs.declared.opcodes.TheConstants.{FAILURE, JUMP}
use Rattle.sre_code.specs.PlainTree.{PlainNode, PlainTree, branch}
use Rattle.sre_code.specs.TreeView.{trees_of}
use Rattle.sre_code.specs.Decoding.Decoder.{Read, Body, invalid}
use Rattle.sre_code.specs.Decoding.Words.{read_word}
use Rattle.sre_code.specs.Decoding.Bodies.{read_part}

-- an alternative, and how many words are left where its jump leads
abbrev pub read_alternative : Body → List ℕ → Read (PlainTree × ℕ)
read_alternative body ws =
    read_word ws and_then λ skip rest.
    read_part body JUMP skip 2 rest and_then λ t rest.
    read_word rest and_then λ jump rest.
    if nat_le jump (length rest + 1) then Ok ((t, length rest + 1 - jump), rest) else invalid

-- at most n alternatives, which all jump past the last word of the branch, where so many words are
-- left
abbrev pub read_alternatives : ℕ → Body → ℕ → List ℕ → Read (List PlainTree)
read_alternatives zero body left ws = invalid
read_alternatives (suc n) body left ws =
    if is_next FAILURE ws
    then (if length (drop 1 ws) == left then Ok ([], drop 1 ws) else invalid)
    else
    read_alternative body ws and_then λ t rest.
    if t.1 == left
    then (read_alternatives n body left rest and_then λ ts rest. Ok (t.0 ∷ ts, rest))
    else invalid

abbrev pub read_branch : Body → List ℕ → Read PlainNode
read_branch body ws =
    read_alternative body ws and_then λ t rest.
    read_alternatives (suc (length rest)) body t.1 rest and_then λ ts rest.
    Ok (branch (trees_of (t.0 ∷ ts)), rest)
