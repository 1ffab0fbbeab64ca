-- How a node without a body is read.
use Rattle.std.specs.Prelude.{ℕ, ◌+◌, nat_lt, if◌then◌else◌, List, [], ◌∷◌, Ok}
use Rattle.py_base.specs.Reading.{◌and_then◌}
use Rattle.sre_code.specs.declared.opcodes.TheConstants.{FAILURE, ANY, ANY_ALL, AT, GROUPREF, IN, LITERAL, NOT_LITERAL}
use Rattle.sre_code.specs.PlainTree.{PlainNode, fail, any, any_all, lit, not_lit, at, ref}
use Rattle.sre_code.specs.Anchors.{is_anchor}
use Rattle.sre_code.specs.Decoding.Decoder.{Read, invalid}
use Rattle.sre_code.specs.Decoding.Words.{read_word}
use Rattle.sre_code.specs.Decoding.Sets.{read_in}

abbrev pub read_literal : List ℕ → Read PlainNode
read_literal ws = read_word ws and_then λ c rest. Ok (lit c, rest)

abbrev pub read_not_literal : List ℕ → Read PlainNode
read_not_literal ws = read_word ws and_then λ c rest. Ok (not_lit c, rest)

abbrev pub read_at : List ℕ → Read PlainNode
read_at ws = read_word ws and_then λ k rest. if is_anchor k then Ok (at k, rest) else invalid

-- words count groups from 0 on, nodes from 1 on
abbrev pub read_groupref : ℕ → List ℕ → Read PlainNode
read_groupref groups ws =
    read_word ws and_then λ g rest. if nat_lt g groups then Ok (ref (g + 1), rest) else invalid

abbrev pub leaf_readers : ℕ → List (ℕ × (List ℕ → Read PlainNode))
leaf_readers groups =
    (FAILURE, λ ws. Ok (fail, ws)) ∷ (ANY, λ ws. Ok (any, ws)) ∷ (ANY_ALL, λ ws. Ok (any_all, ws))
    ∷ (AT, read_at) ∷ (GROUPREF, read_groupref groups) ∷ (IN, read_in) ∷ (LITERAL, read_literal)
    ∷ (NOT_LITERAL, read_not_literal) ∷ []
