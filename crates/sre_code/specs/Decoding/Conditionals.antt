-- How a conditional is read.
use Rattle.std.specs.Prelude.{◌==◌, ◌&&◌, ◌||◌, ℕ, ◌+◌, ◌-◌, nat_le, nat_lt, if◌then◌else◌, List, length, Option, Some, None, Ok}
use Rattle.py_base.specs.Reading.{◌and_then◌}
use Rattle.sre_code.specs.declared.opcodes.TheConstants.{JUMP}
use Rattle.sre_code.specs.PlainTree.{PlainNode, PlainTree, exists, exists_else}
use Rattle.sre_code.specs.Decoding.Decoder.{Read, Body, invalid}
use Rattle.sre_code.specs.Decoding.Words.{read_word, read_words}

-- the second body, where the words left of the first jump over it
abbrev pub read_second : Body → List ℕ → List ℕ → Read (Option PlainTree)
read_second body left ws =
    if length left == 0 then Ok (None, ws) else
    read_word left and_then λ op more.
    read_word more and_then λ jump end.
    if op == JUMP && nat_le 1 jump && length end == 0 then
    (read_words (jump - 1) ws and_then λ part rest.
    body part and_then λ z end.
    if length end == 0 then Ok (Some z, rest) else invalid)
    else invalid

abbrev pub exists_of : ℕ → PlainTree → Option PlainTree → PlainNode
exists_of g y None = exists g y
exists_of g y (Some z) = exists_else g y z

-- the two bodies, of which the first, with a jump over the second, has n words
abbrev pub read_choice : ℕ → Body → ℕ → List ℕ → Read PlainNode
read_choice g body n ws =
    read_words n ws and_then λ part rest.
    body part and_then λ y left.
    read_second body left rest and_then λ z rest.
    Ok (exists_of g y z, rest)

abbrev pub read_exists : ℕ → Body → List ℕ → Read PlainNode
read_exists groups body ws =
    read_word ws and_then λ g rest.
    read_word rest and_then λ skip rest.
    if nat_le groups g || nat_lt skip 2 then invalid else read_choice (g + 1) body (skip - 2) rest
