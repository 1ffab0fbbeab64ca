-- How a node with one body is read.
use Rattle.std.specs.Prelude.{◌==◌, ◌&&◌, ◌||◌, ℕ, ◌+◌, ◌/◌, nat_le, Bool, if◌then◌else◌, List, length, Ok}
use Rattle.py_base.specs.Reading.{◌and_then◌}
use Rattle.sre_code.specs.declared.opcodes.TheConstants.{SUCCESS, MARK}
use Rattle.sre_code.specs.PlainTree.{PlainNode, PlainTree, group, atomic, look}
use Rattle.sre_code.specs.Decoding.Decoder.{Read, Body, invalid}
use Rattle.sre_code.specs.Decoding.Words.{read_word, is_odd}

-- a body and the word after it, where a skip passes both and so many words more
abbrev pub read_skipped : Body → ℕ → ℕ → List ℕ → Read (PlainTree × ℕ)
read_skipped body skip more ws =
    body ws and_then λ b rest.
    read_word rest and_then λ until rest.
    if skip + length rest == length ws + more then Ok ((b, until), rest) else invalid

-- where that word is this one
abbrev pub read_part : Body → ℕ → ℕ → ℕ → List ℕ → Read PlainTree
read_part body until skip more ws =
    read_skipped body skip more ws and_then λ b rest.
    if b.1 == until then Ok (b.0, rest) else invalid

abbrev pub read_atomic : Body → List ℕ → Read PlainNode
read_atomic body ws =
    read_word ws and_then λ skip rest.
    read_part body SUCCESS skip 1 rest and_then λ b rest.
    Ok (atomic b, rest)

abbrev pub read_assert : Bool → Body → List ℕ → Read PlainNode
read_assert positive body ws =
    read_word ws and_then λ skip rest.
    read_word rest and_then λ back rest.
    read_part body SUCCESS skip 2 rest and_then λ b rest.
    Ok (look positive back b, rest)

-- the group with number g + 1 begins with the number 2 * g, and ends with the next one
abbrev pub read_mark : ℕ → Body → List ℕ → Read PlainNode
read_mark groups body ws =
    read_word ws and_then λ mark rest.
    if is_odd mark || nat_le groups (mark / 2) then invalid else
    body rest and_then λ b rest.
    read_word rest and_then λ until rest.
    read_word rest and_then λ last rest.
    if until == MARK && last == mark + 1 then Ok (group (mark / 2 + 1) b, rest) else invalid
