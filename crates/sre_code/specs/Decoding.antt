-- How a code is read: one reader for each construct, of what is left to the construct and the rest.
use Rattle.std.specs.Prelude.{◌==◌, ◌&&◌, ℕ, ◌-◌, nat_lt, Bool, false, if◌then◌else◌, List, [], ◌∷◌, length, drop, Result, Ok, Err}
use Rattle.py_base.specs.Reading.{◌and_then◌, is_next}
use Rattle.sre_code.specs.declared.error.CodeError.{CodeError}
use Rattle.sre_code.specs.declared.opcodes.TheConstants.{SUCCESS, INFO, MAXGROUPS, MAXDEPTH}
use Rattle.sre_code.specs.PlainTree.{PlainTree}
use Rattle.sre_code.specs.Decoding.Decoder.{Read, invalid}
use Rattle.sre_code.specs.Decoding.Words.{read_word, read_words}
use Rattle.sre_code.specs.Decoding.Nodes.{read_tree}
pub mod Decoder
pub mod Words
pub mod Sets
pub mod Leaves
pub mod Bodies
pub mod Repeats
pub mod Branches
pub mod Conditionals
pub mod Nodes

-- the block of information before a tree, or none, is passed over
abbrev pub read_info : List ℕ → Read (Unit {0})
read_info ws =
    if is_next INFO ws then
    (read_word (drop 1 ws) and_then λ skip rest.
    if skip == 0 then invalid else
    read_words (skip - 1) rest and_then λ block rest.
    Ok (tt, rest))
    else Ok (tt, ws)

abbrev pub is_last : List ℕ → Bool
is_last [] = false
is_last (w ∷ ws) = w == SUCCESS && length ws == 0

-- what was read, where nothing is to be left but the last word
abbrev pub ended : {A : Type 0} → Read A → Result A CodeError
ended (Ok r) = if is_last r.1 then Ok r.0 else invalid
ended (Err e) = Err e

-- a whole code
abbrev pub read_code : ℕ → List ℕ → Result PlainTree CodeError
read_code groups ws =
    if nat_lt MAXGROUPS groups then invalid
    else ended (read_info ws and_then λ _ rest. read_tree groups MAXDEPTH rest)
