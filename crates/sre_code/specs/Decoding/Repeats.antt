-- How a repeat is read.
use Rattle.std.specs.Prelude.{◌==◌, ℕ, nat_le, false, true, if◌then◌else◌, List, [], ◌∷◌, Ok}
use Rattle.py_base.specs.Reading.{◌and_then◌}
use Rattle.sre_code.specs.declared.opcodes.TheConstants.{SUCCESS, MAX_UNTIL, MIN_UNTIL, REPEAT, REPEAT_ONE, MIN_REPEAT_ONE, POSSESSIVE_REPEAT, POSSESSIVE_REPEAT_ONE}
use Rattle.sre_code.specs.declared.tree.RepeatKind.{RepeatKind}
use Rattle.sre_code.specs.declared.tree.RepeatKind.TheVariants.{Greedy, Lazy, Possessive}
use Rattle.sre_code.specs.declared.decoding.repeats.Counts.{Counts}
use Rattle.sre_code.specs.PlainTree.{PlainNode, repeat, is_unit}
use Rattle.sre_code.specs.Decoding.Decoder.{Read, Body, invalid}
use Rattle.sre_code.specs.Decoding.Words.{read_word}
use Rattle.sre_code.specs.Decoding.Bodies.{read_skipped, read_part}

abbrev pub read_counts : List ℕ → Read Counts
read_counts ws =
    read_word ws and_then λ skip rest.
    read_word rest and_then λ least rest.
    read_word rest and_then λ greatest rest.
    if nat_le least greatest
    then Ok (record { skip = skip; least = least; greatest = greatest }, rest)
    else invalid

-- greedy or lazy by the word after the body
abbrev pub read_repeat : Body → List ℕ → Read PlainNode
read_repeat body ws =
    read_counts ws and_then λ c rest.
    read_skipped body c.skip 2 rest and_then λ b rest.
    if b.1 == MAX_UNTIL then Ok (repeat Greedy false c.least c.greatest b.0, rest)
    else if b.1 == MIN_UNTIL then Ok (repeat Lazy false c.least c.greatest b.0, rest)
    else invalid

abbrev pub read_possessive : Body → List ℕ → Read PlainNode
read_possessive body ws =
    read_counts ws and_then λ c rest.
    read_part body SUCCESS c.skip 2 rest and_then λ b rest.
    Ok (repeat Possessive false c.least c.greatest b, rest)

-- a repeat of one unit
abbrev pub read_repeat_one : RepeatKind → Body → List ℕ → Read PlainNode
read_repeat_one kind body ws =
    read_counts ws and_then λ c rest.
    read_part body SUCCESS c.skip 3 rest and_then λ b rest.
    if is_unit b then Ok (repeat kind true c.least c.greatest b, rest) else invalid

abbrev pub repeat_readers : Body → List (ℕ × (List ℕ → Read PlainNode))
repeat_readers body =
    (REPEAT, read_repeat body) ∷ (REPEAT_ONE, read_repeat_one Greedy body)
    ∷ (MIN_REPEAT_ONE, read_repeat_one Lazy body) ∷ (POSSESSIVE_REPEAT, read_possessive body)
    ∷ (POSSESSIVE_REPEAT_ONE, read_repeat_one Possessive body) ∷ []
