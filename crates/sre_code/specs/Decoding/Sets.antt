-- How a set is read.
use Rattle.std.specs.Prelude.{◌==◌, ℕ, zero, suc, ◌+◌, ◌*◌, Bool, true, false, if◌then◌else◌, List, [], ◌∷◌, length, drop, Ok}
use Rattle.py_base.specs.Chars.Categories.{is_category}
use Rattle.py_base.specs.Reading.{◌and_then◌, is_next, read_by}
use Rattle.sre_code.specs.declared.error.CodeError.TheVariants.{InvalidCode}
use Rattle.sre_code.specs.declared.opcodes.TheConstants.{FAILURE, CATEGORY, CHARSET, CHARSET_WORDS, BIGCHARSET, LITERAL, MAP_WORDS, NEGATE, RANGE}
use Rattle.sre_code.specs.declared.set.SetItem.{SetItem}
use Rattle.sre_code.specs.declared.set.SetItem.TheVariants.{Literal, Span, Category, Bits, Blocks}
use Rattle.sre_code.specs.PlainTree.{PlainNode, one_of}
use Rattle.sre_code.specs.Decoding.Decoder.{Read, invalid}
use Rattle.sre_code.specs.Decoding.Words.{read_word, read_words}

abbrev pub read_unit : List ℕ → Read SetItem
read_unit ws = read_word ws and_then λ c rest. Ok (Literal c, rest)

abbrev pub read_range : List ℕ → Read SetItem
read_range ws =
    read_word ws and_then λ lo rest. read_word rest and_then λ hi rest. Ok (Span lo hi, rest)

abbrev pub read_category : List ℕ → Read SetItem
read_category ws =
    read_word ws and_then λ k rest. if is_category k then Ok (Category k, rest) else invalid

-- a bit for each unit below 256
abbrev pub read_charset : List ℕ → Read SetItem
read_charset ws = read_words CHARSET_WORDS ws and_then λ bits rest. Ok (Bits bits, rest)

-- how many blocks there are, the number of a block for each 256 units, and the blocks
abbrev pub read_bigcharset : List ℕ → Read SetItem
read_bigcharset ws =
    read_word ws and_then λ n rest.
    read_words MAP_WORDS rest and_then λ map rest.
    read_words (CHARSET_WORDS * n) rest and_then λ blocks rest.
    Ok (Blocks map blocks, rest)

abbrev pub item_readers : List (ℕ × (List ℕ → Read SetItem))
item_readers =
    (CATEGORY, read_category) ∷ (CHARSET, read_charset) ∷ (BIGCHARSET, read_bigcharset)
    ∷ (LITERAL, read_unit) ∷ (RANGE, read_range) ∷ []

abbrev pub read_item : List ℕ → Read SetItem
read_item ws = read_by InvalidCode item_readers ws

-- items up to the word FAILURE, at most n
abbrev pub read_items : ℕ → List ℕ → Read (List SetItem)
read_items zero ws = invalid
read_items (suc n) ws =
    if is_next FAILURE ws then Ok ([], drop 1 ws) else
    read_item ws and_then λ item rest.
    read_items n rest and_then λ items rest.
    Ok (item ∷ items, rest)

-- whether a set is a complement
abbrev pub read_negate : List ℕ → Read Bool
read_negate ws = if is_next NEGATE ws then Ok (true, drop 1 ws) else Ok (false, ws)

-- the skip passes itself and the set
abbrev pub read_in : List ℕ → Read PlainNode
read_in ws =
    read_word ws and_then λ skip set.
    read_negate set and_then λ negated rest.
    read_items (suc (length rest)) rest and_then λ items rest.
    if skip + length rest == length set + 1 then Ok (one_of negated items, rest) else invalid
