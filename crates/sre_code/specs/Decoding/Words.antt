-- How the next words of a code are read.
use Rattle.std.specs.Prelude.{◌==◌, ◌&&◌, ◌||◌, ◌%◌, ℕ, Bool, true, List, [], ◌∷◌, get_or}
use Rattle.py_base.specs.Reading.{find, read_one, read_many, read_found}
use Rattle.sre_code.specs.declared.error.CodeError.TheVariants.{InvalidCode}
use Rattle.sre_code.specs.declared.opcodes.TheConstants.{SUCCESS, JUMP, MARK, MAX_UNTIL, MIN_UNTIL}
use Rattle.sre_code.specs.Decoding.Decoder.{Read}

abbrev pub read_word : List ℕ → Read ℕ
read_word ws = read_one InvalidCode ws

abbrev pub read_words : ℕ → List ℕ → Read (List ℕ)
read_words n ws = read_many InvalidCode n ws

-- by the reader that a table has for a word before these
abbrev pub read_from : {A : Type 0} → List (ℕ × (List ℕ → Read A)) → ℕ → List ℕ → Read A
read_from table word ws = read_found InvalidCode (find table word) ws

-- a MARK ends a group by an odd number, and begins one by an even one
abbrev pub is_odd : ℕ → Bool
is_odd n = n % 2 == 1

-- a body ends at no word, a jump, the last word of a body, and the end of a group
abbrev pub is_end : List ℕ → Bool
is_end [] = true
is_end (w ∷ ws) =
    w == SUCCESS || w == JUMP || w == MAX_UNTIL || w == MIN_UNTIL
    || (w == MARK && is_odd (get_or ws 0 0))
