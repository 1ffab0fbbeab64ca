-- The tests of a text.
use Rattle.std.specs.Prelude.{ℕ, Bool, true, false, not, ◌&&◌, ◌||◌, if◌then◌else◌, ◌==◌, List, [], ◌∷◌, length}
use Rattle.std.specs.List.{list_any, list_all}
use Rattle.py_base.specs.Chars.Classes.{is_lower, is_upper, is_title, is_printable, is_id_start, is_id_continue}

-- there is a code point, and each is of a class
abbrev pub all_are : (ℕ → Bool) → List ℕ → Bool
all_are class cs = not (length cs == 0) && list_all class cs

-- each code point is printable
abbrev pub isprintable : List ℕ → Bool
isprintable cs = list_all is_printable cs

-- some code point is lower case, and none is upper case
abbrev pub islower : List ℕ → Bool
islower cs = list_any is_lower cs && not (list_any is_upper cs)

-- some code point is upper case, and none is lower case
abbrev pub isupper : List ℕ → Bool
isupper cs = list_any is_upper cs && not (list_any is_lower cs)

-- upper case or title case: such a code point begins a word
abbrev pub begins_word : ℕ → Bool
begins_word c = is_upper c || is_title c

-- upper, title or lower case
abbrev pub is_cased : ℕ → Bool
is_cased c = begins_word c || is_lower c

-- what begins a word comes after no cased code point, and another lower one after a cased one
abbrev pub fits_title : Bool → ℕ → Bool
fits_title after_cased c =
    if begins_word c then not after_cased
    else if is_lower c then after_cased
    else true

-- each code point fits where it is
abbrev pub titled : Bool → List ℕ → Bool
titled after_cased [] = true
titled after_cased (c ∷ cs) = fits_title after_cased c && titled (is_cased c) cs

-- some code point is cased, and each fits where it is
abbrev pub istitle : List ℕ → Bool
istitle cs = list_any is_cased cs && titled false cs

-- the first code point starts an identifier, and each other one continues it
abbrev pub isidentifier : List ℕ → Bool
isidentifier [] = false
isidentifier (c ∷ cs) = is_id_start c && list_all is_id_continue cs
