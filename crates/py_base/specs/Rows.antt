-- Worked rows, which compute.
use Rattle.std.specs.Prelude.{◌≡◌, refl, pos, negsuc, [], ◌∷◌, codes, true, false}
use Rattle.py_base.specs.Chars.Categories.{in_category}
use Rattle.py_base.specs.Chars.Classes.{is_line_end}
use Rattle.py_base.specs.Error.Kinds.{kind_of}
use Rattle.py_base.specs.Error.Display.{error_text}
use Rattle.py_base.specs.Hash.{int_hash}
use Rattle.py_base.specs.Chars.Quoting.{bytes_repr}
use Rattle.py_base.specs.declared.chars.categories.TheConstants.{CATEGORY_DIGIT, CATEGORY_NOT_DIGIT, CATEGORY_SPACE, CATEGORY_NOT_SPACE, CATEGORY_WORD, CATEGORY_NOT_WORD, CATEGORY_LINEBREAK, CATEGORY_NOT_LINEBREAK, CATEGORY_UNI_DIGIT, CATEGORY_UNI_NOT_DIGIT, CATEGORY_UNI_SPACE, CATEGORY_UNI_NOT_SPACE, CATEGORY_UNI_WORD, CATEGORY_UNI_NOT_WORD, CATEGORY_UNI_LINEBREAK, CATEGORY_UNI_NOT_LINEBREAK, LINE_FEED}
use Rattle.py_base.specs.declared.error.brace.FormatSpecError.TheVariants.{CodeNotInRange}
use Rattle.py_base.specs.declared.error.kinds.ErrorKind.TheVariants.{OverflowError}
use Rattle.py_base.specs.declared.error.type_names.ClassName.TheVariants.{Bool, Str}
use Rattle.py_base.specs.declared.error.PyError.TheVariants.{Downcast, FormatSpec}

-- `hash(-2305843009213693952)`: the rest is -1, which means an error in C
pub hash_past_the_prime : int_hash (negsuc 2305843009213693951) ≡ negsuc 1
hash_past_the_prime = refl

pub hash_of_the_prime : int_hash (pos 2305843009213693951) ≡ pos 0
hash_of_the_prime = refl

-- U+001F is whitespace, and ends no line
pub unit_separator : is_line_end 0x1F ≡ false
unit_separator = refl

-- the complement of ASCII whitespace holds a number that is no character
pub surrogate_in_complement : in_category CATEGORY_NOT_SPACE 0xD800 ≡ true
surrogate_in_complement = refl

-- `repr(b"'\n\xc8")`
pub byte_quotes : bytes_repr (39 ∷ 10 ∷ 200 ∷ []) ≡ codes "b\"'\\n\\xc8\""
byte_quotes = refl

pub spec_kind : kind_of (FormatSpec CodeNotInRange) ≡ OverflowError
spec_kind = refl

pub bool_wanted : error_text (Downcast Bool Str) ≡ codes "Expected type bool, not str"
bool_wanted = refl

-- the numbers of `Lib/re/_constants.py`
pub ascii_categories_are :
    CATEGORY_DIGIT ∷ CATEGORY_NOT_DIGIT ∷ CATEGORY_SPACE ∷ CATEGORY_NOT_SPACE ∷
    CATEGORY_WORD ∷ CATEGORY_NOT_WORD ∷ CATEGORY_LINEBREAK ∷ CATEGORY_NOT_LINEBREAK ∷ []
    ≡ 0 ∷ 1 ∷ 2 ∷ 3 ∷ 4 ∷ 5 ∷ 6 ∷ 7 ∷ []
ascii_categories_are = refl

pub unicode_categories_are :
    CATEGORY_UNI_DIGIT ∷ CATEGORY_UNI_NOT_DIGIT ∷ CATEGORY_UNI_SPACE ∷ CATEGORY_UNI_NOT_SPACE ∷
    CATEGORY_UNI_WORD ∷ CATEGORY_UNI_NOT_WORD ∷ CATEGORY_UNI_LINEBREAK ∷ CATEGORY_UNI_NOT_LINEBREAK
    ∷ []
    ≡ 10 ∷ 11 ∷ 12 ∷ 13 ∷ 14 ∷ 15 ∷ 16 ∷ 17 ∷ []
unicode_categories_are = refl

pub line_feed_is : LINE_FEED ≡ 10
line_feed_is = refl
