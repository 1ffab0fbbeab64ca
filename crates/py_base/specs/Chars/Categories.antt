-- The categories that a regular expression names by a number.
use Rattle.std.specs.Prelude.{ℕ, Bool, false, not, ◌||◌, ◌==◌, ◌-◌, ◌%◌, nat_le, if◌then◌else◌}
use Rattle.py_base.specs.Chars.Classes.{between, is_alnum, is_decimal, is_line_end, is_space}
use Rattle.py_base.specs.Chars.Whitespace.{is_ascii_whitespace}
use Rattle.py_base.specs.declared.chars.categories.TheConstants.{CATEGORY_DIGIT, CATEGORY_SPACE, CATEGORY_WORD, CATEGORY_LINEBREAK, CATEGORY_NOT_LINEBREAK, CATEGORY_UNI_DIGIT, CATEGORY_UNI_SPACE, CATEGORY_UNI_WORD, CATEGORY_UNI_LINEBREAK, CATEGORY_UNI_NOT_LINEBREAK, LINE_FEED}

abbrev pub is_ascii_digit : ℕ → Bool
is_ascii_digit c = between 0x30 0x39 c

-- an ASCII letter, an ASCII digit or `_`
abbrev pub is_ascii_word : ℕ → Bool
is_ascii_word c = is_ascii_digit c || between 0x41 0x5A c || between 0x61 0x7A c || c == 0x5F

-- a letter or a number of any script, or `_`
abbrev pub is_word : ℕ → Bool
is_word c = is_alnum c || c == 0x5F

-- the two numbers between the ASCII categories and the Unicode ones are CPython's locale
-- categories, which are left out
abbrev pub is_category : ℕ → Bool
is_category k =
    nat_le k CATEGORY_NOT_LINEBREAK || between CATEGORY_UNI_DIGIT CATEGORY_UNI_NOT_LINEBREAK k

-- the categories that are no complement have even numbers
abbrev pub even_category : ℕ → ℕ → Bool
even_category k c =
    if k == CATEGORY_DIGIT then is_ascii_digit c
    else if k == CATEGORY_SPACE then is_ascii_whitespace c
    else if k == CATEGORY_WORD then is_ascii_word c
    else if k == CATEGORY_LINEBREAK then c == LINE_FEED
    else if k == CATEGORY_UNI_DIGIT then is_decimal c
    else if k == CATEGORY_UNI_SPACE then is_space c
    else if k == CATEGORY_UNI_WORD then is_word c
    else if k == CATEGORY_UNI_LINEBREAK then is_line_end c
    else false

-- an odd number names the complement of the category before it
abbrev pub in_category : ℕ → ℕ → Bool
in_category k c = if k % 2 == 0 then even_category k c else not (even_category (k - 1) c)
