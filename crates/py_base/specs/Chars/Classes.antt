-- The classes of code points.
use Rattle.std.specs.Prelude.{ℕ, Bool, true, false, not, ◌&&◌, ◌||◌, ◌==◌, nat_lt, nat_le}
use Rattle.std.specs.Char.{is_whitespace}
use Rattle.unicode.specs.Binary.{is_alphabetic as has_alphabetic, is_lowercase, is_uppercase}
use Rattle.unicode_ident.specs.Ident.{is_xid_start, is_xid_continue}
use Rattle.unicode.specs.GeneralCategory.{general_category}
use Rattle.ucd_category.specs.declared.GeneralCategory.{GeneralCategory}
use Rattle.ucd_category.specs.declared.GeneralCategory.TheVariants.{TitlecaseLetter, DecimalNumber, LetterNumber, OtherNumber, Control, Format, Surrogate, PrivateUse, Unassigned, LineSeparator, ParagraphSeparator, SpaceSeparator}

-- from lo to hi
abbrev pub between : ℕ → ℕ → ℕ → Bool
between lo hi c = nat_le lo c && nat_le c hi

-- a number is a character's code point up to U+10FFFF, but for the surrogates
abbrev pub is_character : ℕ → Bool
is_character c = nat_lt c 0xD800 || between 0xE000 0x10_FFFF c

-- general category Lt
abbrev pub titlecase : GeneralCategory → Bool
titlecase TitlecaseLetter = true
titlecase _ = false

-- general category Nd
abbrev pub decimal : GeneralCategory → Bool
decimal DecimalNumber = true
decimal _ = false

-- general category Nd, Nl or No
abbrev pub number : GeneralCategory → Bool
number DecimalNumber = true
number LetterNumber = true
number OtherNumber = true
number _ = false

-- general category Cc, Cf, Cs, Co, Cn, Zl, Zp or Zs
abbrev pub unseen : GeneralCategory → Bool
unseen Control = true
unseen Format = true
unseen Surrogate = true
unseen PrivateUse = true
unseen Unassigned = true
unseen LineSeparator = true
unseen ParagraphSeparator = true
unseen SpaceSeparator = true
unseen _ = false

abbrev pub is_alphabetic : ℕ → Bool
is_alphabetic c = is_character c && has_alphabetic c

abbrev pub is_lower : ℕ → Bool
is_lower c = is_character c && is_lowercase c

abbrev pub is_upper : ℕ → Bool
is_upper c = is_character c && is_uppercase c

abbrev pub is_title : ℕ → Bool
is_title c = is_character c && titlecase (general_category c)

abbrev pub is_decimal : ℕ → Bool
is_decimal c = is_character c && decimal (general_category c)

abbrev pub is_numeric : ℕ → Bool
is_numeric c = is_character c && number (general_category c)

abbrev pub is_alnum : ℕ → Bool
is_alnum c = is_alphabetic c || is_numeric c

-- the ASCII digits, and the superscript ones
abbrev pub is_digit_char : ℕ → Bool
is_digit_char c =
    between 0x30 0x39 c || c == 0xB2 || c == 0xB3 || c == 0xB9 || c == 0x2070
    || between 0x2074 0x2079 c

abbrev pub is_white : ℕ → Bool
is_white c = is_character c && is_whitespace c

-- the whitespace of `str.isspace`
abbrev pub is_space : ℕ → Bool
is_space c =
    between 0x09 0x0D c || between 0x1C 0x1F c || c == 0x20 || c == 0x85 || c == 0xA0 || c == 0x1680
    || between 0x2000 0x200A c || c == 0x2028 || c == 0x2029 || c == 0x202F || c == 0x205F
    || c == 0x3000

-- the line ends of `str.splitlines`
abbrev pub is_line_end : ℕ → Bool
is_line_end c =
    between 0x0A 0x0D c || between 0x1C 0x1E c || c == 0x85 || c == 0x2028 || c == 0x2029

-- the space, and each character that is seen
abbrev pub is_printable : ℕ → Bool
is_printable c = is_character c && (c == 0x20 || not (unseen (general_category c)))

-- an underscore too starts an identifier
abbrev pub is_id_start : ℕ → Bool
is_id_start c = is_character c && (c == 0x5F || is_xid_start c)

abbrev pub is_id_continue : ℕ → Bool
is_id_continue c = is_character c && is_xid_continue c
