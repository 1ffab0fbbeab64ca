-- Worked rows of classes of characters, which compute.
use Rattle.std.specs.Prelude.{◌≡◌, refl, true, false, [], ◌∷◌, ◌++◌, codes}
use Rattle.ucd_category.specs.GeneralCategory.{general_category}
use Rattle.ucd_category.specs.GeneralCategoryRows.{general_category_rows}
use Rattle.ucd_table.specs.Rows.{value_in, in_ranges}
use Rattle.ucd_derived.specs.Binary.{is_lowercase, is_uppercase, is_xid_start, is_xid_continue}
use Rattle.ucd_derived.specs.LowercaseRanges.{lowercase_ranges}
use Rattle.ucd_derived.specs.UppercaseRanges.{uppercase_ranges}
use Rattle.ucd_derived.specs.XidStartRanges.{xid_start_ranges}
use Rattle.ucd_derived.specs.XidContinueRanges.{xid_continue_ranges}
use Rattle.py_base.specs.Chars.Quoting.{text_repr}
use Rattle.py_str.specs.TestsOf.{istitle, islower, isidentifier}
use Rattle.py_str.specs.Quote.{text_ascii}

pub title_line : istitle (codes "A Titlecased, Line") ≡ true
unfolding general_category value_in general_category_rows is_lowercase is_uppercase in_ranges
    lowercase_ranges uppercase_ranges is_xid_start is_xid_continue xid_start_ranges
    xid_continue_ranges
title_line = refl

pub title_not : istitle (codes "Not--a Titlecase String") ≡ false
unfolding general_category value_in general_category_rows is_lowercase is_uppercase in_ranges
    lowercase_ranges uppercase_ranges is_xid_start is_xid_continue xid_start_ranges
    xid_continue_ranges
title_not = refl

pub title_loud : istitle (codes "NOT") ≡ false
unfolding general_category value_in general_category_rows is_lowercase is_uppercase in_ranges
    lowercase_ranges uppercase_ranges is_xid_start is_xid_continue xid_start_ranges
    xid_continue_ranges
title_loud = refl

pub title_none : istitle (10 ∷ []) ≡ false
unfolding general_category value_in general_category_rows is_lowercase is_uppercase in_ranges
    lowercase_ranges uppercase_ranges is_xid_start is_xid_continue xid_start_ranges
    xid_continue_ranges
title_none = refl

pub identifier_row : isidentifier (codes "_a1") ≡ true
unfolding general_category value_in general_category_rows is_lowercase is_uppercase in_ranges
    lowercase_ranges uppercase_ranges is_xid_start is_xid_continue xid_start_ranges
    xid_continue_ranges
identifier_row = refl

pub identifier_not : isidentifier (codes "1a") ≡ false
unfolding general_category value_in general_category_rows is_lowercase is_uppercase in_ranges
    lowercase_ranges uppercase_ranges is_xid_start is_xid_continue xid_start_ranges
    xid_continue_ranges
identifier_not = refl

pub lower_row : islower (codes "a1") ≡ true
unfolding general_category value_in general_category_rows is_lowercase is_uppercase in_ranges
    lowercase_ranges uppercase_ranges is_xid_start is_xid_continue xid_start_ranges
    xid_continue_ranges
lower_row = refl

-- `'é\n'`
pub repr_row : text_repr (233 ∷ 10 ∷ []) ≡ 39 ∷ 233 ∷ codes "\\n'"
unfolding general_category value_in general_category_rows is_lowercase is_uppercase in_ranges
    lowercase_ranges uppercase_ranges is_xid_start is_xid_continue xid_start_ranges
    xid_continue_ranges
repr_row = refl

pub ascii_row : text_ascii (233 ∷ 10 ∷ []) ≡ codes "'\\xe9\\n'"
unfolding general_category value_in general_category_rows is_lowercase is_uppercase in_ranges
    lowercase_ranges uppercase_ranges is_xid_start is_xid_continue xid_start_ranges
    xid_continue_ranges
ascii_row = refl

-- with `'` and no `"`
pub repr_double : text_repr (codes "it's") ≡ 34 ∷ codes "it's" ++ 34 ∷ []
unfolding general_category value_in general_category_rows is_lowercase is_uppercase in_ranges
    lowercase_ranges uppercase_ranges is_xid_start is_xid_continue xid_start_ranges
    xid_continue_ranges
repr_double = refl

-- with both
pub repr_both : text_repr (39 ∷ 34 ∷ []) ≡ 39 ∷ 92 ∷ 39 ∷ 34 ∷ 39 ∷ []
unfolding general_category value_in general_category_rows is_lowercase is_uppercase in_ranges
    lowercase_ranges uppercase_ranges is_xid_start is_xid_continue xid_start_ranges
    xid_continue_ranges
repr_both = refl

-- each escape
pub repr_escapes : text_repr (92 ∷ 13 ∷ 9 ∷ 0 ∷ 0x7F ∷ 0x200B ∷ 0xE0001 ∷ [])
    ≡ codes "'\\\\\\r\\t\\x00\\x7f\\u200b\\U000e0001'"
unfolding general_category value_in general_category_rows is_lowercase is_uppercase in_ranges
    lowercase_ranges uppercase_ranges is_xid_start is_xid_continue xid_start_ranges
    xid_continue_ranges
repr_escapes = refl

pub ascii_long : text_ascii (0x1F385 ∷ 0x20AC ∷ []) ≡ codes "'\\U0001f385\\u20ac'"
unfolding general_category value_in general_category_rows is_lowercase is_uppercase in_ranges
    lowercase_ranges uppercase_ranges is_xid_start is_xid_continue xid_start_ranges
    xid_continue_ranges
ascii_long = refl
