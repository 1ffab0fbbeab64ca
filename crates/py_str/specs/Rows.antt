-- Worked rows, which compute.
use Rattle.std.specs.Prelude.{◌≡◌, refl, true, false, [], ◌∷◌, codes, Some, None}
use lib.Utf8.{encode}
use Rattle.py_base.specs.Chars.Quoting.{bytes_repr}
use Rattle.py_base.specs.Chars.Whitespace.{trim_start, trim_end, trim}
use Rattle.py_str.specs.Strip.{is_one_of}
use Rattle.py_str.specs.Pad.{center, ljust, rjust, zfill, fill_of}
use Rattle.py_str.specs.Tabs.{expanded}
use Rattle.py_str.specs.TestsOf.{isprintable}
use Rattle.py_str.specs.Codec.{names_utf8}

-- `"ab".center(5)`: the odd one is on the left
pub center_odd : center 5 (codes "ab") 32 ≡ codes "  ab "
center_odd = refl

-- `"abc".center(4)`: here on the right
pub center_even : center 4 (codes "abc") 32 ≡ codes "abc "
center_even = refl

pub ljust_row : ljust 4 (codes "ab") 32 ≡ codes "ab  "
ljust_row = refl

pub rjust_row : rjust 4 (codes "ab") 32 ≡ codes "  ab"
rjust_row = refl

pub zfill_signed : zfill 4 (codes "-7") ≡ codes "-007"
zfill_signed = refl

pub zfill_sign_alone : zfill 3 (codes "+") ≡ codes "+00"
zfill_sign_alone = refl

pub zfill_nothing : zfill 3 [] ≡ codes "000"
zfill_nothing = refl

pub fill_of_two : fill_of (Some (codes "--")) ≡ None
fill_of_two = refl

-- `"a\tb".expandtabs(4)`
pub tab_of_four : expanded 4 (97 ∷ 9 ∷ 98 ∷ []) ≡ codes "a   b"
tab_of_four = refl

pub tab_of_none : expanded 0 (97 ∷ 9 ∷ 98 ∷ []) ≡ codes "ab"
tab_of_none = refl

-- `"abc\n\tb\r\tc".expandtabs(2)`: the column begins anew after LF and CR
pub tab_after_line_end : expanded 2 (97 ∷ 98 ∷ 99 ∷ 10 ∷ 9 ∷ 98 ∷ 13 ∷ 9 ∷ 99 ∷ [])
    ≡ 97 ∷ 98 ∷ 99 ∷ 10 ∷ 32 ∷ 32 ∷ 98 ∷ 13 ∷ 32 ∷ 32 ∷ 99 ∷ []
tab_after_line_end = refl

-- a tab at a multiple gives a whole size
pub tab_at_multiple : expanded 2 (97 ∷ 98 ∷ 9 ∷ []) ≡ codes "ab  "
tab_at_multiple = refl

pub strip_white : trim (is_one_of None) (codes " a b ") ≡ codes "a b"
strip_white = refl

pub strip_named : trim (is_one_of (Some (codes "xy"))) (codes "xyaxbyx") ≡ codes "axb"
strip_named = refl

pub strip_left : trim_start (is_one_of (Some (codes "x"))) (codes "xax") ≡ codes "ax"
strip_left = refl

pub strip_right : trim_end (is_one_of (Some (codes "x"))) (codes "xax") ≡ codes "xa"
strip_right = refl

pub printable_empty : isprintable [] ≡ true
printable_empty = refl

pub bytes_row : bytes_repr (0x61 ∷ 0xFF ∷ []) ≡ codes "b'a\\xff'"
bytes_row = refl

pub codec_names : names_utf8 (Some (codes "UtF-8")) ≡ true
unfolding encode
codec_names = refl

pub codec_other : names_utf8 (Some (codes "latin-1")) ≡ false
unfolding encode
codec_other = refl
