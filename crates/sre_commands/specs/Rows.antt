-- Worked rows, which compute.
use Rattle.std.specs.Prelude.{◌≡◌, refl, ℕ, true, List, [], ◌∷◌, codes}
use Rattle.std.proofs.Math.Utf8.{encode}
use Rattle.hex.specs.Hex.{encode_with}
use Rattle.sre_code.specs.PlainTree.{PlainTree, lit, group, branch, look, nothing, ◌then◌, only, ◌or◌}
use Rattle.sre_match.specs.Matches.{first_allowed, next_within, spans_of, spans}
use Rattle.sre_match.specs.Rows.{a_or_ab, empty_star, star}
use Rattle.sre_commands.specs.Commands.Sub.Filling.{Replacement, fill, result_of}
use Rattle.sre_commands.specs.Tokens.Text.{token}

pub token_of_a : token (codes "a") ≡ codes "t61"
unfolding encode_with encode
token_of_a = refl

pub token_of_nothing : token [] ≡ codes "t"
unfolding encode_with
token_of_nothing = refl

-- a code point past 127 has two bytes
pub token_of_accent : token (233 ∷ []) ≡ codes "tc3a9"
unfolding encode_with encode
token_of_accent = refl

-- a replacement without groups
abbrev pub text : List ℕ → Replacement
text xs = record { head = xs; pairs = [] }

-- `<`, group 1, `>`
abbrev pub in_brackets : Replacement
in_brackets = record { head = codes "<"; pairs = (1, codes ">") ∷ [] }

-- `(a)x|a`
abbrev pub abandoned : PlainTree
abandoned =
    branch ((group 1 (lit 97 then nothing) then lit 120 then nothing) or only (lit 97 then nothing))
    then nothing

abbrev pub empty_or_a : PlainTree
empty_or_a = branch (nothing or only (lit 97 then nothing)) then nothing

-- `(?<=a)b`
abbrev pub b_after_a : PlainTree
b_after_a = look true 1 (lit 97 then nothing) then lit 98 then nothing

pub star_row : result_of (codes "abxd") (spans (star 120) (codes "abxd") 0 0) (text (codes "-"))
    ≡ codes "-a-b--d-"
unfolding next_within spans_of first_allowed
star_row = refl

pub first_alternative_row :
    result_of (codes "ab") (spans a_or_ab (codes "ab") 0 0) (text (codes "X")) ≡ codes "Xb"
unfolding next_within spans_of first_allowed
first_alternative_row = refl

-- the mark of the abandoned alternative is gone
pub abandoned_row : result_of (codes "a") (spans abandoned (codes "a") 0 0) in_brackets ≡ codes "<>"
unfolding next_within spans_of first_allowed
abandoned_row = refl

pub empty_star_row : result_of (codes "ab") (spans empty_star (codes "ab") 0 0) (text (codes "-"))
    ≡ codes "-a-b-"
unfolding next_within spans_of first_allowed
empty_star_row = refl

-- an empty match is passed over only where the one before ended
pub empty_or_a_row : result_of (codes "a") (spans empty_or_a (codes "a") 0 0) (text (codes "-"))
    ≡ codes "---"
unfolding next_within spans_of first_allowed
empty_or_a_row = refl

pub lookbehind_row :
    result_of (codes "abbb") (spans b_after_a (codes "abbb") 0 0) (text (codes "X")) ≡ codes "aXbb"
unfolding next_within spans_of first_allowed
lookbehind_row = refl

-- `<`, group 1, `|`, group 2, `>`
abbrev pub two_groups : Replacement
two_groups = record { head = codes "<"; pairs = (1, codes "|") ∷ (2, codes ">") ∷ [] }

-- group 2 is unset
pub filled : fill two_groups (codes "abc")
    (record { start = 0; stop = 3; marks = record { group = 1; start = 1; stop = 2 } ∷ [] })
    ≡ codes "<b|>"
filled = refl
