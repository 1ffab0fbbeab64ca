-- Worked rows of attempts, paths and spans, which compute.
use Rattle.std.specs.Prelude.{◌≡◌, refl, ℕ, true, false, [], ◌∷◌, codes, Some}
use Rattle.std.proofs.Math.Utf8.{encode}
use Rattle.sre_code.specs.declared.set.SetItem.TheVariants.{Bits, Span as RangeItem}
use Rattle.sre_code.specs.declared.tree.RepeatKind.TheVariants.{Lazy, Possessive}
use Rattle.sre_code.specs.declared.opcodes.TheConstants.{AT_UNI_BOUNDARY, AT_UNI_NON_BOUNDARY, MAXREPEAT}
use Rattle.sre_code.specs.PlainTree.{PlainTree, any_all, lit, repeat, look, nothing, ◌then◌}
use Rattle.sre_match.specs.Anchors.{is_at_anchor}
use Rattle.sre_match.specs.Attempts.{Next, failed, passed, after, cut, negated, span_of}
use Rattle.sre_match.specs.Cursor.{fits_text}
use Rattle.sre_match.specs.Matches.{Span, any_end, first_allowed, next_within, next_span, reads, reads_within, next_reads, spans_of, spans}
use Rattle.sre_match.specs.Members.{is_member}
use Rattle.sre_match.specs.Paths.{paths}
use Rattle.sre_match.specs.Rows.{a_or_ab, empty_star, star}
use Rattle.sre_match.specs.Search.{start_of, start_after}

-- a span without captures
abbrev pub from_to : ℕ → ℕ → Span
from_to start stop = record { start = start; stop = stop; marks = [] }

-- `a` and any unit
abbrev pub a_any : PlainTree
a_any = lit 97 then any_all then nothing

-- `a*?` and `a*+`
abbrev pub lazy_star : PlainTree
lazy_star = repeat Lazy true 0 MAXREPEAT (lit 97 then nothing) then nothing

abbrev pub possessive_star : PlainTree
possessive_star = repeat Possessive true 0 MAXREPEAT (lit 97 then nothing) then nothing

-- `(?!b)`
abbrev pub no_b : PlainTree
no_b = look false 0 (lit 98 then nothing) then nothing

-- one attempt that fails and one that passes
abbrev pub fails_then_passes : Next
fails_then_passes p m = failed 1 ∷ passed 1 2 [] ∷ []

pub after_row : after (failed 1 ∷ passed 1 1 [] ∷ []) fails_then_passes
    ≡ failed 1 ∷ failed 2 ∷ passed 1 2 [] ∷ []
after_row = refl

pub cut_row : cut (failed 1 ∷ passed 2 2 [] ∷ passed 1 1 [] ∷ []) ≡ failed 1 ∷ passed 2 2 [] ∷ []
cut_row = refl

pub negated_row : negated 3 [] (failed 1 ∷ passed 2 5 [] ∷ []) ≡ failed 1 ∷ failed 2 ∷ []
negated_row = refl

pub not_negated_row : negated 3 [] (failed 1 ∷ []) ≡ failed 1 ∷ passed 0 3 [] ∷ []
not_negated_row = refl

-- the last capture of a group counts
pub last_capture :
    span_of (record { group = 1; start = 0; stop = 1 }
    ∷ record { group = 1; start = 1; stop = 2 } ∷ []) 1 ≡ Some (1, 2)
last_capture = refl

pub two_units : paths a_any (codes "abac") 0 [] ≡ passed 2 2 [] ∷ []
two_units = refl

pub no_unit : paths a_any (codes "ba") 0 [] ≡ failed 1 ∷ []
no_unit = refl

pub both_alternatives : paths a_or_ab (codes "ab") 0 [] ≡ passed 1 1 [] ∷ passed 2 2 [] ∷ []
both_alternatives = refl

pub greedy_paths : paths (star 97) (codes "aa") 0 []
    ≡ failed 3 ∷ passed 0 2 [] ∷ passed 0 1 [] ∷ passed 0 0 [] ∷ []
greedy_paths = refl

pub lazy_paths : paths lazy_star (codes "aa") 0 []
    ≡ passed 0 0 [] ∷ passed 1 1 [] ∷ passed 1 2 [] ∷ failed 1 ∷ []
lazy_paths = refl

pub possessive_paths : paths possessive_star (codes "aa") 0 [] ≡ failed 3 ∷ passed 0 2 [] ∷ []
possessive_paths = refl

-- one optional iteration, and none
pub empty_body_paths : paths empty_star (codes "ab") 0 [] ≡ passed 0 0 [] ∷ passed 0 0 [] ∷ []
empty_body_paths = refl

pub negative_lookahead_passes : paths no_b (codes "ab") 0 [] ≡ failed 1 ∷ passed 0 0 [] ∷ []
negative_lookahead_passes = refl

pub negative_lookahead_fails : paths no_b (codes "ab") 1 [] ≡ failed 1 ∷ []
negative_lookahead_fails = refl

pub first_of_two : first_allowed a_or_ab (codes "ab") 0 (any_end false) ≡ Some (1, [])
unfolding first_allowed
first_of_two = refl

pub first_whole : first_allowed a_or_ab (codes "ab") 0 (record { advance = false; whole = true })
    ≡ Some (2, [])
unfolding first_allowed
first_whole = refl

pub next_from_the_start : next_span a_any (codes "abac") 0 (any_end false) ≡ Some (from_to 0 2)
unfolding next_within first_allowed
next_from_the_start = refl

pub next_from_two : next_span a_any (codes "abac") 2 (any_end false) ≡ Some (from_to 2 4)
unfolding next_within first_allowed
next_from_two = refl

-- one read at each place
pub reads_of_next : next_reads (lit 97 then nothing) (codes "bba") 0 (any_end false) ≡ 3
unfolding reads_within reads first_allowed
reads_of_next = refl

pub two_spans : spans (lit 97 then nothing) (codes "aaa") 0 2 ≡ from_to 0 1 ∷ from_to 1 2 ∷ []
unfolding next_within spans_of first_allowed
two_spans = refl

pub empty_spans : spans (star 120) (codes "abxd") 0 0
    ≡ from_to 0 0 ∷ from_to 1 1 ∷ from_to 2 3 ∷ from_to 3 3 ∷ from_to 4 4 ∷ []
unfolding next_within spans_of first_allowed
empty_spans = refl

-- `é` has two bytes
pub after_two_bytes : fits_text (233 ∷ 97 ∷ []) (record { place = 1; offset = 2 }) ≡ true
unfolding encode
after_two_bytes = refl

pub past_the_subject : start_of (codes "aab") 2 1 ≡ 2
past_the_subject = refl

pub after_an_empty_span : start_after (Some (from_to 0 0)) (record { place = 0; advance = false })
    ≡ record { place = 0; advance = true }
after_an_empty_span = refl

pub within_range : is_member (RangeItem 97 99 ∷ []) 98 ≡ true
within_range = refl

pub past_range : is_member (RangeItem 97 99 ∷ []) 100 ≡ false
past_range = refl

pub empty_range : is_member (RangeItem 99 97 ∷ []) 98 ≡ false
empty_range = refl

-- 42 is bit 10 of word 1
pub bit_set : is_member (Bits (0 ∷ 1024 ∷ 0 ∷ 0 ∷ 0 ∷ 0 ∷ 0 ∷ 0 ∷ []) ∷ []) 42 ≡ true
bit_set = refl

pub bit_not_set : is_member (Bits (0 ∷ 1024 ∷ 0 ∷ 0 ∷ 0 ∷ 0 ∷ 0 ∷ 0 ∷ []) ∷ []) 43 ≡ false
bit_not_set = refl

-- the empty subject has no boundary, and so its complement
pub no_boundary : is_at_anchor AT_UNI_BOUNDARY [] 0 ≡ false
no_boundary = refl

pub complement_of_boundary : is_at_anchor AT_UNI_NON_BOUNDARY [] 0 ≡ true
complement_of_boundary = refl
