-- Worked rows, which compute.
use Rattle.std.specs.Prelude.{◌≡◌, refl, ℕ, zero, suc, true, false, List, [], ◌∷◌, ◌++◌, codes, Option, Some, None}
use Rattle.re_tree.specs.declared.tree.CountMode.TheVariants.{Greedy, Lazy, Possessive}
use Rattle.re_tree.specs.declared.unit.UnitItem.TheVariants.{Category, Span, Literal}
use Rattle.re_tree.specs.PlainText.{literal, dot, set, numbered, named, PlainText, unit, anchor, reference, sequence, alternation, counted, capture, plain, look_text, conditional, conditional_else, done, ◌also◌}
use Rattle.ucd_derived.specs.Binary.{is_xid_start, is_xid_continue}
use Rattle.ucd_derived.specs.XidStartRanges.{xid_start_ranges}
use Rattle.ucd_derived.specs.XidContinueRanges.{xid_continue_ranges}
use Rattle.ucd_table.specs.Rows.{in_ranges}
use Rattle.re_tree.specs.Grammar.{Flags}
use Rattle.re_tree.specs.Machine.{read_tree}
use Rattle.re_tree.specs.declared.fault.Fault.{Fault}
use Rattle.re_tree.specs.declared.fault.FaultKind.TheVariants.{TooDeep, TooManyGroups, BadName, BadCount, BadReference, NotFixedWidth}
use Rattle.re_tree.specs.declared.fault.FaultKind.{FaultKind}
use Rattle.re_tree.specs.Faults.{diagnosis_of}

abbrev plainly : Flags
plainly = record { ascii = false; multiline = false; dotall = false }

abbrev l : ℕ → PlainText
l c = unit (literal c)

pub branches_row : read_tree plainly (codes "(a|b)*c") ≡ Some (sequence (counted 5 0 None Greedy (capture 0 1 None (alternation (sequence (l 97 also done) also sequence (l 98 also done) also done))) also l 99 also done))
branches_row = refl

-- a count is no atom, and an anchor takes none
pub two_counts_row : read_tree plainly (codes "a**") ≡ None
two_counts_row = refl

pub place_count_row : read_tree plainly (codes "^*") ≡ None
place_count_row = refl

-- a `{` that begins no count
pub brace_row : read_tree plainly (codes "a{2,x{,3}") ≡ Some (sequence (l 97 also l 123 also l 50 also l 44 also counted 5 0 (Some 3) Greedy (l 120) also done))
brace_row = refl

pub exact_row : read_tree plainly (codes "a{02}+") ≡ Some (sequence (counted 1 2 (Some 2) Possessive (l 97) also done))
exact_row = refl

-- group 12, and then an 8
pub reference_row : read_tree plainly (codes "\\128") ≡ Some (sequence (reference 0 (numbered 12) also l 56 also done))
reference_row = refl

-- three octal digits
pub octal_row : read_tree plainly (codes "\\127") ≡ None
octal_row = refl

pub name_row : read_tree plainly (codes "(?P<n>\\d)(?P=n)") ≡ Some (sequence (capture 0 1 (Some (codes "n")) (sequence (unit (set false (Category 10 ∷ [])) also done)) also reference 9 (named (codes "n")) also done))
name_row = refl

pub conditional_row : read_tree plainly (codes "(?(1)a|b)") ≡ Some (sequence (conditional_else 0 (numbered 1) (sequence (l 97 also done)) (sequence (l 98 also done)) also done))
conditional_row = refl

-- a conditional has at most two branches
pub three_branches_row : read_tree plainly (codes "(?(1)a|b|c)") ≡ None
three_branches_row = refl

pub empty_row : read_tree plainly (codes "") ≡ Some (sequence done)
empty_row = refl

pub open_row : read_tree plainly (codes "(a") ≡ None
open_row = refl

-- what is said of a pattern by its tree
abbrev says : List ℕ → Option (Option Fault)
says text = diagnosis_of (read_tree plainly text)

abbrev answers : ℕ → FaultKind → Option (Option Fault)
answers at kind = Some (Some (record { at = at; kind = kind }))

-- nothing is wrong
abbrev good : Option (Option Fault)
good = Some None

-- a back reference before its group, and inside it
pub early_row : says (codes "\\1(a)") ≡ answers 0 BadReference
early_row = refl

pub inside_row : says (codes "(a\\1)") ≡ answers 2 BadReference
inside_row = refl

pub missing_row : says (codes "(a)\\2") ≡ answers 3 BadReference
missing_row = refl

pub closed_row : says (codes "(a)\\1") ≡ good
closed_row = refl

-- a name is tested before the group that it names
pub no_name_row : says (codes "(?P=1a)") ≡ answers 0 BadName
unfolding is_xid_start is_xid_continue in_ranges xid_start_ranges xid_continue_ranges
no_name_row = refl

pub unknown_row : says (codes "(?P=n)(?P<n>a)") ≡ answers 0 BadReference
unfolding is_xid_start is_xid_continue in_ranges xid_start_ranges xid_continue_ranges
unknown_row = refl

-- a conditional by number may come before its group, and by name it may not; both may be inside it
pub ahead_row : says (codes "(?(1)a)(b)") ≡ good
ahead_row = refl

pub name_ahead_row : says (codes "(?(n)a)(?P<n>b)") ≡ answers 0 BadReference
unfolding is_xid_start is_xid_continue in_ranges xid_start_ranges xid_continue_ranges
name_ahead_row = refl

pub name_inside_row : says (codes "(?P<n>(?(n)a|b))") ≡ good
unfolding is_xid_start is_xid_continue in_ranges xid_start_ranges xid_continue_ranges
name_inside_row = refl

pub zero_row : says (codes "(a)(?(0)b)") ≡ answers 3 BadReference
zero_row = refl

pub past_row : says (codes "(?(2)a)(b)") ≡ answers 0 BadReference
past_row = refl

-- names
pub digit_row : says (codes "a(?P<1a>b)") ≡ answers 1 BadName
unfolding is_xid_start is_xid_continue in_ranges xid_start_ranges xid_continue_ranges
digit_row = refl

pub empty_name_row : says (codes "(?P<>b)") ≡ answers 0 BadName
empty_name_row = refl

pub twice_row : says (codes "(?P<n>a)(?P<n>b)") ≡ answers 8 BadName
unfolding is_xid_start is_xid_continue in_ranges xid_start_ranges xid_continue_ranges
twice_row = refl

-- counts
pub crossed_row : says (codes "a{3,2}\\1") ≡ answers 1 BadCount
crossed_row = refl

pub greatest_row : says (codes "a{4294967294}") ≡ good
greatest_row = refl

pub past_greatest_row : says (codes "a{4294967295}") ≡ answers 1 BadCount
past_greatest_row = refl

pub most_row : says (codes "a{,4294967295}") ≡ answers 1 BadCount
most_row = refl

-- lookbehinds
pub width_row : says (codes "(?<=a|bc)x") ≡ answers 0 NotFixedWidth
width_row = refl

pub star_row : says (codes "(?<!a*)b") ≡ answers 0 NotFixedWidth
star_row = refl

pub copied_row : says (codes "(a)(?<=\\1)b") ≡ answers 3 NotFixedWidth
copied_row = refl

pub wide_row : says (codes "(?<=a{4294967294}a)b") ≡ good
wide_row = refl

pub too_wide_row : says (codes "(?<=a{4294967294}aa)b") ≡ answers 0 NotFixedWidth
too_wide_row = refl

-- a lookbehind is seen at its end, and its place is that of its beginning
pub least_row : says (codes "((?<=\\2)(a))") ≡ answers 1 NotFixedWidth
least_row = refl

-- widths are exact, whatever becomes of them, and a count that is too great has one
pub uneven_row : says (codes "(?<=(?:a{5000000000}|a{5000000001}){0})") ≡ answers 0 NotFixedWidth
uneven_row = refl

pub even_row : says (codes "(?<=(?:a{5000000000}|a{5000000000}){0})") ≡ answers 8 BadCount
even_row = refl

-- the grammar comes before every fault
pub grammar_row : says (codes "\\1a{3,2}**") ≡ None
grammar_row = refl

-- k parentheses inside one another, with a pattern inside
abbrev nested : ℕ → List ℕ → List ℕ
nested zero text = text
nested (suc k) text = 40 ∷ (nested k text ++ 41 ∷ [])

pub deep_row : says (nested 60 (codes "a")) ≡ good
deep_row = refl

pub too_deep_row : says (nested 60 (codes "(?P<1>a)")) ≡ answers 60 TooDeep
unfolding is_xid_start is_xid_continue in_ranges xid_start_ranges xid_continue_ranges
too_deep_row = refl

-- `(?P=` begins with a parenthesis, and `\\1` does not
pub deep_name_row : says (nested 60 (codes "(?P=1)")) ≡ answers 60 TooDeep
unfolding is_xid_start is_xid_continue in_ranges xid_start_ranges xid_continue_ranges
deep_name_row = refl

pub deep_number_row : says (nested 60 (codes "\\1")) ≡ answers 60 BadReference
deep_number_row = refl

-- the second parenthesis of a conditional does not count
pub deep_choice_row : says (nested 59 (codes "(?(1)a)")) ≡ good
deep_choice_row = refl

-- `[]-a^]`: a `]` that comes first begins a range, and a `^` that does not come first is itself
pub set_row : read_tree plainly (codes "[]-a^]") ≡ Some (sequence (unit (set false (Span 93 97 ∷ Literal 94 ∷ [])) also done))
set_row = refl

pub negated_row : read_tree plainly (codes "[^\\d-]") ≡ Some (sequence (unit (set true (Category 10 ∷ Literal 45 ∷ [])) also done))
negated_row = refl

pub hex_row : read_tree plainly (codes "\\x41[\\u0062-c]") ≡ Some (sequence (l 65 also unit (set false (Span 98 99 ∷ [])) also done))
hex_row = refl

-- a `-` in the middle is no character
pub dash_row : read_tree plainly (codes "[a-b-c]") ≡ None
dash_row = refl
