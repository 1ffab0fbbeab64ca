-- What is wrong with a pattern that has a tree, and which fault is answered.
use Rattle.std.specs.Prelude.{ℕ, ◌+◌, ◌==◌, ◌&&◌, ◌||◌, not, nat_le, nat_lt, nat_eq, Bool, true, false, List, [], ◌∷◌, ◌++◌, Option, Some, None, if◌then◌else◌}
use Rattle.std.specs.List.{list_any, list_all}
use lib.Pointwise.{pointwise}
use Rattle.py_base.specs.Chars.Classes.{is_id_start, is_id_continue}
use Rattle.re_tree.specs.declared.fault.Fault.{Fault}
use Rattle.re_tree.specs.declared.fault.FaultKind.{FaultKind}
use Rattle.re_tree.specs.declared.fault.FaultKind.TheVariants.{TooDeep, TooManyGroups, BadName, BadCount, BadReference, NotFixedWidth}
use Rattle.re_tree.specs.declared.limits.TheConstants.{MAX_PARENTHESES, MAX_GROUPS, MAX_COUNT, MAX_WIDTH}
use Rattle.re_tree.specs.PlainText.{GroupName, numbered, named, PlainText, PlainTexts, unit, anchor, reference, conditional, conditional_else, sequence, alternation, counted, capture, plain, atomic_text, look_text, done, ◌also◌, Names, name_of, names_of, all_names, find_name, captures}
use Rattle.re_tree.specs.Tokens.{Opening, capturing, non_capturing, atomic_opening, look_opening, conditional_opening}
use Rattle.re_tree.specs.Widths.{width}

abbrev pub rank : FaultKind → ℕ
rank TooDeep = 0
rank TooManyGroups = 1
rank BadName = 2
rank BadCount = 3
rank BadReference = 4
rank NotFixedWidth = 5

abbrev pub only_if : Bool → ℕ → FaultKind → List Fault
only_if true at kind = record { at = at; kind = kind } ∷ []
only_if false at kind = []

-- where a part is: inside how many parentheses, after which names, and after the ends of which
-- groups
pub record Where : Type 0 where
  pub depth : ℕ
  pub names : Names
  pub closed : List ℕ

abbrev pub outermost : Where
outermost = record { depth = 0; names = []; closed = [] }

abbrev pub has_number : ℕ → List ℕ → Bool
has_number n ns = list_any (λ k. k == n) ns

abbrev pub has_name : Names → List ℕ → Bool
has_name names name = list_any (λ x. pointwise nat_eq x.0 name) names

-- a name is an identifier of Python
abbrev pub is_identifier : List ℕ → Bool
is_identifier [] = false
is_identifier (c ∷ cs) = is_id_start c && list_all is_id_continue cs

-- the numbers of the groups of a part, in the order in which they end
abbrev mutual
  pub numbers_of : PlainText → List ℕ
  numbers_of (conditional at id met) = numbers_of met
  numbers_of (conditional_else at id met other) = numbers_of met ++ numbers_of other
  numbers_of (sequence parts) = all_numbers parts
  numbers_of (alternation branches) = all_numbers branches
  numbers_of (counted at least most mode body) = numbers_of body
  numbers_of (capture at number name body) = numbers_of body ++ number ∷ []
  numbers_of (plain at body) = numbers_of body
  numbers_of (atomic_text at body) = numbers_of body
  numbers_of (look_text at positive back body) = numbers_of body
  numbers_of _ = []

  pub all_numbers : PlainTexts → List ℕ
  all_numbers done = []
  all_numbers (r also rs) = numbers_of r ++ all_numbers rs

-- the name that an opening begins, with the number of its group
abbrev pub names_at : ℕ → Opening → Names
names_at number (capturing name) = name_of name number
names_at number _ = []

-- inside an opening
abbrev pub inside : Where → ℕ → Opening → Where
inside w number opening = record { depth = w.depth + 1; names = w.names ++ names_at number opening; closed = w.closed }

-- after a part
abbrev pub after : Where → PlainText → Where
after w r = record { depth = w.depth; names = w.names ++ names_of r; closed = w.closed ++ numbers_of r }

abbrev pub after_all : Where → PlainTexts → Where
after_all w rs = record { depth = w.depth; names = w.names ++ all_names rs; closed = w.closed ++ all_numbers rs }

-- a group of this number or name has ended
abbrev pub is_closed : Where → GroupName → Bool
is_closed w (numbered n) = has_number n w.closed
is_closed w (named name) = has_number (find_name w.names name) w.closed

-- a parenthesis inside too many others
abbrev pub deep : Where → ℕ → List Fault
deep w at = only_if (nat_le MAX_PARENTHESES w.depth) at TooDeep

-- a back reference: `(?P=name)` begins with a parenthesis, and `\1` does not
abbrev pub at_reference : Where → ℕ → GroupName → List Fault
at_reference w at (numbered n) = only_if (not (is_closed w (numbered n))) at BadReference
at_reference w at (named name) = deep w at ++ (only_if (not (is_identifier name)) at BadName ++ only_if (not (is_closed w (named name))) at BadReference)

-- an opening, where a group that it begins has this number; the number of a conditional is tested
-- at the end of the pattern
abbrev pub of_opening : Where → ℕ → ℕ → Opening → List Fault
of_opening w at number (capturing None) = only_if (nat_lt MAX_GROUPS number) at TooManyGroups
of_opening w at number (capturing (Some name)) = only_if (nat_lt MAX_GROUPS number) at TooManyGroups ++ only_if (not (is_identifier name) || has_name w.names name) at BadName
of_opening w at number (conditional_opening (named name)) = only_if (not (is_identifier name)) at BadName ++ only_if (not (has_name w.names name)) at BadReference
of_opening w at number _ = []

abbrev pub at_opening : Where → ℕ → ℕ → Opening → List Fault
at_opening w at number opening = deep w at ++ of_opening w at number opening

abbrev pub is_bad_count : ℕ → Option ℕ → Bool
is_bad_count least None = nat_lt MAX_COUNT least
is_bad_count least (Some most) = nat_lt MAX_COUNT least || nat_lt MAX_COUNT most || nat_lt most least

abbrev pub at_count : ℕ → ℕ → Option ℕ → List Fault
at_count at least most = only_if (is_bad_count least most) at BadCount

-- no width, or one that no code word holds
abbrev pub is_wide : Option ℕ → Bool
is_wide None = true
is_wide (Some k) = nat_lt MAX_WIDTH k

-- the end of a part, whose body has this width
abbrev pub at_close : ℕ → Opening → Option ℕ → List Fault
at_close at (look_opening positive true) w = only_if (is_wide w) at NotFixedWidth
at_close at _ w = []

-- the faults of a part, in the order in which they are seen
abbrev mutual
  pub faults : Where → PlainText → List Fault
  faults w (unit test) = []
  faults w (anchor k) = []
  faults w (reference at id) = at_reference w at id
  faults w (conditional at id met) = at_opening w at 0 (conditional_opening id) ++ faults (inside w 0 (conditional_opening id)) met
  faults w (conditional_else at id met other) =
      at_opening w at 0 (conditional_opening id) ++ (faults (inside w 0 (conditional_opening id)) met ++ faults (after (inside w 0 (conditional_opening id)) met) other)
  faults w (sequence parts) = faults_in_turn w parts
  faults w (alternation branches) = faults_in_turn w branches
  faults w (counted at least most mode body) = faults w body ++ at_count at least most
  faults w (capture at number name body) = at_opening w at number (capturing name) ++ faults (inside w number (capturing name)) body
  faults w (plain at body) = at_opening w at 0 non_capturing ++ faults (inside w 0 non_capturing) body
  faults w (atomic_text at body) = at_opening w at 0 atomic_opening ++ faults (inside w 0 atomic_opening) body
  faults w (look_text at positive back body) =
      at_opening w at 0 (look_opening positive back) ++ (faults (inside w 0 (look_opening positive back)) body ++ at_close at (look_opening positive back) (width body))

  pub faults_in_turn : Where → PlainTexts → List Fault
  faults_in_turn w done = []
  faults_in_turn w (r also rs) = faults w r ++ faults_in_turn (after w r) rs

-- the conditionals by number: their places and numbers
abbrev pub conditional_of : ℕ → GroupName → List (ℕ × ℕ)
conditional_of at (numbered n) = (at, n) ∷ []
conditional_of at (named name) = []

abbrev mutual
  pub conditionals : PlainText → List (ℕ × ℕ)
  conditionals (conditional at id met) = conditional_of at id ++ conditionals met
  conditionals (conditional_else at id met other) = conditional_of at id ++ (conditionals met ++ conditionals other)
  conditionals (sequence parts) = all_conditionals parts
  conditionals (alternation branches) = all_conditionals branches
  conditionals (counted at least most mode body) = conditionals body
  conditionals (capture at number name body) = conditionals body
  conditionals (plain at body) = conditionals body
  conditionals (atomic_text at body) = conditionals body
  conditionals (look_text at positive back body) = conditionals body
  conditionals _ = []

  pub all_conditionals : PlainTexts → List (ℕ × ℕ)
  all_conditionals done = []
  all_conditionals (r also rs) = conditionals r ++ all_conditionals rs

-- where the pattern has so many groups in all: a number that is 0 or past them
abbrev pub is_past : ℕ → ℕ → Bool
is_past all number = number == 0 || nat_lt all number

abbrev pub conditional_faults : ℕ → List (ℕ × ℕ) → List Fault
conditional_faults all [] = []
conditional_faults all (x ∷ xs) = only_if (is_past all x.1) x.0 BadReference ++ conditional_faults all xs

-- one comes before another where its place is less, or at one place its kind
abbrev pub is_before : Fault → Fault → Bool
is_before a b = nat_lt a.at b.at || (a.at == b.at && nat_lt (rank a.kind) (rank b.kind))

abbrev pub the_first : Fault → Option Fault → Option Fault
the_first a None = Some a
the_first a (Some b) = if is_before b a then Some b else Some a

abbrev pub first_of : List Fault → Option Fault
first_of [] = None
first_of (a ∷ rest) = the_first a (first_of rest)

-- all faults of a pattern with this tree
abbrev pub all_faults : PlainText → List Fault
all_faults r = faults outermost r ++ conditional_faults (captures r) (conditionals r)

-- the one that is answered
abbrev pub fault_of : PlainText → Option Fault
fault_of r = first_of (all_faults r)

-- what is found in a pattern: nothing where it has no tree, and else its first fault, if it has one
abbrev pub Diagnosis : Type 0
Diagnosis = Option (Option Fault)

abbrev pub diagnosis_of : Option PlainText → Diagnosis
diagnosis_of None = None
diagnosis_of (Some r) = Some (fault_of r)
