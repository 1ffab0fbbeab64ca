-- A stack machine from tokens to trees.
use Rattle.std.specs.Prelude.{ℕ, ◌+◌, Bool, true, false, List, [], ◌∷◌, ◌++◌, length, Option, Some, None, if◌then◌else◌}
use Rattle.re_tree.specs.PlainText.{PlainText, PlainTexts, unit, anchor, reference, conditional, conditional_else, sequence, alternation, counted, capture, plain, atomic_text, look_text, done, ◌also◌}
use Rattle.re_tree.specs.Tokens.{Opening, capturing, non_capturing, atomic_opening, look_opening, conditional_opening, Token, unit_token, anchor_token, reference_token, count_token, open_token, bar, close}
use Rattle.re_tree.specs.Grammar.{is_countable, Flags}
use Rattle.re_tree.specs.Reading.{all_tokens}

abbrev pub snoc : PlainTexts → PlainText → PlainTexts
snoc done q = q also done
snoc (r also rs) q = r also snoc rs q

-- what was open around an opening, and the number of a group that it begins
pub data Frame : Type 0 where
  frame : (at : ℕ) (opening : Opening) (number : ℕ) (branches pieces : PlainTexts) → Frame

-- the groups so far, what is open, and the branches and the pieces of the innermost
pub data State : Type 0 where
  state : (groups : ℕ) (outer : List Frame) (branches pieces : PlainTexts) → State

abbrev pub groups_begun : Opening → ℕ
groups_begun (capturing name) = 1
groups_begun _ = 0

abbrev pub put_first : PlainText → Option PlainTexts → Option PlainTexts
put_first r None = None
put_first r (Some rs) = Some (r also rs)

abbrev pub one_if : Bool → PlainText → Option PlainTexts
one_if true r = Some (r also done)
one_if false r = None

-- the last piece under a count, where it may have one
abbrev pub count_last : (PlainText → PlainText) → PlainTexts → Option PlainTexts
count_last f done = None
count_last f (r also done) = one_if (is_countable r) (f r)
count_last f (r also q also rs) = put_first r (count_last f (q also rs))

abbrev pub regex_of : PlainTexts → PlainTexts → PlainText
regex_of done pieces = sequence pieces
regex_of (r also rs) pieces = alternation (snoc (r also rs) (sequence pieces))

-- what an opening with its branches is; a conditional has at most two
abbrev pub part_of : Opening → ℕ → ℕ → PlainTexts → PlainTexts → Option PlainText
part_of (capturing name) at number branches pieces = Some (capture at number name (regex_of branches pieces))
part_of non_capturing at number branches pieces = Some (plain at (regex_of branches pieces))
part_of atomic_opening at number branches pieces = Some (atomic_text at (regex_of branches pieces))
part_of (look_opening positive back) at number branches pieces = Some (look_text at positive back (regex_of branches pieces))
part_of (conditional_opening id) at number done pieces = Some (conditional at id (sequence pieces))
part_of (conditional_opening id) at number (r also done) pieces = Some (conditional_else at id r (sequence pieces))
part_of (conditional_opening id) at number (r also q also rs) pieces = None

abbrev pub counted_state : ℕ → List Frame → PlainTexts → Option PlainTexts → Option State
counted_state g outer branches None = None
counted_state g outer branches (Some pieces) = Some (state g outer branches pieces)

abbrev pub closed_state : ℕ → List Frame → PlainTexts → PlainTexts → Option PlainText → Option State
closed_state g outer branches pieces None = None
closed_state g outer branches pieces (Some r) = Some (state g outer branches (snoc pieces r))

abbrev pub close_frame : ℕ → List Frame → PlainTexts → PlainTexts → Option State
close_frame g [] branches pieces = None
close_frame g (frame at opening number around before ∷ outer) branches pieces =
    closed_state g outer around before (part_of opening at number branches pieces)

abbrev pub step : State → Token → Option State
step (state g outer branches pieces) (unit_token test) = Some (state g outer branches (snoc pieces (unit test)))
step (state g outer branches pieces) (anchor_token k) = Some (state g outer branches (snoc pieces (anchor k)))
step (state g outer branches pieces) (reference_token at id) = Some (state g outer branches (snoc pieces (reference at id)))
step (state g outer branches pieces) (count_token at least most mode) =
    counted_state g outer branches (count_last (counted at least most mode) pieces)
step (state g outer branches pieces) (open_token at opening) =
    Some (state (g + groups_begun opening) (frame at opening (g + 1) branches pieces ∷ outer) done done)
step (state g outer branches pieces) bar = Some (state g outer (snoc branches (sequence pieces)) done)
step (state g outer branches pieces) close = close_frame g outer branches pieces

abbrev pub step_on : Option State → Token → Option State
step_on None t = None
step_on (Some s) t = step s t

abbrev pub run_on : Option State → List Token → Option State
run_on o [] = o
run_on o (t ∷ ts) = run_on (step_on o t) ts

abbrev pub run : State → List Token → Option State
run s ts = run_on (Some s) ts

-- where nothing is open any more
abbrev pub finish : Option State → Option PlainText
finish None = None
finish (Some (state g [] branches pieces)) = Some (regex_of branches pieces)
finish (Some (state g (f ∷ outer) branches pieces)) = None

abbrev pub tree_of_tokens : List Token → Option PlainText
tree_of_tokens ts = finish (run (state 0 [] done done) ts)

abbrev pub tree_of_all : Option (List Token) → Option PlainText
tree_of_all None = None
tree_of_all (Some ts) = tree_of_tokens ts

-- the tree of a pattern, or none
abbrev pub read_tree : Flags → List ℕ → Option PlainText
read_tree flags text = tree_of_all (all_tokens flags (length text) (length text) text)
