-- Pattern trees without where they lie in memory.
use Rattle.std.specs.Prelude.{ℕ, zero, suc, Bool, true, false, nat_eq, ◌+◌, List, [], ◌∷◌, ◌++◌, Option, Some, None, if◌then◌else◌}
use lib.Pointwise.{pointwise}
use Rattle.re_tree.specs.declared.tree.CountMode.{CountMode}
use Rattle.re_tree.specs.declared.unit.UnitItem.{UnitItem}

-- what a unit is tested for; `dot` is any but a line feed
pub data PlainTest : Type 0 where
  dot : PlainTest
  dot_all : PlainTest
  literal : (c : ℕ) → PlainTest
  set : (negated : Bool) (items : List UnitItem) → PlainTest

-- how a pattern names a group
pub data GroupName : Type 0 where
  numbered : (n : ℕ) → GroupName
  named : (name : List ℕ) → GroupName

infixr 20 ◌also◌
-- A part that has a place in the pattern has it first. A branch is a sequence, a regex its
-- one branch or an alternation.
mutual
  pub data PlainText : Type 0 where
    unit : (test : PlainTest) → PlainText
    anchor : (k : ℕ) → PlainText
    reference : (at : ℕ) (id : GroupName) → PlainText
    conditional : (at : ℕ) (id : GroupName) (met : PlainText) → PlainText
    conditional_else : (at : ℕ) (id : GroupName) (met other : PlainText) → PlainText
    sequence : (parts : PlainTexts) → PlainText
    alternation : (branches : PlainTexts) → PlainText
    counted : (at least : ℕ) (most : Option ℕ) (mode : CountMode) (body : PlainText) → PlainText
    capture : (at number : ℕ) (name : Option (List ℕ)) (body : PlainText) → PlainText
    plain : (at : ℕ) (body : PlainText) → PlainText
    atomic_text : (at : ℕ) (body : PlainText) → PlainText
    look_text : (at : ℕ) (positive back : Bool) (body : PlainText) → PlainText

  pub data PlainTexts : Type 0 where
    done : PlainTexts
    ◌also◌ : PlainText → PlainTexts → PlainTexts

-- how many parts there are, and the one at a place
abbrev pub part_count : PlainTexts → ℕ
part_count done = 0
part_count (r also rs) = part_count rs + 1

abbrev pub part_at : PlainTexts → ℕ → Option PlainText
part_at done i = None
part_at (r also rs) zero = Some r
part_at (r also rs) (suc i) = part_at rs i

-- the named groups with their numbers, in the order of the pattern
abbrev pub Names : Type 0
Names = List (List ℕ × ℕ)

abbrev pub name_of : Option (List ℕ) → ℕ → Names
name_of None n = []
name_of (Some name) n = (name, n) ∷ []

abbrev mutual
  pub names_of : PlainText → Names
  names_of (conditional at id met) = names_of met
  names_of (conditional_else at id met other) = names_of met ++ names_of other
  names_of (sequence parts) = all_names parts
  names_of (alternation branches) = all_names branches
  names_of (counted at least most mode body) = names_of body
  names_of (capture at number name body) = name_of name number ++ names_of body
  names_of (plain at body) = names_of body
  names_of (atomic_text at body) = names_of body
  names_of (look_text at positive back body) = names_of body
  names_of _ = []

  pub all_names : PlainTexts → Names
  all_names done = []
  all_names (r also rs) = names_of r ++ all_names rs

-- how many groups a pattern captures
abbrev mutual
  pub captures : PlainText → ℕ
  captures (conditional at id met) = captures met
  captures (conditional_else at id met other) = captures met + captures other
  captures (sequence parts) = all_captures parts
  captures (alternation branches) = all_captures branches
  captures (counted at least most mode body) = captures body
  captures (capture at number name body) = captures body + 1
  captures (plain at body) = captures body
  captures (atomic_text at body) = captures body
  captures (look_text at positive back body) = captures body
  captures _ = 0

  pub all_captures : PlainTexts → ℕ
  all_captures done = 0
  all_captures (r also rs) = captures r + all_captures rs

-- the number of the first group of a name, or 0 where there is none
abbrev pub find_name : Names → List ℕ → ℕ
find_name [] name = 0
find_name (x ∷ names) name = if pointwise nat_eq x.0 name then x.1 else find_name names name

abbrev pub number_of : Names → GroupName → ℕ
number_of names (numbered n) = n
number_of names (named name) = find_name names name
