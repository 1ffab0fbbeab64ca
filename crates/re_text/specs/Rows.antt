-- Worked rows, which compute.
use Rattle.std.specs.Prelude.{◌≡◌, refl, ◌+◌, true, false, [], ◌∷◌, codes, Some, None}
use Rattle.re_tree.specs.declared.tree.CountMode.TheVariants.{Greedy, Lazy, Possessive}
use Rattle.re_tree.specs.PlainText.{literal, PlainText, unit, reference, numbered, sequence, alternation, counted, capture, plain, look_text, conditional, done, ◌also◌}
use Rattle.re_text.specs.Outcomes.{outcomes}
use Rattle.re_tree.specs.Widths.{width}
use Rattle.re_text.specs.Laws.{passes}
use Rattle.re_text.specs.Trees.{tree_of_text}
use Rattle.sre_match.specs.Paths.{paths}
use Rattle.re_tree.specs.declared.anchors.TheConstants as here
use Rattle.re_tree.specs.declared.limits.TheConstants as limit
use Rattle.sre_code.specs.declared.opcodes.TheConstants as code

abbrev a : PlainText
a = unit (literal 97)

-- `a*`
abbrev a_star : PlainText
a_star = counted 1 0 None Greedy a

-- `(a|ab)`
abbrev a_or_ab : PlainText
a_or_ab = capture 0 1 None (alternation (sequence (a also done) also sequence (a also unit (literal 98) also done) also done))

pub star_row : outcomes 5 [] a_star (codes "aab") 0 [] ≡ (2, []) ∷ (1, []) ∷ (0, []) ∷ []
star_row = refl

pub lazy_row : outcomes 5 [] (counted 1 1 (Some 2) Lazy a) (codes "aab") 0 [] ≡ (1, []) ∷ (2, []) ∷ []
lazy_row = refl

pub possessive_row : outcomes 5 [] (counted 1 0 None Possessive a) (codes "aab") 0 [] ≡ (2, []) ∷ []
possessive_row = refl

pub group_row : outcomes 4 [] a_or_ab (codes "ab") 0 [] ≡ (1, record { group = 1; start = 0; stop = 1 } ∷ []) ∷ (2, record { group = 1; start = 0; stop = 2 } ∷ []) ∷ []
group_row = refl

-- `(?:)*` at a place: one empty time, and then no more
pub empty_row : outcomes 4 [] (counted 1 0 None Greedy (plain 0 (sequence done))) (codes "ab") 0 [] ≡ (0, []) ∷ (0, []) ∷ []
empty_row = refl

-- `(?<=a)` after the a
pub behind_row : outcomes 4 [] (look_text 0 true true (sequence (a also done))) (codes "ab") 1 [] ≡ (1, []) ∷ []
behind_row = refl

-- `(?<!a)` after the a, and before it
pub not_behind_row : outcomes 4 [] (look_text 0 false true (sequence (a also done))) (codes "ab") 1 [] ≡ []
not_behind_row = refl

pub not_behind_start_row : outcomes 4 [] (look_text 0 false true (sequence (a also done))) (codes "ab") 0 [] ≡ (0, []) ∷ []
not_behind_start_row = refl

-- `(a)\1` and `a(?(1)b)`
pub copy_row : outcomes 4 [] (sequence (capture 0 1 None a also reference 3 (numbered 1) also done)) (codes "aa") 0 [] ≡ (2, record { group = 1; start = 0; stop = 1 } ∷ []) ∷ []
copy_row = refl

pub unset_row : outcomes 4 [] (sequence (a also conditional 1 (numbered 1) (unit (literal 98)) also done)) (codes "ab") 0 [] ≡ (1, []) ∷ []
unset_row = refl

-- `(?<=a|bc)` has no width, and `(?<=ab|bc)` has one of 2
pub no_width_row : width (alternation (sequence (a also done) also sequence (a also a also done) also done)) ≡ None
no_width_row = refl

pub width_row : width (alternation (sequence (a also a also done) also counted 0 2 (Some 2) Greedy a also done)) ≡ Some 2
width_row = refl

-- the tree's attempts pass alike
pub tree_row : passes (paths (tree_of_text [] a_or_ab) (codes "ab") 0 []) ≡ outcomes 4 [] a_or_ab (codes "ab") 0 []
tree_row = refl

-- the numbers of anchors and the limits of a pattern are those of a code
pub anchors_row :
    (here.AT_BEGINNING ∷ here.AT_BEGINNING_LINE ∷ here.AT_BOUNDARY
    ∷ here.AT_NON_BOUNDARY ∷ here.AT_END ∷ here.AT_END_LINE ∷ here.AT_END_STRING
    ∷ here.AT_UNI_BOUNDARY ∷ here.AT_UNI_NON_BOUNDARY ∷ [])
    ≡ (code.AT_BEGINNING ∷ code.AT_BEGINNING_LINE ∷ code.AT_BOUNDARY
    ∷ code.AT_NON_BOUNDARY ∷ code.AT_END ∷ code.AT_END_LINE ∷ code.AT_END_STRING
    ∷ code.AT_UNI_BOUNDARY ∷ code.AT_UNI_NON_BOUNDARY ∷ [])
anchors_row = refl

pub groups_row : limit.MAX_GROUPS ≡ code.MAXGROUPS
groups_row = refl

pub counts_row : limit.MAX_COUNT + 1 ≡ code.MAXREPEAT
counts_row = refl
