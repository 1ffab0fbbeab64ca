-- Worked rows of searches and splits, which compute.
use Rattle.std.specs.Prelude.{◌≡◌, refl, false, [], ◌∷◌, codes, Some, None, pos, negsuc}
use Rattle.py_text.specs.Search.{find, rfind, count}
use Rattle.py_text.specs.Pieces.{rsplit}
use Rattle.py_text.specs.Replacing.{replace}
use Rattle.py_text.specs.Whitespace.{split_whitespace, rsplit_whitespace}
use Rattle.py_text.specs.Lines.{split_lines}

-- `"aéé".find("é", -1)`
pub find_from_the_end : find (233 ∷ []) (97 ∷ 233 ∷ 233 ∷ []) (Some (negsuc 0)) None ≡ Some 2
find_from_the_end = refl

pub rfind_from_the_end : rfind (233 ∷ []) (97 ∷ 233 ∷ 233 ∷ []) (Some (negsuc 0)) None ≡ Some 2
rfind_from_the_end = refl

-- `"aéé".count("", 4)`: the window begins past the end
pub count_past_the_end : count [] (97 ∷ 233 ∷ 233 ∷ []) (Some (pos 4)) None ≡ 0
count_past_the_end = refl

pub count_of_nothing : count [] (97 ∷ 233 ∷ 233 ∷ []) None None ≡ 4
count_of_nothing = refl

pub count_without_overlap : count (codes "aa") (codes "aaaaa") None None ≡ 2
count_without_overlap = refl

-- `"a,b,c".rsplit(",", 1)`
pub rsplit_once : rsplit 1 (codes ",") (codes "a,b,c") ≡ codes "a,b" ∷ codes "c" ∷ []
rsplit_once = refl

-- `" a  b ".split(None, 1)`: the last piece keeps its whitespace
pub words_once : split_whitespace 1 (codes " a  b ") ≡ codes "a" ∷ codes "b " ∷ []
words_once = refl

pub rwords_once : rsplit_whitespace 1 (codes " a  b ") ≡ codes " a" ∷ codes "b" ∷ []
rwords_once = refl

-- `"a\r\nb\u{b}c".splitlines()`
pub lines_of_three :
    split_lines false (97 ∷ 13 ∷ 10 ∷ 98 ∷ 11 ∷ 99 ∷ []) ≡ codes "a" ∷ codes "b" ∷ codes "c" ∷ []
lines_of_three = refl

-- `"ab".replace("", "-")`
pub nothing_replaced : replace 3 [] (codes "-") (codes "ab") ≡ codes "-a-b-"
nothing_replaced = refl
