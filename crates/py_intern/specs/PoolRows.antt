-- Rows of pools: "a", "b" and "a" again, and their texts as values.
use Rattle.std.specs.Prelude.{◌≡◌, ℕ, List, [], ◌∷◌, Some, None, refl}
use Rattle.py_value.specs.Plain.{str, none}
use Rattle.py_intern.specs.Pool.{place_of, place_in, put}
use Rattle.py_intern.specs.Values.{place_of_value, value_at}

abbrev a : List ℕ
a = 97 ∷ []

abbrev b : List ℕ
b = 98 ∷ []

first_place : place_in a [] ≡ 0
first_place = refl

second_place : place_in b (put a []) ≡ 1
second_place = refl

same_place : place_in a (put b (put a [])) ≡ 0
same_place = refl

no_third_text : put a (put b (put a [])) ≡ a ∷ b ∷ []
no_third_text = refl

found : place_of b (a ∷ b ∷ []) ≡ Some 1
found = refl

not_found : place_of (99 ∷ []) (a ∷ b ∷ []) ≡ None
not_found = refl

text_found : place_of_value (str b) (a ∷ b ∷ []) ≡ Some 1
text_found = refl

no_text_not_found : place_of_value none (a ∷ b ∷ []) ≡ None
no_text_not_found = refl

value_there : value_at 1 (a ∷ b ∷ []) ≡ Some (str b)
value_there = refl
