-- Worked rows of slices, sums and iterators, which compute.
use Rattle.std.specs.Prelude.{◌≡◌, refl, pos, negsuc, [], ◌∷◌, codes, Some, None}
use Rattle.py_text.specs.Sums.{times}
use Rattle.py_text.specs.Affixes.{without_prefix}
use Rattle.py_text.specs.Iterator.{moved_to, rest_of}
use Rattle.py_text.specs.Subscript.{item_of, places_of, slice_of}
use Rattle.py_text.specs.Strides.{every}

-- "abc"[::-1]
pub backwards : slice_of (codes "abc") None None (negsuc 0) ≡ codes "cba"
backwards = refl

-- "abcde"[-4:-1:2]
pub counted_from_the_end :
    slice_of (codes "abcde") (Some (negsuc 3)) (Some (negsuc 0)) (pos 2) ≡ codes "bd"
counted_from_the_end = refl

-- "abcde"[9:-9:-2]
pub cut_to_the_text :
    places_of 5 (Some (pos 9)) (Some (negsuc 8)) (negsuc 1) ≡ pos 4 ∷ pos 2 ∷ pos 0 ∷ []
cut_to_the_text = refl

-- "abc"[3:-1:-1] stops before the last place
pub stops_past_the_last : slice_of (codes "abc") (Some (pos 3)) (Some (negsuc 0)) (negsuc 0) ≡ []
stops_past_the_last = refl

pub every_second : every 2 (codes "hello") ≡ codes "hlo"
every_second = refl

-- "ab"[-2] and "ab"[-3]
pub first_from_the_end : item_of (codes "ab") (negsuc 1) ≡ Some 97
first_from_the_end = refl

pub before_the_first : item_of (codes "ab") (negsuc 2) ≡ None
before_the_first = refl

pub three_times : times (pos 3) (codes "ab") ≡ codes "ababab"
three_times = refl

pub without_what_it_begins_with : without_prefix (codes "ab") (codes "abab") ≡ codes "ab"
without_what_it_begins_with = refl

pub put_past_the_end :
    rest_of (moved_to (pos 9) (Some (record { text = codes "ab"; place = 1 }))) ≡ []
put_past_the_end = refl
