-- A pool's entries: keys as texts, and a look-up by bytes.
use Rattle.std.proofs.Common.{◌≡◌, ℕ, ◌+◌, false, List, [], ◌∷◌, ◌++◌, length, refl, ap, suc, sym, ◌∙◌, nat_eq, nat_lt, position, String, Option, Some, None, cond, not, is_some, subst}
use Rattle.std.specs.String.{string_bytes}
use Rattle.std.specs.Str.{chars, IsUtf8, bytes_eq, encode_utf8_all}
use Rattle.std.specs.Cmp.Lexicographic.{pointwise, bytes_decides}
use Rattle.std.specs.Map.{keys_of, values_of}
use Rattle.std.specs.List.{position_or_len}
use Rattle.std.proofs.lemmas.Bool.Decides.{same_from_decides, Decides-like}
use Rattle.std.proofs.lemmas.Slice.Eq.{bytes_eq-Decides}
use Rattle.std.proofs.lemmas.Str.{IsUtf8-string_bytes, encodes-chars}
use Rattle.indexmap.specs.IndexMap.{IndexMap, get, insert_entry}
use Rattle.indexmap.proofs.CallerLemmas.{insert_entry-new}
use Rattle.indexmap.proofs.MapLemmas.{some_index}
use Rattle.py_intern.specs.Pool.{KeysAreTexts, ArePooled, AreDistinct, place_of}
use Rattle.py_intern.proofs.ListLemmas.{distinct_pushed}

-- bytes of two texts are equal just where their code points are
same_by_points : (a b : List ℕ) → IsUtf8 a → IsUtf8 b → bytes_eq a b ≡ pointwise nat_eq (chars a) (chars b)
same_by_points a b u v =
    same_from_decides (bytes_eq a b) (pointwise nat_eq (chars a) (chars b)) (bytes_eq-Decides a b)
    (Decides-like (pointwise nat_eq (chars a) (chars b)) (λ e. sym (encodes-chars a u) ∙ ap encode_utf8_all e ∙ encodes-chars b v) (λ e. ap chars e) (bytes_decides (chars a) (chars b)))

test_same : {Z : Type 0} (text : List ℕ) (k : String Z) (v : List ℕ) → IsUtf8 text → chars (string_bytes k) ≡ v → bytes_eq text (string_bytes k) ≡ pointwise nat_eq (chars text) v
test_same text k v u h = same_by_points text (string_bytes k) u (IsUtf8-string_bytes k) ∙ ap (λ w. pointwise nat_eq (chars text) w) h

first_same : {Z : Type 0} (text : List ℕ) (es : List (String Z × List ℕ)) → IsUtf8 text → KeysAreTexts es → position_or_len (λ k. bytes_eq text (string_bytes k)) (keys_of es) ≡ position_or_len (pointwise nat_eq (chars text)) (values_of es)
first_same text [] u h = refl
first_same {Z = Z} text (e ∷ es) u h =
    let t = test_same text e.0 e.1 u h.0 in
    let i = first_same text es u h.1 in
    λ j. cond (not (t j)) (1 + i j) 0

keys_length : {Z : Type 0} (es : List (String Z × List ℕ)) → length (keys_of es) ≡ length (values_of es)
keys_length [] = refl
keys_length (e ∷ es) = ap suc (keys_length es)

pub values_length : {Z : Type 0} (es : List (String Z × List ℕ)) → length es ≡ length (values_of es)
values_length [] = refl
values_length (e ∷ es) = ap suc (values_length es)

-- a look-up by bytes finds the place of the text
pub place_same : {Z : Type 0} (text : List ℕ) (es : List (String Z × List ℕ)) → IsUtf8 text → KeysAreTexts es → position (λ k. bytes_eq text (string_bytes k)) (keys_of es) ≡ place_of (chars text) (values_of es)
place_same text es u h = λ j. cond (nat_lt (first_same text es u h j) (keys_length es j)) (Some (first_same text es u h j)) None

pub values_pushed : {Z : Type 0} (es : List (String Z × List ℕ)) (k : String Z) (v : List ℕ) → values_of (es ++ (k, v) ∷ []) ≡ values_of es ++ v ∷ []
values_pushed [] k v = refl
values_pushed (e ∷ es) k v = ap (λ ts. e.1 ∷ ts) (values_pushed es k v)

keys_pushed : {Z : Type 0} (es : List (String Z × List ℕ)) (k : String Z) (v : List ℕ) → KeysAreTexts es → chars (string_bytes k) ≡ v → KeysAreTexts (es ++ (k, v) ∷ [])
keys_pushed [] k v h e = (e, tt)
keys_pushed (x ∷ es) k v h e = (h.0, keys_pushed es k v h.1 e)

none_by : {A : Type 0} (o : Option A) → false ≡ is_some o → o ≡ None
none_by None h = refl
none_by (Some a) h = absurd (cc)

-- a text that is not there goes last
pub new_last : {Z S : Type 0} (m : IndexMap (String Z) (List ℕ) S) (key : String Z) (text : List ℕ) → KeysAreTexts m.entries → chars (string_bytes key) ≡ text → place_of text (values_of m.entries) ≡ None → insert_entry (λ a b. bytes_eq (string_bytes a) (string_bytes b)) m.entries key text ≡ m.entries ++ (key, text) ∷ []
new_last m key text h e none =
    let found : position (λ k. bytes_eq (string_bytes key) (string_bytes k)) (keys_of m.entries) ≡ None =
    place_same (string_bytes key) m.entries (IsUtf8-string_bytes key) h ∙ ap (λ t. place_of t (values_of m.entries)) e ∙ none in
    insert_entry-new (λ a b. bytes_eq (string_bytes a) (string_bytes b)) m key text
    (none_by (get (λ a b. bytes_eq (string_bytes a) (string_bytes b)) m key) (sym (ap is_some found) ∙ some_index (λ k. bytes_eq (string_bytes key) (string_bytes k)) m.entries))

-- and the entries are a pool's still
pub pooled_pushed : {Z : Type 0} (es : List (String Z × List ℕ)) (k : String Z) (text : List ℕ) → ArePooled es → chars (string_bytes k) ≡ text → place_of text (values_of es) ≡ None → ArePooled (es ++ (k, text) ∷ [])
pooled_pushed es k text h e none = record {
  keys = keys_pushed es k text h.keys e;
  distinct = subst AreDistinct (sym (values_pushed es k text)) (distinct_pushed text (values_of es) h.distinct none);
}
