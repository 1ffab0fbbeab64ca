-- The names of groups, with one more, and a look-up by the bytes of a name.
use Rattle.std.proofs.Common.{◌≡◌, refl, sym, ◌∙◌, ap, ℕ, zero, suc, ◌<◌, ◌≤◌, length, slice_get, slice_index_or, arith, Bool, true, false, List, [], ◌∷◌, ◌++◌, nat_eq, ◌||◌, String, Option, Some, None, cond, is_some, unwrap_or}
use Rattle.std.specs.String.{string_bytes}
use Rattle.std.specs.Str.{chars, IsUtf8, bytes_eq, encode_utf8_all}
use Rattle.std.specs.Cmp.Lexicographic.{pointwise, bytes_decides}
use Rattle.std.specs.Map.{lookup}
use Rattle.std.proofs.lemmas.Bool.Decides.{same_from_decides, Decides-like}
use Rattle.std.proofs.lemmas.Slice.Eq.{bytes_eq-Decides}
use Rattle.std.proofs.lemmas.Str.{IsUtf8-string_bytes, encodes-chars}
use Rattle.indexmap.specs.IndexMap.{IndexMap, insert_entry}
use Rattle.indexmap.proofs.CallerLemmas.{insert_entry-new}
use Rattle.re_tree.specs.PlainText.{Names, find_name}
use Rattle.re_tree.specs.Faults.{has_name}
use Rattle.re_parse.specs.declared.group_names.Named.{Named}
use Rattle.re_parse.specs.GroupNames.{names_in, number_in, number_under, number_or, AreFirstNumbers, HasAlso}

-- the name and the number at a place
pub names_none : (xs : List Named) (i : ℕ) → length xs ≤ i → slice_get (names_in xs) i ≡ None
names_none [] i h = refl
names_none (x ∷ xs) zero h = absurd (omega arith)
names_none (x ∷ xs) (suc i) h = names_none xs i (omega arith)

pub names_some : (xs : List Named) (i : ℕ) (x : Named) → i < length xs → x ≡ slice_index_or xs i x → slice_get (names_in xs) i ≡ Some (x.name, x.number)
names_some [] i x h is = absurd (omega arith)
names_some (y ∷ xs) zero x h is = ap (λ (z : Named). Some (z.name, z.number)) (sym is)
names_some (y ∷ xs) (suc i) x h is = names_some xs i x (omega arith) is

pub names_push : (xs : List Named) (x : Named) → names_in (xs ++ x ∷ []) ≡ names_in xs ++ (x.name, x.number) ∷ []
names_push [] x = refl
names_push (y ∷ xs) x = ap (λ l. (y.name, y.number) ∷ l) (names_push xs x)

-- what is found by the number of a name
has_by : (b h : Bool) (m : ℕ) (o : Option ℕ) → is_some o ≡ h → is_some (cond b (Some m) o) ≡ (b || h)
has_by true h m o e = refl
has_by false h m o e = e

pub has_is : (names : Names) (name : List ℕ) → is_some (number_in names name) ≡ has_name names name
has_is [] name = refl
has_is (x ∷ names) name = has_by (pointwise nat_eq x.0 name) (has_name names name) x.1 (number_in names name) (has_is names name)

find_by : (b : Bool) (m k : ℕ) (o : Option ℕ) → unwrap_or o 0 ≡ k → unwrap_or (cond b (Some m) o) 0 ≡ cond b m k
find_by true m k o e = refl
find_by false m k o e = e

pub find_is : (names : Names) (name : List ℕ) → unwrap_or (number_in names name) 0 ≡ find_name names name
find_is [] name = refl
find_is (x ∷ names) name = find_by (pointwise nat_eq x.0 name) x.1 (find_name names name) (number_in names name) (find_is names name)

-- with one name more
or_first : (b : Bool) (m number : ℕ) (o p : Option ℕ) (name text : List ℕ) → p ≡ number_or o name number text → cond b (Some m) p ≡ number_or (cond b (Some m) o) name number text
or_first true m number o p name text e = refl
or_first false m number o p name text e = e

pub number_pushed : (names : Names) (name : List ℕ) (number : ℕ) (text : List ℕ) → number_in (names ++ (name, number) ∷ []) text ≡ number_or (number_in names text) name number text
number_pushed [] name number text = refl
number_pushed (x ∷ names) name number text =
    or_first (pointwise nat_eq x.0 text) x.1 number (number_in names text) (number_in (names ++ (name, number) ∷ []) text) name text (number_pushed names name number text)

pub entry_pushed : {Z : Type 0} (es : List (String Z × ℕ)) (key : String Z) (number : ℕ) (text : List ℕ)
    → number_under (es ++ (key, number) ∷ []) text ≡ number_or (number_under es text) (chars (string_bytes key)) number text
entry_pushed [] key number text = refl
entry_pushed (e ∷ es) key number text =
    or_first (pointwise nat_eq (chars (string_bytes e.0)) text) e.1 number (number_under es text) (number_under (es ++ (key, number) ∷ []) text) (chars (string_bytes key)) text
    (entry_pushed es key number text)

-- a name that is there already changes no number
no_other : (b : Bool) (f : List ℕ → Option ℕ) (name text : List ℕ) (m number : ℕ) → f name ≡ Some m → f text ≡ None → (b ≡ true → name ≡ text) → cond b (Some number) None ≡ None
no_other false f name text m number e n h = refl
no_other true f name text m number e n h = let g : Some m ≡ None = sym e ∙ ap f (h refl) ∙ n in let x : ⊥ = cc g in absurd x

stays_by : (o : Option ℕ) (f : List ℕ → Option ℕ) (name text : List ℕ) (m number : ℕ) → f name ≡ Some m → f text ≡ o → number_or o name number text ≡ o
stays_by (Some n) f name text m number e h = refl
stays_by None f name text m number e h = no_other (pointwise nat_eq name text) f name text m number e h (bytes_decides name text).0

pub known_also : {Z : Type 0} (es : List (String Z × ℕ)) (name : List ℕ) (m number : ℕ) → number_under es name ≡ Some m → HasAlso name number es es
known_also es name m number e = λ text. sym (stays_by (number_under es text) (number_under es) name text m number e refl)

-- the entries have the first number of each name still
pub pushed_first : {Z : Type 0} (es longer : List (String Z × ℕ)) (names : Names) (name : List ℕ) (number : ℕ) → AreFirstNumbers es names → HasAlso name number es longer → AreFirstNumbers longer (names ++ (name, number) ∷ [])
pushed_first es longer names name number h k = λ text. k text ∙ ap (λ o. number_or o name number text) (h text) ∙ sym (number_pushed names name number text)

-- a look-up by bytes
same_turned : (a b : List ℕ) → IsUtf8 a → IsUtf8 b → bytes_eq a b ≡ pointwise nat_eq (chars b) (chars a)
same_turned a b u v =
    same_from_decides (bytes_eq a b) (pointwise nat_eq (chars b) (chars a)) (bytes_eq-Decides a b)
    (Decides-like (pointwise nat_eq (chars b) (chars a)) (λ e. sym (sym (encodes-chars b v) ∙ ap encode_utf8_all e ∙ encodes-chars a u)) (λ e. ap chars (sym e)) (bytes_decides (chars b) (chars a)))

pub found_under : {Z : Type 0} (text : List ℕ) (es : List (String Z × ℕ)) → IsUtf8 text → lookup (λ k. bytes_eq text (string_bytes k)) es ≡ number_under es (chars text)
found_under text [] u = refl
found_under {Z = Z} text (e ∷ es) u =
    let t : bytes_eq text (string_bytes e.0) ≡ pointwise nat_eq (chars (string_bytes e.0)) (chars text) = same_turned text (string_bytes e.0) u (IsUtf8-string_bytes e.0) in
    let i = found_under text es u in
    λ j. cond (t j) (Some e.1) (i j)

-- a name that no entry has is put last
none_found : {Z : Type 0} (es : List (String Z × ℕ)) (key : String Z) (name : List ℕ) → chars (string_bytes key) ≡ name → number_under es name ≡ None → lookup (λ k. bytes_eq (string_bytes key) (string_bytes k)) es ≡ None
none_found es key name e n = found_under (string_bytes key) es (IsUtf8-string_bytes key) ∙ ap (number_under es) e ∙ n

pub put_last : {Z S : Type 0} (m : IndexMap (String Z) ℕ S) (key : String Z) (name : List ℕ) (number : ℕ) (longer : List (String Z × ℕ)) → chars (string_bytes key) ≡ name → number_under m.entries name ≡ None
    → longer ≡ insert_entry (λ a b. bytes_eq (string_bytes a) (string_bytes b)) m.entries key number → HasAlso name number m.entries longer
put_last m key name number longer e n i = λ text.
    ap (λ es. number_under es text) (i ∙ insert_entry-new (λ a b. bytes_eq (string_bytes a) (string_bytes b)) m key number (none_found m.entries key name e n))
    ∙ entry_pushed m.entries key number text ∙ ap (λ k. number_or (number_under m.entries text) k number text) e
