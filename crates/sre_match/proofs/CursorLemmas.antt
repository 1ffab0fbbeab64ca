-- Cursors that fit a list.
use Rattle.std.proofs.Common.{◌≡◌, ◌∙◌, sym, ap, refl, subst, ℕ, zero, suc, ◌+◌, ◌-◌, ◌*◌, ◌/◌, ◌%◌, ◌<◌, ◌≤◌, Bool, true, false, cond, ltb, ⊎_elim, List, [], ◌∷◌, ◌++◌, length, take, drop, arith, length-append, chars, encode_utf8, encode_utf8_all, Option, Some, None}
use Rattle.std.specs.Prelude.{slice_get, slice_index, slice_range}
use Rattle.std.specs.Option.{IsSome, MatchOption}
use Rattle.std.specs.Char.{len_utf8, IsScalar}
use Rattle.std.specs.Str.{IsUtf8, IsCharBoundary, all_scalars, continuation_len}
use Rattle.std.proofs.Math.Utf8.{encode, scalar_cases}
use Rattle.std.proofs.lemmas.Bool.{and_parts, and_from, ltb-true}
use Rattle.std.proofs.lemmas.Bool.Decides.{nat_tests}
use Rattle.std.proofs.lemmas.List.{take-append-drop, length-take-le, length-drop, drop_more, take_all}
use Rattle.std.proofs.lemmas.Str.{encodes-append, chars-encodes, scalars-chars, encodes-chars, chars-append, IsUtf8-encode, IsUtf8-take, IsCharBoundary-at_seam, length-encode, len_utf8_bounds, length-le-encodes, chars_past_char, chars-nil}
use Rattle.std.proofs.lemmas.List.{append-nil}
use Rattle.std.proofs.Math.Seq.{take-append_seam, drop-append_seam}
use Rattle.sre_match.specs.Cursor.{Cursor, fits_text}
use Rattle.sre_match.specs.CursorLemmas.{within_text, offset_is, fits_from}

one_scalar : (c : ℕ) → IsScalar c → chars (encode_utf8 c) ≡ c ∷ []
one_scalar c h = chars_past_char (encode_utf8 c) [] c (IsUtf8-encode c h) (sym (append-nil (encode_utf8 c))) ∙ ap (λ cs. c ∷ cs) chars-nil

-- code points of a text, and of its parts
scalars_prefix : (xs ys : List ℕ) → all_scalars (xs ++ ys) ≡ true → (all_scalars xs ≡ true) × (all_scalars ys ≡ true)
scalars_prefix [] ys h = (refl, h)
scalars_prefix (x ∷ xs) ys h =
    let p = and_parts _ _ h in
    let q = scalars_prefix xs ys p.1 in
    (and_from _ _ p.0 q.0, q.1)

-- the text in two parts at a place, and how many bytes the first one has
pub record Parts (u bs : List ℕ) (p o : ℕ) : Type 0 where
  pub inside : p ≤ length u
  pub offset : o ≡ length (encode_utf8_all (take p u))
  pub bytes : bs ≡ encode_utf8_all (take p u) ++ encode_utf8_all (drop p u)
  pub prefix : all_scalars (take p u) ≡ true
  pub following : all_scalars (drop p u) ≡ true

pub parts_at : (u bs : List ℕ) (c : Cursor) → fits_text u c ≡ true → IsUtf8 bs → bs ≡ encode_utf8_all u → chars bs ≡ u → Parts u bs c.place c.offset
parts_at u bs c h t e k =
    let all : all_scalars (take c.place u ++ drop c.place u) ≡ true = ap all_scalars (take-append-drop c.place u) ∙ subst (λ (v : List ℕ). all_scalars v ≡ true) k (scalars-chars bs t) in
    let both = scalars_prefix (take c.place u) (drop c.place u) all in
    record {
      inside = within_text u c h;
      offset = offset_is u c h;
      bytes = e ∙ ap encode_utf8_all (sym (take-append-drop c.place u)) ∙ encodes-append (take c.place u) (drop c.place u);
      prefix = both.0;
      following = both.1;
    }

utf8_of : (xs : List ℕ) → all_scalars xs ≡ true → IsUtf8 (encode_utf8_all xs)
utf8_of xs h = (xs, (h, refl))

-- the text may be cut there
pub boundary_at : (u bs : List ℕ) (p o : ℕ) → Parts u bs p o → IsCharBoundary bs o
boundary_at u bs p o w =
    subst (IsCharBoundary bs) (sym w.offset) (IsCharBoundary-at_seam bs (encode_utf8_all (take p u)) (encode_utf8_all (drop p u)) w.bytes (utf8_of (drop p u) w.following))

pub bytes_from : (u bs : List ℕ) (p o : ℕ) → Parts u bs p o → drop o bs ≡ encode_utf8_all (drop p u)
bytes_from u bs p o w = (λ i. drop (w.offset i) (w.bytes i)) ∙ drop-append_seam (encode_utf8_all (take p u)) (encode_utf8_all (drop p u))

pub bytes_to : (u bs : List ℕ) (p o : ℕ) → Parts u bs p o → take o bs ≡ encode_utf8_all (take p u)
bytes_to u bs p o w = (λ i. take (w.offset i) (w.bytes i)) ∙ take-append_seam (encode_utf8_all (take p u)) (encode_utf8_all (drop p u))

pub utf8_prefix : (u bs : List ℕ) (p o : ℕ) (prefix : List ℕ) → Parts u bs p o → prefix ≡ encode_utf8_all (take p u) → IsUtf8 prefix
utf8_prefix u bs p o prefix w e = subst IsUtf8 (sym e) (utf8_of (take p u) w.prefix)

pub to_start : (bs : List ℕ) (o : ℕ) → slice_range bs 0 o ≡ take o bs
to_start bs o = let e : o - 0 ≡ o = omega arith in ap (λ n. take n bs) e

pub chars_from : (u bs : List ℕ) (p o : ℕ) → Parts u bs p o → chars (drop o bs) ≡ drop p u
chars_from u bs p o w = ap chars (bytes_from u bs p o w) ∙ chars-encodes (drop p u) w.following

pub chars_to : (u bs : List ℕ) (p o : ℕ) → Parts u bs p o → chars (take o bs) ≡ take p u
chars_to u bs p o w = ap chars (bytes_to u bs p o w) ∙ chars-encodes (take p u) w.prefix

-- the first code point after the place
pub some_is : (c d : ℕ) → Some c ≡ Some d → c ≡ d
some_is c d e = cc

first_of : (u : List ℕ) (p : ℕ) → p < length u → slice_get (drop p u) 0 ≡ Some (slice_index u p)
first_of u p h = ap (λ (l : List ℕ). slice_get l 0) (drop_more u p 0 h)

pub first_is : (u rest : List ℕ) (p c : ℕ) → p < length u → chars rest ≡ drop p u → Some c ≡ slice_get (chars rest) 0 → c ≡ slice_index u p
first_is u rest p c h e k = some_is c (slice_index u p) (k ∙ ap (λ (l : List ℕ). slice_get l 0) e ∙ first_of u p h)

pub first_some : (u rest : List ℕ) (p : ℕ) (r : Option ℕ) → p < length u → chars rest ≡ drop p u → r ≡ slice_get (chars rest) 0 → r ≡ Some (slice_index u p)
first_some u rest p r h e k = k ∙ ap (λ (l : List ℕ). slice_get l 0) e ∙ first_of u p h

pub is_there : (r : Option ℕ) (x : ℕ) → r ≡ Some x → IsSome r
is_there None x e = absurd (cc)
is_there (Some y) x e = refl

pub not_empty : (xs : List ℕ) (P : Type 0) (Q : ℕ → Type 0) (r : Option ℕ) → MatchOption r ((length xs ≡ 0) × P) Q → 0 < length xs → IsSome r
not_empty xs P Q None h l = absurd (omega (arith, h.0, l))
not_empty xs P Q (Some y) h l = refl

pub prefix_long : (u prefix : List ℕ) (p : ℕ) → p ≤ length u → prefix ≡ encode_utf8_all (take p u) → p ≤ length prefix
prefix_long u prefix p h e = omega (arith, ap length e, length-le-encodes (take p u), length-take-le p u h)

-- the last one before it
last_of : (xs : List ℕ) (c : ℕ) → slice_index (xs ++ c ∷ []) (length xs) ≡ c
last_of [] c = refl
last_of (x ∷ xs) c = last_of xs c

index_take : (n p : ℕ) (u : List ℕ) → p < n → slice_index (take n u) p ≡ slice_index u p
index_take zero p u h = absurd (omega (arith, h))
index_take (suc n) p [] h = refl
index_take (suc n) zero (x ∷ u) h = refl
index_take (suc n) (suc p) (x ∷ u) h = index_take n p u (omega (arith, h))

front_is_utf8 : (bs rest : List ℕ) (c : ℕ) → IsScalar c → IsUtf8 bs → bs ≡ rest ++ encode_utf8 c → IsUtf8 rest
front_is_utf8 bs rest c s u e =
    let part : take (length rest) bs ≡ rest = ap (take (length rest)) e ∙ take-append_seam rest (encode_utf8 c) in
    subst IsUtf8 part (IsUtf8-take bs (length rest) u (IsCharBoundary-at_seam bs rest (encode_utf8 c) e (IsUtf8-encode c s)))

pub last_is : (u prefix rest : List ℕ) (p c : ℕ) → 0 < p → p ≤ length u → IsUtf8 prefix → chars prefix ≡ take p u → IsScalar c → prefix ≡ rest ++ encode_utf8 c → c ≡ slice_index u (p - 1)
last_is u prefix rest p c z h t e s k =
    let said : take p u ≡ chars rest ++ c ∷ [] = sym e ∙ ap chars k ∙ chars-append rest (encode_utf8 c) (front_is_utf8 prefix rest c s t k) ∙ ap (λ l. chars rest ++ l) (one_scalar c s) in
    let long : length (chars rest) ≡ p - 1 = omega (arith, ap length said, length-append (chars rest) (c ∷ []), length-take-le p u h) in
    sym (last_of (chars rest) c) ∙ ap (λ (l : List ℕ). slice_index l (length (chars rest))) (sym said) ∙ ap (slice_index (take p u)) long ∙ index_take p (p - 1) u (omega (arith, z))

-- one code point more
take_more : (u : List ℕ) (p : ℕ) → p < length u → take (p + 1) u ≡ take p u ++ slice_index u p ∷ []
take_more [] p h = absurd (omega (arith, h))
take_more (x ∷ u) zero h = refl
take_more (x ∷ u) (suc p) h = let e : suc p + 1 ≡ suc (p + 1) = omega arith in ap (λ n. take n (x ∷ u)) e ∙ ap (λ l. x ∷ l) (take_more u p (omega (arith, h)))

one_length : (c : ℕ) → length (encode_utf8_all (c ∷ [])) ≡ len_utf8 c
one_length c = omega (arith, length-append (encode_utf8 c) [], length-encode c)

pub width_is : (u : List ℕ) (p : ℕ) → p < length u → length (encode_utf8_all (take (p + 1) u)) ≡ length (encode_utf8_all (take p u)) + len_utf8 (slice_index u p)
width_is u p h =
    ap (λ l. length (encode_utf8_all l)) (take_more u p h)
    ∙ ap length (encodes-append (take p u) (slice_index u p ∷ []))
    ∙ omega (arith, length-append (encode_utf8_all (take p u)) (encode_utf8_all (slice_index u p ∷ [])), one_length (slice_index u p))

pub on_fits : (u : List ℕ) (c : Cursor) (x w : ℕ) → fits_text u c ≡ true → c.place < length u → x ≡ slice_index u c.place → w ≡ len_utf8 x → fits_text u (record { place = c.place + 1; offset = c.offset + w }) ≡ true
on_fits u c x w f h e k =
    fits_from u (record { place = c.place + 1; offset = c.offset + w }) (omega (arith, h)) (omega (arith, offset_is u c f, width_is u c.place h, k, ap len_utf8 e))

pub back_fits : (u : List ℕ) (c : Cursor) (x w : ℕ) → fits_text u c ≡ true → 0 < c.place → x ≡ slice_index u (c.place - 1) → w ≡ len_utf8 x → (w ≤ c.offset) × (fits_text u (record { place = c.place - 1; offset = c.offset - w }) ≡ true)
back_fits u c x w f h e k =
    let inside = within_text u c f in
    let one : c.place - 1 + 1 ≡ c.place = omega (arith, h) in
    let wide : length (encode_utf8_all (take c.place u)) ≡ length (encode_utf8_all (take (c.place - 1) u)) + len_utf8 (slice_index u (c.place - 1)) = ap (λ n. length (encode_utf8_all (take n u))) (sym one) ∙ width_is u (c.place - 1) (omega (arith, h, inside)) in (
      omega (arith, offset_is u c f, wide, k, ap len_utf8 e),
      fits_from u (record { place = c.place - 1; offset = c.offset - w }) (omega (arith, inside)) (omega (arith, offset_is u c f, wide, k, ap len_utf8 e)),
    )

take_none : (n : ℕ) → take n [] ≡ (let l : List ℕ = [] in l)
take_none zero = refl
take_none (suc n) = refl

take_split : (p q : ℕ) (u : List ℕ) → p ≤ q → take q u ≡ take p u ++ take (q - p) (drop p u)
take_split zero q u h = let e : q ≡ q - 0 = omega arith in ap (λ n. take n u) e
take_split (suc p) zero u h = absurd (omega (arith, h))
take_split (suc p) (suc q) [] h = sym (take_none (suc q - suc p))
take_split (suc p) (suc q) (x ∷ u) h =
    let e : q - p ≡ suc q - suc p = omega arith in
    ap (λ l. x ∷ l) (take_split p q u (omega (arith, h)) ∙ ap (λ n. take p u ++ take n (drop p u)) e)

-- the part between two places
pub part_is : (u bs : List ℕ) (p o q r : ℕ) → Parts u bs p o → Parts u bs q r → p ≤ q → (o ≤ r) × (chars (slice_range bs o r) ≡ slice_range u p q)
part_is u bs p o q r v w h =
    let part = take (q - p) (drop p u) in
    let rest = drop (q - p) (drop p u) in
    let all : all_scalars (part ++ rest) ≡ true = ap all_scalars (take-append-drop (q - p) (drop p u)) ∙ v.following in
    let good = (scalars_prefix part rest all).0 in
    let bytes : drop o bs ≡ encode_utf8_all part ++ encode_utf8_all rest = bytes_from u bs p o v ∙ ap encode_utf8_all (sym (take-append-drop (q - p) (drop p u))) ∙ encodes-append part rest in
    let long : length (encode_utf8_all (take q u)) ≡ length (encode_utf8_all (take p u)) + length (encode_utf8_all part) =
    ap (λ l. length (encode_utf8_all l)) (take_split p q u h) ∙ ap length (encodes-append (take p u) part) ∙ length-append (encode_utf8_all (take p u)) (encode_utf8_all part) in
    let wide : r - o ≡ length (encode_utf8_all part) = omega (arith, v.offset, w.offset, long) in (
      omega (arith, v.offset, w.offset, long),
      ap chars ((λ i. take (wide i) (bytes i)) ∙ take-append_seam (encode_utf8_all part) (encode_utf8_all rest)) ∙ chars-encodes part good,
    )

-- the parts of a text, by its bytes alone
pub parts : (bs : List ℕ) (c : Cursor) → fits_text (chars bs) c ≡ true → IsUtf8 bs → Parts (chars bs) bs c.place c.offset
parts bs c h t = parts_at (chars bs) bs c h t (sym (encodes-chars bs t)) refl

-- a text has at least as many bytes as code points, and as a cursor has before it
pub points_at_most : (bs : List ℕ) → IsUtf8 bs → length (chars bs) ≤ length bs
points_at_most bs t = omega (arith, length-le-encodes (chars bs), ap length (encodes-chars bs t))

pub offset_at_most : (u bs : List ℕ) (p o : ℕ) → Parts u bs p o → o ≤ length bs
offset_at_most u bs p o w = omega (arith, w.offset, ap length w.bytes, length-append (encode_utf8_all (take p u)) (encode_utf8_all (drop p u)))

-- the width of a code point is seen in its first byte
pub one_byte : (b : ℕ) → b < 128 → continuation_len b + 1 ≡ 1
one_byte b h = grind (arith, nat_tests)

pub two_bytes : (b : ℕ) → 128 ≤ b → b < 224 → continuation_len b + 1 ≡ 2
two_bytes b h k = grind (arith, nat_tests)

pub three_bytes : (b : ℕ) → 224 ≤ b → b < 240 → continuation_len b + 1 ≡ 3
three_bytes b h k = grind (arith, nat_tests)

pub four_bytes : (b : ℕ) → 240 ≤ b → continuation_len b + 1 ≡ 4
four_bytes b h = grind (arith, nat_tests)

by_width : (c : ℕ) (rest : List ℕ) (a b d : Bool) → ltb c 128 ≡ a → ltb c 2048 ≡ b → ltb c 65536 ≡ d → c < 1114112
    → continuation_len (slice_index (cond a (c ∷ []) (cond b ((192 + c / 64) ∷ (128 + c % 64) ∷ []) (cond d ((224 + c / 4096) ∷ (128 + (c / 64) % 64) ∷ (128 + c % 64) ∷ []) ((240 + c / 262144) ∷ (128 + (c / 4096) % 64) ∷ (128 + (c / 64) % 64) ∷ (128 + c % 64) ∷ []))) ++ rest) 0) + 1
    ≡ cond a 1 (cond b 2 (cond d 3 4))
by_width c rest true b d ea eb ed lt = one_byte c (ltb-true c 128 ea)
by_width c rest false true d ea eb ed lt = let h = ltb-true c 2048 eb in two_bytes (192 + c / 64) (omega arith) (omega arith)
by_width c rest false false true ea eb ed lt = let h = ltb-true c 65536 ed in three_bytes (224 + c / 4096) (omega arith) (omega arith)
by_width c rest false false false ea eb ed lt = four_bytes (240 + c / 262144) (omega arith)

width_first : (c : ℕ) (rest : List ℕ) → IsScalar c → continuation_len (slice_index (encode c ++ rest) 0) + 1 ≡ len_utf8 c
unfolding encode
width_first c rest e =
    let small : c < 1114112 = ⊎_elim (λ h. omega arith) (λ h. h.1) (scalar_cases c e) in
    by_width c rest (ltb c 128) (ltb c 2048) (ltb c 65536) refl refl refl small

index_drop : (o : ℕ) (bs : List ℕ) → slice_index bs o ≡ slice_index (drop o bs) 0
index_drop zero bs = refl
index_drop (suc o) [] = refl
index_drop (suc o) (b ∷ bs) = index_drop o bs

-- the code point at a place, and its bytes
bytes_there : (u bs : List ℕ) (p o : ℕ) → Parts u bs p o → p < length u → drop o bs ≡ encode_utf8 (slice_index u p) ++ encode_utf8_all (drop (p + 1) u)
bytes_there u bs p o w h = bytes_from u bs p o w ∙ ap encode_utf8_all (drop_more u p 0 h)

scalar_there : (u bs : List ℕ) (p o : ℕ) → Parts u bs p o → p < length u → IsScalar (slice_index u p)
scalar_there u bs p o w h =
    let all : all_scalars (slice_index u p ∷ drop (p + 1) u) ≡ true = ap all_scalars (sym (drop_more u p 0 h)) ∙ w.following in
    (and_parts _ _ all).0

pub byte_there : (u bs : List ℕ) (p o : ℕ) → Parts u bs p o → p < length u → o < length bs
byte_there u bs p o w h =
    omega (arith, ap length (bytes_there u bs p o w h), length-append (encode_utf8 (slice_index u p)) (encode_utf8_all (drop (p + 1) u)), length-encode (slice_index u p), len_utf8_bounds (slice_index u p), length-drop o bs)

pub width_there : (u bs : List ℕ) (p o : ℕ) → Parts u bs p o → p < length u → continuation_len (slice_index bs o) + 1 ≡ len_utf8 (slice_index u p)
width_there u bs p o w h =
    ap (λ (b : ℕ). continuation_len b + 1) (index_drop o bs ∙ ap (λ (l : List ℕ). slice_index l 0) (bytes_there u bs p o w h))
    ∙ width_first (slice_index u p) (encode_utf8_all (drop (p + 1) u)) (scalar_there u bs p o w h)

-- the end of a text
pub end_fits : (bs : List ℕ) (n : ℕ) → IsUtf8 bs → n ≡ length (chars bs) → fits_text (chars bs) (record { place = n; offset = length bs }) ≡ true
end_fits bs n t e =
    let all : encode_utf8_all (take n (chars bs)) ≡ bs = ap encode_utf8_all (take_all n (chars bs) (omega (arith, e))) ∙ encodes-chars bs t in
    fits_from (chars bs) (record { place = n; offset = length bs }) (omega (arith, e)) (ap length (sym all))
