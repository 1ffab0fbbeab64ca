-- Code points and bytes.
use Rattle.std.proofs.Common.{◌≡◌, ℕ, ◌+◌, ◌-◌, ◌<◌, ◌≤◌, Bool, true, false, ◌&&◌, nat_lt, nat_eq, List, [], ◌∷◌, ◌++◌, length, take, drop, append_assoc, refl, ap, sym, ◌∙◌, arith, length-append, subst, Option, Some, None}
use Rattle.std.proofs.lemmas.Bool.Decides.{nat_tests}
use Rattle.std.specs.Char.{encode_utf8, len_utf8, IsScalar}
use Rattle.std.specs.Str.{chars, IsUtf8, encode_utf8_all, all_scalars, IsCharBoundary, IsAscii}
use Rattle.std.specs.Prelude.{IfSome}
use Rattle.std.specs.Str.Iter.{chars_steps, chars_steps_back}
use Rattle.std.specs.declared.str.Chars.{Chars}
use Rattle.std.proofs.lemmas.Str.{length-encode, len_utf8_bounds, encodes-chars, chars-append, chars_past_char, IsUtf8-past_char, IsUtf8-append, cons_from_encodes, IsUtf8-encode, IsUtf8-take, IsCharBoundary-at_seam, chars-nil, IsUtf8-nil}
use Rattle.std.proofs.Math.Seq.{take-append_seam, drop-append_seam}
use Rattle.std.proofs.lemmas.List.{append-nil, take-append-drop, length-take-le}
use Rattle.std.proofs.lemmas.Str.Ascii.{IsAscii-nil, IsAscii-cons}
use Rattle.std.proofs.lemmas.Str.{chars-IsAscii, encodes-IsAscii, IsAscii-take}
use Rattle.py_text.specs.Text.{all_ascii, IsMarked}

-- a list of code points is as long as its bytes just where each is ASCII
pub bytes_at_least : (cs : List ℕ) → length cs ≤ length (encode_utf8_all cs)
bytes_at_least [] = omega arith
bytes_at_least (c ∷ cs) = omega (arith, length-append (encode_utf8 c) (encode_utf8_all cs), length-encode c, len_utf8_bounds c, bytes_at_least cs)

more_bytes : (c : ℕ) → nat_lt c 128 ≡ false → 1 < len_utf8 c
more_bytes c h = grind (arith, nat_tests)

ascii_byte : (c : ℕ) → nat_lt c 128 ≡ true → len_utf8 c ≡ 1
ascii_byte c h = grind (arith, nat_tests)

mark_case : (c : ℕ) (cs : List ℕ) (b : Bool) → nat_lt c 128 ≡ b → nat_eq (length cs) (length (encode_utf8_all cs)) ≡ all_ascii cs → nat_eq (length (c ∷ cs)) (length (encode_utf8_all (c ∷ cs))) ≡ (b && all_ascii cs)
mark_case c cs true h i = let e : length (encode_utf8 c ++ encode_utf8_all cs) ≡ length (encode_utf8_all cs) + 1 = omega (arith, length-append (encode_utf8 c) (encode_utf8_all cs), length-encode c, ascii_byte c h) in grind (arith, nat_tests)
mark_case c cs false h i = let e : length cs + 1 < length (encode_utf8 c ++ encode_utf8_all cs) = omega (arith, length-append (encode_utf8 c) (encode_utf8_all cs), length-encode c, more_bytes c h, bytes_at_least cs) in grind (arith, nat_tests)

pub mark_is : (cs : List ℕ) → nat_eq (length cs) (length (encode_utf8_all cs)) ≡ all_ascii cs
mark_is [] = refl
mark_is (c ∷ cs) = mark_case c cs (nat_lt c 128) refl (mark_is cs)

-- k code points of s stand before rest
pub record Walked (s rest : List ℕ) (k : ℕ) : Type 0 where
  pub front : List ℕ
  pub parts : s ≡ front ++ rest
  pub front_utf8 : IsUtf8 front
  pub rest_utf8 : IsUtf8 rest
  pub count : length (chars front) ≡ k

pub walk_begins : (s : List ℕ) → IsUtf8 s → Walked s s 0
walk_begins s u = record { front = []; parts = refl; front_utf8 = IsUtf8-nil; rest_utf8 = u; count = ap length chars-nil }

and_left : (a b : Bool) → (a && b) ≡ true → a ≡ true
and_left true b h = refl
and_left false b h = h

head_scalar : (c : ℕ) (cs : List ℕ) → all_scalars (c ∷ cs) ≡ true → IsScalar c
head_scalar c cs h = and_left _ _ h

no_chars : (bs : List ℕ) → length bs ≡ 0 → length (chars bs) ≡ 0
no_chars [] h = ap length chars-nil
no_chars (b ∷ bs) h = absurd (omega arith)

pub first_scalar : (bs rest : List ℕ) (c : ℕ) → IsUtf8 bs → bs ≡ encode_utf8 c ++ rest → IsUtf8 (encode_utf8 c)
first_scalar bs rest c u e =
    let p = cons_from_encodes u.0 rest c (u.1.1 ∙ e) in
    let all : all_scalars (c ∷ p.0) ≡ true = subst (λ (cs : List ℕ). all_scalars cs ≡ true) p.1 u.1.0 in
    IsUtf8-encode c (head_scalar c p.0 all)

one_char : (c : ℕ) → IsUtf8 (encode_utf8 c) → chars (encode_utf8 c) ≡ c ∷ []
one_char c u = chars_past_char (encode_utf8 c) [] c u (sym (append-nil (encode_utf8 c))) ∙ ap (λ cs. c ∷ cs) chars-nil

spelled : (s rest : List ℕ) (k : ℕ) (w : Walked s rest k) → chars s ≡ chars w.front ++ chars rest
spelled s rest k w = ap chars w.parts ∙ chars-append w.front rest w.front_utf8

pub walk_steps : (s : List ℕ) (a b : Chars) (r : Option ℕ) (k : ℕ) → Walked s a.rest.now k → k < length (chars s) → chars_steps a r b → Walked s b.rest.now (k + 1)
walk_steps s a b None k w lt h = absurd (omega (arith, w.count, no_chars a.rest.now h.0.0, ap length (spelled s a.rest.now k w), length-append (chars w.front) (chars a.rest.now)))
walk_steps s a b (Some c) k w lt h =
    let one = first_scalar a.rest.now b.rest.now c w.rest_utf8 h.0 in
    let said : chars (w.front ++ encode_utf8 c) ≡ chars w.front ++ chars (encode_utf8 c) = chars-append w.front (encode_utf8 c) w.front_utf8 in
    record {
      front = w.front ++ encode_utf8 c;
      parts = w.parts ∙ ap (λ r. w.front ++ r) h.0 ∙ sym (append_assoc w.front (encode_utf8 c) b.rest.now);
      front_utf8 = IsUtf8-append w.front (encode_utf8 c) w.front_utf8 one;
      rest_utf8 = IsUtf8-past_char a.rest.now b.rest.now c w.rest_utf8 h.0;
      count = omega (arith, w.count, ap length said, length-append (chars w.front) (chars (encode_utf8 c)), ap length (one_char c one));
    }

pub walked_within : (s rest : List ℕ) (k : ℕ) → Walked s rest k → length rest ≤ length s
walked_within s rest k w = omega (arith, length-append w.front rest, ap length w.parts)

at_seam : (s rest : List ℕ) (k : ℕ) (w : Walked s rest k) → length s - length rest ≡ length w.front
at_seam s rest k w = omega (arith, length-append w.front rest, ap length w.parts)

pub walked_place : (s rest : List ℕ) (k : ℕ) → Walked s rest k → IsCharBoundary s (length s - length rest)
walked_place s rest k w = rw (at_seam s rest k w) (IsCharBoundary-at_seam s w.front rest w.parts w.rest_utf8)

pub walked_before : (s rest : List ℕ) (k : ℕ) → Walked s rest k → chars (take (length s - length rest) s) ≡ take k (chars s)
walked_before s rest k w =
    let bytes : take (length s - length rest) s ≡ w.front = rw (at_seam s rest k w, w.parts) (take-append_seam w.front rest) in
    let points : take k (chars s) ≡ chars w.front = rw (spelled s rest k w, ← w.count) (take-append_seam (chars w.front) (chars rest)) in
    ap chars bytes ∙ sym points

pub walked_after : (s rest : List ℕ) (k : ℕ) → Walked s rest k → chars (drop (length s - length rest) s) ≡ drop k (chars s)
walked_after s rest k w =
    let bytes : drop (length s - length rest) s ≡ rest = rw (at_seam s rest k w, w.parts) (drop-append_seam w.front rest) in
    let points : drop k (chars s) ≡ chars rest = rw (spelled s rest k w, ← w.count) (drop-append_seam (chars w.front) (chars rest)) in
    ap chars bytes ∙ sym points

-- a text with another after it
pub appended : (old more new : List ℕ) → IsUtf8 old → new ≡ old ++ more → chars new ≡ chars old ++ chars more
appended old more new u e = ap chars e ∙ chars-append old more u

pub appended_count : (old more new : List ℕ) (count added : ℕ) → IsUtf8 old → new ≡ old ++ more → count ≡ length (chars old) → added ≡ length (chars more) → count + added ≡ length (chars new)
appended_count old more new count added u e p q = omega (arith, p, q, ap length (appended old more new u e), length-append (chars old) (chars more))

pub marked_by : (bs : List ℕ) → IsUtf8 bs → nat_eq (length (chars bs)) (length bs) ≡ all_ascii (chars bs)
marked_by bs u = subst (λ (n : ℕ). nat_eq (length (chars bs)) n ≡ all_ascii (chars bs)) (ap length (encodes-chars bs u)) (mark_is (chars bs))

pub points_at_most : (bs : List ℕ) → IsUtf8 bs → length (chars bs) ≤ length bs
points_at_most bs u = omega (arith, bytes_at_least (chars bs), ap length (encodes-chars bs u))

ascii_by : (b : ℕ) (bs : List ℕ) (t : Bool) → nat_lt b 128 ≡ t → (t && all_ascii bs) ≡ true → (all_ascii bs ≡ true → IsAscii bs) → IsAscii (b ∷ bs)
ascii_by b bs true e h next = IsAscii-cons b bs (grind (arith, nat_tests)) (next h)
ascii_by b bs false e h next = absurd (cc)

pub is_ascii : (bs : List ℕ) → all_ascii bs ≡ true → IsAscii bs
is_ascii [] h = IsAscii-nil
is_ascii (b ∷ bs) h = ascii_by b bs (nat_lt b 128) refl h (is_ascii bs)

pub chars_ascii : (bs : List ℕ) → all_ascii bs ≡ true → chars bs ≡ bs
chars_ascii bs h = chars-IsAscii bs (is_ascii bs h)

-- the text of one character
pub one_scalar : (c : ℕ) → IsScalar c → chars (encode_utf8 c) ≡ c ∷ []
one_scalar c h = one_char c (IsUtf8-encode c h)

pub ascii_marked : (bs xs : List ℕ) (n : ℕ) → bs ≡ xs → all_ascii xs ≡ true → n ≡ length xs → IsMarked (chars bs) true n
ascii_marked bs xs n e h l =
    let p : chars bs ≡ xs = ap chars e ∙ chars_ascii xs h in
    record { marked = sym (ap all_ascii p ∙ h); counted = l ∙ sym (ap length p) }

-- rest is before the last k code points of s
pub record WalkedBack (s rest : List ℕ) (k : ℕ) : Type 0 where
  pub back : List ℕ
  pub parts : s ≡ rest ++ back
  pub rest_utf8 : IsUtf8 rest
  pub back_utf8 : IsUtf8 back
  pub count : length (chars back) ≡ k

pub back_begins : (s : List ℕ) → IsUtf8 s → WalkedBack s s 0
back_begins s u = record { back = []; parts = sym (append-nil s); rest_utf8 = u; back_utf8 = IsUtf8-nil; count = ap length chars-nil }

back_spelled : (s rest : List ℕ) (k : ℕ) (w : WalkedBack s rest k) → chars s ≡ chars rest ++ chars w.back
back_spelled s rest k w = ap chars w.parts ∙ chars-append rest w.back w.rest_utf8

front_is_utf8 : (bs rest : List ℕ) (c : ℕ) → IsScalar c → IsUtf8 bs → bs ≡ rest ++ encode_utf8 c → IsUtf8 rest
front_is_utf8 bs rest c s u e =
    let part : take (length rest) bs ≡ rest = ap (take (length rest)) e ∙ take-append_seam rest (encode_utf8 c) in
    subst IsUtf8 part (IsUtf8-take bs (length rest) u (IsCharBoundary-at_seam bs rest (encode_utf8 c) e (IsUtf8-encode c s)))

pub back_steps : (s : List ℕ) (a b : Chars) (r : Option ℕ) (k : ℕ) → WalkedBack s a.rest.now k → k < length (chars s) → chars_steps_back a r b → IfSome r IsScalar → WalkedBack s b.rest.now (k + 1)
back_steps s a b None k w lt h t = absurd (omega (arith, w.count, no_chars a.rest.now h.0, ap length (back_spelled s a.rest.now k w), length-append (chars a.rest.now) (chars w.back)))
back_steps s a b (Some c) k w lt h t =
    let one = IsUtf8-encode c t in record {
      back = encode_utf8 c ++ w.back;
      parts = w.parts ∙ ap (λ r. r ++ w.back) h ∙ append_assoc b.rest.now (encode_utf8 c) w.back;
      rest_utf8 = front_is_utf8 a.rest.now b.rest.now c t w.rest_utf8 h;
      back_utf8 = IsUtf8-append (encode_utf8 c) w.back one w.back_utf8;
      count = omega (arith, w.count, ap length (chars-append (encode_utf8 c) w.back one), length-append (chars (encode_utf8 c)) (chars w.back), ap length (one_scalar c t));
    }

pub back_place : (s rest : List ℕ) (k : ℕ) → WalkedBack s rest k → IsCharBoundary s (length rest)
back_place s rest k w = IsCharBoundary-at_seam s rest w.back w.parts w.back_utf8

back_count : (s rest : List ℕ) (k : ℕ) (w : WalkedBack s rest k) → length (chars s) - k ≡ length (chars rest)
back_count s rest k w = omega (arith, w.count, ap length (back_spelled s rest k w), length-append (chars rest) (chars w.back))

pub back_before : (s rest : List ℕ) (k : ℕ) → WalkedBack s rest k → chars (take (length rest) s) ≡ take (length (chars s) - k) (chars s)
back_before s rest k w =
    let bytes : take (length rest) s ≡ rest = ap (take (length rest)) w.parts ∙ take-append_seam rest w.back in
    let points : take (length (chars rest)) (chars s) ≡ chars rest = ap (take (length (chars rest))) (back_spelled s rest k w) ∙ take-append_seam (chars rest) (chars w.back) in
    ap chars bytes ∙ sym (ap (λ n. take n (chars s)) (back_count s rest k w) ∙ points)

pub back_after : (s rest : List ℕ) (k : ℕ) → WalkedBack s rest k → chars (drop (length rest) s) ≡ drop (length (chars s) - k) (chars s)
back_after s rest k w =
    let bytes : drop (length rest) s ≡ w.back = ap (drop (length rest)) w.parts ∙ drop-append_seam rest w.back in
    let points : drop (length (chars rest)) (chars s) ≡ chars w.back = ap (drop (length (chars rest))) (back_spelled s rest k w) ∙ drop-append_seam (chars rest) (chars w.back) in
    ap chars bytes ∙ sym (ap (λ n. drop n (chars s)) (back_count s rest k w) ∙ points)

-- a text of as many code points as bytes is ASCII, and a place is its byte
all_of_same : (bs : List ℕ) (n : ℕ) → IsUtf8 bs → n ≡ length (chars bs) → n ≡ length bs → all_ascii (chars bs) ≡ true
all_of_same bs n u e f = let g : nat_eq (length (chars bs)) (length bs) ≡ true = grind (arith, nat_tests) in sym (marked_by bs u) ∙ g

pub places_of_same : (bs : List ℕ) (n i : ℕ) → IsUtf8 bs → n ≡ length (chars bs) → n ≡ length bs → i ≤ length bs → i ≡ length (chars (take i bs))
places_of_same bs n i u e f h =
    let points : IsAscii (chars bs) = is_ascii (chars bs) (all_of_same bs n u e f) in
    let bytes : IsAscii bs = subst IsAscii (sym (encodes-IsAscii (chars bs) points) ∙ encodes-chars bs u) points in
    sym (ap length (chars-IsAscii (take i bs) (IsAscii-take bs i bytes)) ∙ length-take-le i bs h)

-- a text in two parts
pub points_parted : (bs : List ℕ) (i : ℕ) → IsUtf8 bs → IsCharBoundary bs i → length (chars bs) ≡ length (chars (take i bs)) + length (chars (drop i bs))
points_parted bs i u b =
    ap (λ l. length (chars l)) (sym (take-append-drop i bs)) ∙ ap length (chars-append (take i bs) (drop i bs) (IsUtf8-take bs i u b))
    ∙ length-append (chars (take i bs)) (chars (drop i bs))
