-- A text up to its first character that fails a test.
use Rattle.std.proofs.Common.{◌≡◌, ◌∙◌, ◌+◌, ℕ, Bool, true, false, cond, if◌then◌else◌, List, [], ◌∷◌, ◌++◌, length, take, drop, reverse, subst, take_while, sym, ap, refl, append_assoc, append-nil, arith, chars, IsUtf8, IsCharBoundary, length-append}
use Rattle.std.specs.Char.{encode_utf8, len_utf8, IsScalar}
use Rattle.std.proofs.Math.Seq.{take-append_seam, drop-append_seam}
use Rattle.std.proofs.lemmas.List.{nil_from_length, reverse-append, reverse-reverse}
use Rattle.std.proofs.lemmas.List.Sums.{take_while-cons}
use Rattle.std.proofs.lemmas.Str.{chars-append, chars_past_char, chars-nil, IsUtf8-append, IsUtf8-past_char, IsUtf8-nil, IsUtf8-encode, IsUtf8-take, IsCharBoundary-at_seam, length-encode}
use Rattle.py_base.specs.Chars.Whitespace.{skip_while}
use Rattle.py_text.proofs.PointLemmas.{first_scalar}
use Rattle.py_str.specs.Passing.{IsPassed}

pub passed_none : (q : ℕ → Bool) (s : List ℕ) → IsUtf8 s → IsPassed q s s 0
passed_none q s u = record { front = []; parts = refl; front_utf8 = IsUtf8-nil; rest_utf8 = u; place = refl; taken = ap (λ (l : List ℕ). l ++ take_while q (chars s)) (sym chars-nil); skipped = refl }

take_yes : (q : ℕ → Bool) (c : ℕ) (L : List ℕ) → q c ≡ true → take_while q (c ∷ L) ≡ c ∷ take_while q L
take_yes q c L h = take_while-cons q c L ∙ ap (λ b. cond b (c ∷ take_while q L) []) h

take_no : (q : ℕ → Bool) (c : ℕ) (L : List ℕ) → q c ≡ false → take_while q (c ∷ L) ≡ []
take_no q c L h = take_while-cons q c L ∙ ap (λ b. cond b (c ∷ take_while q L) []) h

skip_yes : (q : ℕ → Bool) (c : ℕ) (L : List ℕ) → q c ≡ true → skip_while q (c ∷ L) ≡ skip_while q L
skip_yes q c L h = ap (λ b. if b then skip_while q L else c ∷ L) h

skip_no : (q : ℕ → Bool) (c : ℕ) (L : List ℕ) → q c ≡ false → skip_while q (c ∷ L) ≡ c ∷ L
skip_no q c L h = ap (λ b. if b then skip_while q L else c ∷ L) h

one_point : (c : ℕ) → IsUtf8 (encode_utf8 c) → chars (encode_utf8 c) ≡ c ∷ []
one_point c u = chars_past_char (encode_utf8 c) [] c u (sym (append-nil (encode_utf8 c))) ∙ ap (λ (l : List ℕ). c ∷ l) chars-nil

pub passed_more : (q : ℕ → Bool) (s rest next : List ℕ) (at c : ℕ) → q c ≡ true → rest ≡ encode_utf8 c ++ next → IsPassed q s rest at → IsPassed q s next (at + len_utf8 c)
passed_more q s rest next at c h e p =
    let one : IsUtf8 (encode_utf8 c) = first_scalar rest next c p.rest_utf8 e in
    let points : chars rest ≡ c ∷ chars next = chars_past_char rest next c p.rest_utf8 e in
    let both : chars (p.front ++ encode_utf8 c) ≡ chars p.front ++ c ∷ [] = chars-append p.front (encode_utf8 c) p.front_utf8 ∙ ap (λ (l : List ℕ). chars p.front ++ l) (one_point c one) in
    record {
      front = p.front ++ encode_utf8 c;
      parts = p.parts ∙ ap (λ (l : List ℕ). p.front ++ l) e ∙ sym (append_assoc p.front (encode_utf8 c) next);
      front_utf8 = IsUtf8-append p.front (encode_utf8 c) p.front_utf8 one;
      rest_utf8 = IsUtf8-past_char rest next c p.rest_utf8 e;
      place = omega (arith, p.place, length-append p.front (encode_utf8 c), length-encode c);
      taken = p.taken ∙ ap (λ (l : List ℕ). chars p.front ++ take_while q l) points ∙ ap (λ (l : List ℕ). chars p.front ++ l) (take_yes q c (chars next) h)
          ∙ sym (append_assoc (chars p.front) (c ∷ []) (take_while q (chars next))) ∙ ap (λ (l : List ℕ). l ++ take_while q (chars next)) (sym both);
      skipped = p.skipped ∙ ap (skip_while q) points ∙ skip_yes q c (chars next) h;
    }

pub passed_within : (q : ℕ → Bool) (s rest : List ℕ) (at : ℕ) → IsPassed q s rest at → at + length rest ≡ length s
passed_within q s rest at p = omega (arith, p.place, length-append p.front rest, ap length p.parts)

pub passed_place : (q : ℕ → Bool) (s rest : List ℕ) (at : ℕ) → IsPassed q s rest at → IsCharBoundary s at
passed_place q s rest at p = rw (← p.place) (IsCharBoundary-at_seam s p.front rest p.parts p.rest_utf8)

front_is : (q : ℕ → Bool) (s rest : List ℕ) (at : ℕ) (p : IsPassed q s rest at) → take at s ≡ p.front
front_is q s rest at p = ap (λ n. take n s) (sym p.place) ∙ ap (take (length p.front)) p.parts ∙ take-append_seam p.front rest

pub stop_taken : (q : ℕ → Bool) (s rest next : List ℕ) (at c : ℕ) → q c ≡ false → rest ≡ encode_utf8 c ++ next → IsPassed q s rest at → take_while q (chars s) ≡ chars (take at s)
stop_taken q s rest next at c h e p =
    p.taken ∙ ap (λ (l : List ℕ). chars p.front ++ take_while q l) (chars_past_char rest next c p.rest_utf8 e) ∙ ap (λ (l : List ℕ). chars p.front ++ l) (take_no q c (chars next) h)
    ∙ append-nil (chars p.front) ∙ sym (ap chars (front_is q s rest at p))

pub stop_skipped : (q : ℕ → Bool) (s rest next : List ℕ) (at c : ℕ) → q c ≡ false → rest ≡ encode_utf8 c ++ next → IsPassed q s rest at → skip_while q (chars s) ≡ c ∷ chars next
stop_skipped q s rest next at c h e p = p.skipped ∙ ap (skip_while q) (chars_past_char rest next c p.rest_utf8 e) ∙ skip_no q c (chars next) h

pub stop_utf8 : (q : ℕ → Bool) (s rest next : List ℕ) (at c : ℕ) → rest ≡ encode_utf8 c ++ next → IsPassed q s rest at → IsUtf8 next
stop_utf8 q s rest next at c e p = IsUtf8-past_char rest next c p.rest_utf8 e

no_points : (bs : List ℕ) → length bs ≡ 0 → chars bs ≡ []
no_points bs h = ap chars (nil_from_length bs h) ∙ chars-nil

pub all_taken : (q : ℕ → Bool) (s rest : List ℕ) (at : ℕ) → length rest ≡ 0 → IsPassed q s rest at → take_while q (chars s) ≡ chars s
all_taken q s rest at h p =
    p.taken ∙ ap (λ (l : List ℕ). chars p.front ++ take_while q l) (no_points rest h) ∙ append-nil (chars p.front)
    ∙ ap chars (sym (append-nil p.front) ∙ ap (λ (l : List ℕ). p.front ++ l) (sym (nil_from_length rest h)) ∙ sym p.parts)

pub none_skipped : (q : ℕ → Bool) (s rest : List ℕ) (at : ℕ) → length rest ≡ 0 → IsPassed q s rest at → skip_while q (chars s) ≡ []
none_skipped q s rest at h p = p.skipped ∙ ap (skip_while q) (no_points rest h)

rest_is : (q : ℕ → Bool) (s rest : List ℕ) (at : ℕ) (p : IsPassed q s rest at) → drop at s ≡ rest
rest_is q s rest at p = ap (λ n. drop n s) (sym p.place) ∙ ap (drop (length p.front)) p.parts ∙ drop-append_seam p.front rest

-- what is left from the first one that fails
pub left_stop : (q : ℕ → Bool) (s rest next : List ℕ) (at c : ℕ) → q c ≡ false → rest ≡ encode_utf8 c ++ next → IsPassed q s rest at → chars (drop at s) ≡ skip_while q (chars s)
left_stop q s rest next at c h e p = ap chars (rest_is q s rest at p) ∙ chars_past_char rest next c p.rest_utf8 e ∙ sym (stop_skipped q s rest next at c h e p)

pub left_end : (q : ℕ → Bool) (s rest : List ℕ) (at : ℕ) → length rest ≡ 0 → IsPassed q s rest at → chars (drop at s) ≡ skip_while q (chars s)
left_end q s rest at h p = ap chars (rest_is q s rest at p) ∙ no_points rest h ∙ sym (none_skipped q s rest at h p)

-- the last bytes of s, after rest, are characters that pass q
pub record PassedBack (q : ℕ → Bool) (s rest : List ℕ) (end : ℕ) : Type 0 where
  pub back : List ℕ
  pub parts : s ≡ rest ++ back
  pub rest_utf8 : IsUtf8 rest
  pub back_utf8 : IsUtf8 back
  pub place : end ≡ length rest
  pub skipped : skip_while q (reverse (chars s)) ≡ skip_while q (reverse (chars rest))

pub back_none : (q : ℕ → Bool) (s : List ℕ) (end : ℕ) → IsUtf8 s → end ≡ length s → PassedBack q s s end
back_none q s end u e = record { back = []; parts = sym (append-nil s); rest_utf8 = u; back_utf8 = IsUtf8-nil; place = e; skipped = refl }

front_utf8 : (bs rest : List ℕ) (c : ℕ) → IsScalar c → IsUtf8 bs → bs ≡ rest ++ encode_utf8 c → IsUtf8 rest
front_utf8 bs rest c s u e =
    let part : take (length rest) bs ≡ rest = ap (take (length rest)) e ∙ take-append_seam rest (encode_utf8 c) in
    subst IsUtf8 part (IsUtf8-take bs (length rest) u (IsCharBoundary-at_seam bs rest (encode_utf8 c) e (IsUtf8-encode c s)))

turned : (bs rest : List ℕ) (c : ℕ) → IsScalar c → IsUtf8 bs → bs ≡ rest ++ encode_utf8 c → reverse (chars bs) ≡ c ∷ reverse (chars rest)
turned bs rest c s u e =
    ap reverse (ap chars e ∙ chars-append rest (encode_utf8 c) (front_utf8 bs rest c s u e) ∙ ap (λ (l : List ℕ). chars rest ++ l) (one_point c (IsUtf8-encode c s)))
    ∙ reverse-append (chars rest) (c ∷ [])

pub back_more : (q : ℕ → Bool) (s rest next : List ℕ) (end to c : ℕ) → IsScalar c → q c ≡ true → rest ≡ next ++ encode_utf8 c → to ≡ length next → PassedBack q s rest end → PassedBack q s next to
back_more q s rest next end to c d h e n p = record {
  back = encode_utf8 c ++ p.back;
  parts = p.parts ∙ ap (λ (l : List ℕ). l ++ p.back) e ∙ append_assoc next (encode_utf8 c) p.back;
  rest_utf8 = front_utf8 rest next c d p.rest_utf8 e;
  back_utf8 = IsUtf8-append (encode_utf8 c) p.back (IsUtf8-encode c d) p.back_utf8;
  place = n;
  skipped = p.skipped ∙ ap (skip_while q) (turned rest next c d p.rest_utf8 e) ∙ skip_yes q c (reverse (chars next)) h;
}

pub back_place : (q : ℕ → Bool) (s rest : List ℕ) (end : ℕ) → PassedBack q s rest end → IsCharBoundary s end
back_place q s rest end p = rw p.place (IsCharBoundary-at_seam s rest p.back p.parts p.back_utf8)

back_front : (q : ℕ → Bool) (s rest : List ℕ) (end : ℕ) (p : PassedBack q s rest end) → take end s ≡ rest
back_front q s rest end p = ap (λ n. take n s) p.place ∙ ap (take (length rest)) p.parts ∙ take-append_seam rest p.back

pub right_stop : (q : ℕ → Bool) (s rest next : List ℕ) (end c : ℕ) → IsScalar c → q c ≡ false → rest ≡ next ++ encode_utf8 c → PassedBack q s rest end → chars (take end s) ≡ reverse (skip_while q (reverse (chars s)))
right_stop q s rest next end c d h e p =
    let t : reverse (chars rest) ≡ c ∷ reverse (chars next) = turned rest next c d p.rest_utf8 e in
    ap chars (back_front q s rest end p)
    ∙ sym (ap reverse (p.skipped ∙ ap (skip_while q) t ∙ skip_no q c (reverse (chars next)) h ∙ sym t) ∙ reverse-reverse (chars rest))

pub right_end : (q : ℕ → Bool) (s rest : List ℕ) (end : ℕ) → length rest ≡ 0 → PassedBack q s rest end → chars (take end s) ≡ reverse (skip_while q (reverse (chars s)))
right_end q s rest end h p =
    ap chars (back_front q s rest end p) ∙ no_points rest h ∙ sym (ap reverse (p.skipped ∙ ap (λ (l : List ℕ). skip_while q (reverse l)) (no_points rest h)))
