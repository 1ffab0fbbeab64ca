-- A text up to its first code point of a kind, and from its last one on.
use Rattle.std.proofs.Common.{◌≡◌, ℕ, ◌+◌, ◌<◌, Bool, true, false, not, cond, if◌then◌else◌, List, [], ◌∷◌, ◌++◌, reverse, length, take, drop, take_while, refl, ap, sym, ◌∙◌, arith, subst, Some, None, IsUtf8, chars, encode_utf8_all, IsCharBoundary, append_assoc, take-add}
use Rattle.std.specs.Str.{NoCharPasses, NonePass}
use Rattle.std.specs.Str.Pattern.{FindsBy, RFindsBy, HasPassingCharAt}
use Rattle.std.proofs.lemmas.Str.{chars_from_encodes, chars-append, chars_past_char, IsUtf8-take, IsUtf8-drop, encodes-chars, len_utf8_bounds}
use Rattle.std.proofs.lemmas.List.{take-append-drop, reverse-append}
use Rattle.std.proofs.lemmas.List.Sums.{take_while-cons}
use Rattle.py_base.specs.Chars.Whitespace.{skip_while}

-- q passes just where t fails
abbrev pub Opposite : (ℕ → Bool) → (ℕ → Bool) → Type 0
Opposite t q = (c : ℕ) → q c ≡ not (t c)

passes : (t q : ℕ → Bool) → Opposite t q → (c : ℕ) → t c ≡ false → q c ≡ true
passes t q o c h = o c ∙ ap not h

fails : (t q : ℕ → Bool) → Opposite t q → (c : ℕ) → t c ≡ true → q c ≡ false
fails t q o c h = o c ∙ ap not h

-- front and back are parted where q first fails
pub record Parts (q : ℕ → Bool) (L front back : List ℕ) : Type 0 where
  pub taken : take_while q L ≡ front
  pub skipped : skip_while q L ≡ back

parts_more : (q : ℕ → Bool) (c : ℕ) (L front back : List ℕ) → q c ≡ true → Parts q L front back → Parts q (c ∷ L) (c ∷ front) back
parts_more q c L front back h p = record {
  taken = take_while-cons q c L ∙ ap (λ b. cond b (c ∷ take_while q L) []) h ∙ ap (λ r. c ∷ r) p.taken;
  skipped = ap (λ b. if b then skip_while q L else c ∷ L) h ∙ p.skipped;
}

parts_stop : (q : ℕ → Bool) (c : ℕ) (L : List ℕ) → q c ≡ false → Parts q (c ∷ L) [] (c ∷ L)
parts_stop q c L h = record { taken = take_while-cons q c L ∙ ap (λ b. cond b (c ∷ take_while q L) []) h; skipped = ap (λ b. if b then skip_while q L else c ∷ L) h }

parts_end : (q : ℕ → Bool) → Parts q [] [] []
parts_end q = record { taken = refl; skipped = refl }

pub parts_at : (t q : ℕ → Bool) → Opposite t q → (front : List ℕ) (c : ℕ) (back : List ℕ) → NonePass t front → t c ≡ true → Parts q (front ++ c ∷ back) front (c ∷ back)
parts_at t q o [] c back n h = parts_stop q c back (fails t q o c h)
parts_at t q o (d ∷ front) c back n h = parts_more q d (front ++ c ∷ back) front (c ∷ back) (passes t q o d n.0) (parts_at t q o front c back n.1 h)

pub parts_none : (t q : ℕ → Bool) → Opposite t q → (L : List ℕ) → NonePass t L → Parts q L L []
parts_none t q o [] n = parts_end q
parts_none t q o (c ∷ cs) n = parts_more q c cs cs [] (passes t q o c n.0) (parts_none t q o cs n.1)

none_of : (t : ℕ → Bool) (bs : List ℕ) → IsUtf8 bs → NoCharPasses t bs → NonePass t (chars bs)
none_of t bs u n = subst (λ (cs : List ℕ). NonePass t cs) (chars_from_encodes n.0 bs u n.1) n.2

none_append : (t : ℕ → Bool) (xs ys : List ℕ) → NonePass t xs → NonePass t ys → NonePass t (xs ++ ys)
none_append t [] ys m n = n
none_append t (x ∷ xs) ys m n = (m.0, none_append t xs ys m.1 n)

none_reversed : (t : ℕ → Bool) (xs : List ℕ) → NonePass t xs → NonePass t (reverse xs)
none_reversed t [] n = n
none_reversed t (x ∷ xs) n = subst (λ (l : List ℕ). NonePass t l) (sym (reverse-append (x ∷ []) xs)) (none_append t (reverse xs) (x ∷ []) (none_reversed t xs n.1) (n.0, tt))

-- a code point of a kind, found from the left
pub found_front : (t q : ℕ → Bool) → Opposite t q → (s : List ℕ) (i j : ℕ) → IsUtf8 s → FindsBy t s (Some (i, j)) → IsCharBoundary s i → Parts q (chars s) (chars (take i s)) (chars (drop i s))
found_front t q o s i j u f b =
    let before : IsUtf8 (take i s) = IsUtf8-take s i u b in
    let after : IsUtf8 (drop i s) = IsUtf8-drop s i u b in
    let one : chars (drop i s) ≡ f.1.0 ∷ chars (drop j s) = chars_past_char (drop i s) (drop j s) f.1.0 after f.1.2.split in
    let whole : chars s ≡ chars (take i s) ++ f.1.0 ∷ chars (drop j s) = ap chars (sym (take-append-drop i s)) ∙ chars-append (take i s) (drop i s) before ∙ ap (λ r. chars (take i s) ++ r) one in
    let p : Parts q (chars (take i s) ++ f.1.0 ∷ chars (drop j s)) (chars (take i s)) (f.1.0 ∷ chars (drop j s)) = parts_at t q o (chars (take i s)) f.1.0 (chars (drop j s)) (none_of t (take i s) before f.0) f.1.1 in
    record { taken = ap (take_while q) whole ∙ p.taken; skipped = ap (skip_while q) whole ∙ p.skipped ∙ sym one }

pub none_front : (t q : ℕ → Bool) → Opposite t q → (s : List ℕ) → IsUtf8 s → FindsBy t s None → Parts q (chars s) (chars s) []
none_front t q o s u f = parts_none t q o (chars s) (none_of t s u f)

-- a code point of a kind, found from the right: it is at i, and after it k
pub found_back : (t q : ℕ → Bool) → Opposite t q → (s : List ℕ) (i j k : ℕ) → IsUtf8 s → RFindsBy t s (Some (i, j)) → IsCharBoundary s i → IsCharBoundary s j → chars (take k s) ≡ chars (take i s) ++ take 1 (chars (drop i s)) → chars (drop k s) ≡ drop 1 (chars (drop i s)) → Parts q (reverse (chars s)) (reverse (chars (drop k s))) (reverse (chars (take k s)))
found_back t q o s i j k u f b d front rest =
    let before : IsUtf8 (take i s) = IsUtf8-take s i u b in
    let after : IsUtf8 (drop i s) = IsUtf8-drop s i u b in
    let one : chars (drop i s) ≡ f.1.0 ∷ chars (drop j s) = chars_past_char (drop i s) (drop j s) f.1.0 after f.1.2.split in
    let whole : chars s ≡ chars (take i s) ++ f.1.0 ∷ chars (drop j s) = ap chars (sym (take-append-drop i s)) ∙ chars-append (take i s) (drop i s) before ∙ ap (λ r. chars (take i s) ++ r) one in
    let turned : reverse (chars s) ≡ reverse (chars (drop j s)) ++ f.1.0 ∷ reverse (chars (take i s)) =
    ap reverse whole ∙ reverse-append (chars (take i s)) (f.1.0 ∷ chars (drop j s)) ∙ ap (λ r. r ++ reverse (chars (take i s))) (reverse-append (f.1.0 ∷ []) (chars (drop j s))) ∙ append_assoc (reverse (chars (drop j s))) (f.1.0 ∷ []) (reverse (chars (take i s))) in
    let last : reverse (chars (take k s)) ≡ f.1.0 ∷ reverse (chars (take i s)) = ap reverse (front ∙ ap (λ r. chars (take i s) ++ take 1 r) one) ∙ reverse-append (chars (take i s)) (f.1.0 ∷ []) in
    let tail : chars (drop k s) ≡ chars (drop j s) = rest ∙ ap (drop 1) one in
    let p : Parts q (reverse (chars (drop j s)) ++ f.1.0 ∷ reverse (chars (take i s))) (reverse (chars (drop j s))) (f.1.0 ∷ reverse (chars (take i s))) =
    parts_at t q o (reverse (chars (drop j s))) f.1.0 (reverse (chars (take i s))) (none_reversed t (chars (drop j s)) (none_of t (drop j s) (IsUtf8-drop s j u d) f.0)) f.1.1 in
    record { taken = ap (take_while q) turned ∙ p.taken ∙ ap reverse (sym tail); skipped = ap (skip_while q) turned ∙ p.skipped ∙ sym last }

pub none_back : (t q : ℕ → Bool) → Opposite t q → (s : List ℕ) → IsUtf8 s → RFindsBy t s None → Parts q (reverse (chars s)) (reverse (chars s)) []
none_back t q o s u f = parts_none t q o (reverse (chars s)) (none_reversed t (chars s) (none_of t s u f))

-- a text that is not empty has a code point
pub some_chars : (bs : List ℕ) → IsUtf8 bs → 0 < length bs → 0 < length (chars bs)
some_chars bs u h = some_of (chars bs) refl where
  some_of : (cs : List ℕ) → chars bs ≡ cs → 0 < length cs
  some_of [] e = absurd (omega (arith, h, ap length (sym (encodes-chars bs u) ∙ ap encode_utf8_all e)))
  some_of (c ∷ cs) e = omega arith

pub twice_not : (b : Bool) → not (not b) ≡ b
twice_not true = refl
twice_not false = refl

pub take_on : (m n : ℕ) (s : List ℕ) → take (m + n) s ≡ take m s ++ take n (drop m s)
take_on m n s = take-add m n s

pub char_there : (t : ℕ → Bool) (s : List ℕ) (i j : ℕ) → HasPassingCharAt t s i j → i < length s
char_there t s i j h = omega (arith, h.2.after.0, len_utf8_bounds h.0)
