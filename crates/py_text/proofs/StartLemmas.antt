-- Code points counted by the bytes at which they begin.
use Rattle.std.proofs.Common.{◌≡◌, ℕ, ◌+◌, ◌-◌, ◌<◌, ◌≤◌, ◌/◌, ◌%◌, Bool, true, false, nat_lt, nat_le, List, [], ◌∷◌, ◌++◌, length, take, drop, refl, ap, sym, ◌∙◌, arith, subst, if◌then◌else◌, slice_range, take-add}
use Rattle.py_text.specs.Points.{is_start, starts_in}
use Rattle.std.proofs.lemmas.Bool.Decides.{nat_tests}
use Rattle.std.specs.Char.{encode_utf8}
use Rattle.std.specs.Prelude.{slice_index}
use Rattle.std.specs.Str.{chars, IsUtf8, encode_utf8_all, IsCharBoundary}
use Rattle.std.proofs.lemmas.Str.{encodes-chars, IsUtf8-take, chars-append}
use Rattle.std.proofs.lemmas.List.{take-append-drop, drop-drop}
use Rattle.std.proofs.lemmas.List.Sums.{sum_by-append}
use Rattle.std.proofs.Math.Seq.{take-append_seam, drop-append_seam}

pub starts_append : (xs ys : List ℕ) → starts_in (xs ++ ys) ≡ starts_in xs + starts_in ys
starts_append xs ys = sum_by-append (λ x. if is_start x then 1 else 0) xs ys

low : (c : ℕ) → c < 128 → is_start c ≡ true
low c h = let a : nat_lt c 128 ≡ true = grind (arith, nat_tests) in rw a refl

lead : (k c : ℕ) → 192 ≤ k → is_start (k + c) ≡ true
lead k c h =
    let a : nat_lt (k + c) 128 ≡ false = grind (arith, nat_tests) in
    let b : nat_le 192 (k + c) ≡ true = grind (arith, nat_tests) in
    rw (a, b) refl

inner : (c : ℕ) → is_start (128 + c % 64) ≡ false
inner c =
    let s : c % 64 < 64 = omega arith in
    let a : nat_lt (128 + c % 64) 128 ≡ false = grind (arith, nat_tests) in
    let b : nat_le 192 (128 + c % 64) ≡ false = grind (arith, nat_tests) in
    rw (a, b) refl

starts_by : (c : ℕ) (p q r : Bool) → nat_lt c 128 ≡ p → nat_lt c 2048 ≡ q → nat_lt c 65536 ≡ r → starts_in (encode_utf8 c) ≡ 1
unfolding encode_utf8
starts_by c true q r h i j = rw h (rw h refl)
starts_by c false true r h i j = rw (h, i) (rw (lead 192 (c / 64) (omega arith), inner c) refl)
starts_by c false false true h i j = rw (h, i, j) (rw (lead 224 (c / 4096) (omega arith), inner c, inner (c / 64)) refl)
starts_by c false false false h i j = rw (h, i, j) (rw (lead 240 (c / 262144) (omega arith), inner c, inner (c / 64), inner (c / 4096)) refl)

starts_one : (c : ℕ) → starts_in (encode_utf8 c) ≡ 1
starts_one c = starts_by c (nat_lt c 128) (nat_lt c 2048) (nat_lt c 65536) refl refl refl

pub starts_encodes : (cs : List ℕ) → starts_in (encode_utf8_all cs) ≡ length cs
starts_encodes [] = refl
starts_encodes (c ∷ cs) = omega (arith, starts_append (encode_utf8 c) (encode_utf8_all cs), starts_one c, starts_encodes cs)

pub starts_are_points : (bs : List ℕ) → IsUtf8 bs → starts_in bs ≡ length (chars bs)
starts_are_points bs u = ap starts_in (sym (encodes-chars bs u)) ∙ starts_encodes (chars bs)

-- a place at which a code point begins, by how many begin before it or from it on
pub place_before : (s : List ℕ) (i n : ℕ) → IsUtf8 s → IsCharBoundary s i → starts_in (take i s) ≡ n → chars (take i s) ≡ take n (chars s)
place_before s i n u b h =
    let parts : chars s ≡ chars (take i s) ++ chars (drop i s) = ap chars (sym (take-append-drop i s)) ∙ chars-append (take i s) (drop i s) (IsUtf8-take s i u b) in
    let count : length (chars (take i s)) ≡ n = sym (starts_are_points (take i s) (IsUtf8-take s i u b)) ∙ h in
    sym (ap (take n) parts ∙ ap (λ k. take k (chars (take i s) ++ chars (drop i s))) (sym count) ∙ take-append_seam (chars (take i s)) (chars (drop i s)))

pub place_after : (s : List ℕ) (i n : ℕ) → IsUtf8 s → IsCharBoundary s i → starts_in (take i s) ≡ n → chars (drop i s) ≡ drop n (chars s)
place_after s i n u b h =
    let parts : chars s ≡ chars (take i s) ++ chars (drop i s) = ap chars (sym (take-append-drop i s)) ∙ chars-append (take i s) (drop i s) (IsUtf8-take s i u b) in
    let count : length (chars (take i s)) ≡ n = sym (starts_are_points (take i s) (IsUtf8-take s i u b)) ∙ h in
    sym (ap (drop n) parts ∙ ap (λ k. drop k (chars (take i s) ++ chars (drop i s))) (sym count) ∙ drop-append_seam (chars (take i s)) (chars (drop i s)))

start_high : (b : ℕ) → is_start b ≡ true → 128 ≤ b → 192 ≤ b
start_high b h k = grind (arith, nat_tests)

pub boundary_at : (s bytes : List ℕ) (i : ℕ) → bytes ≡ s → i ≤ length bytes → (i < length bytes → is_start (slice_index bytes i) ≡ true) → IsCharBoundary s i
boundary_at s bytes i e h f = subst (λ (l : List ℕ). IsCharBoundary l i) e (h, λ lt high. start_high (slice_index bytes i) (f lt) high)

-- what is left before the last ones
pub starts_left : (s bytes : List ℕ) (i n : ℕ) → IsUtf8 s → bytes ≡ s → starts_in (drop i bytes) ≡ n → starts_in (take i s) ≡ length (chars s) - n
starts_left s bytes i n u e h = omega (arith, sym h, ap (λ (l : List ℕ). starts_in (drop i l)) e, starts_are_points s u, ap starts_in (sym (take-append-drop i s)), starts_append (take i s) (drop i s))

-- one block more, from the beginning and from the end
pub starts_on : (s : List ℕ) (a w : ℕ) → starts_in (take (a + w) s) ≡ starts_in (take a s) + starts_in (slice_range s a (a + w))
starts_on s a w =
    let n : a + w - a ≡ w = omega arith in
    ap starts_in (take-add a w s) ∙ starts_append (take a s) (take w (drop a s)) ∙ ap (λ k. starts_in (take a s) + starts_in (take k (drop a s))) (sym n)

pub starts_back : (s : List ℕ) (a w : ℕ) → w ≤ a → starts_in (drop (a - w) s) ≡ starts_in (slice_range s (a - w) a) + starts_in (drop a s)
starts_back s a w h =
    let n : a - (a - w) ≡ w = omega arith in
    let m : a - w + w ≡ a = omega arith in
    let tail : drop w (drop (a - w) s) ≡ drop a s = drop-drop w (a - w) s ∙ ap (λ k. drop k s) m in
    ap starts_in (sym (take-append-drop w (drop (a - w) s))) ∙ starts_append (take w (drop (a - w) s)) (drop w (drop (a - w) s))
    ∙ (λ j. starts_in (take (sym n j) (drop (a - w) s)) + starts_in (tail j))
