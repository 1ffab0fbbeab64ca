-- Every so many items of a list.
use Rattle.std.proofs.Common.{◌≡◌, ◌∙◌, ◌+◌, ◌-◌, ◌*◌, ◌<◌, ◌≤◌, ℕ, zero, suc, List, [], ◌∷◌, ◌++◌, Some, length, drop, take, reverse, sym, ap, refl, append_assoc, append-nil, chars, encode_utf8, arith, inl, inr, subst, get_or, add-zero, length-drop, get_or-drop, mul-le-mul_left}
use Rattle.std.proofs.Math.Nat.{mul_comm, zero-mul, suc-mul}
use Rattle.std.proofs.lemmas.Grind.{div_ceil_times}
use Rattle.std.proofs.lemmas.Bool.{cases_lt}
use Rattle.std.proofs.lemmas.List.{reverse-append, length-reverse, take-append-drop, drop_at, drop_all, drop-drop, nil_from_length}
use Rattle.std.proofs.lemmas.Option.{slice_get-get_or}
use Rattle.std.specs.Int.{div_ceil}
use Rattle.std.specs.Prelude.{slice_get}
use Rattle.std.specs.Char.{IsScalar}
use Rattle.std.specs.Str.{IsUtf8}
use Rattle.std.proofs.lemmas.Str.{chars-nil, chars-append, chars_past_char, IsUtf8-encode, IsUtf8-take, IsCharBoundary-at_seam}
use Rattle.std.proofs.Math.Seq.{take-append_seam}
use Rattle.py_text.specs.Strides.{every, every_after}
use Rattle.py_text.proofs.PointLemmas.{one_scalar}

-- to pass over n items is to drop them
pub every_past : (k n : ℕ) (L : List ℕ) → every_after k n L ≡ every k (drop n L)
every_past k zero L = refl
every_past k (suc n) [] = refl
every_past k (suc n) (x ∷ xs) = every_past k n xs

-- one item, and the rest from k on
pub every_on : (k x : ℕ) (xs : List ℕ) → 1 ≤ k → every k (x ∷ xs) ≡ x ∷ every k (drop k (x ∷ xs))
every_on zero x xs h = absurd (omega arith)
every_on (suc k) x xs h =
    let e : suc k - 1 ≡ k = omega arith in
    ap (λ (l : List ℕ). x ∷ l) (ap (λ n. every_after (suc k) n xs) e ∙ every_past (suc k) k xs)

pub every_one : (L : List ℕ) → every 1 L ≡ L
every_one [] = refl
every_one (x ∷ xs) = every_on 1 x xs (omega arith) ∙ ap (λ (l : List ℕ). x ∷ l) (every_one xs)

-- one item taken
pub stride_on : (k : ℕ) (done rest : List ℕ) (x : ℕ) (whole : List ℕ) → 1 ≤ k → slice_get rest 0 ≡ Some x → done ++ every k rest ≡ whole → (done ++ x ∷ []) ++ every k (drop k rest) ≡ whole
stride_on k done [] x whole h e g = absurd (cc)
stride_on k done (y ∷ ys) x whole h e g =
    let same : y ≡ x = cc in
    append_assoc done (x ∷ []) (every k (drop k (y ∷ ys)))
    ∙ ap (λ (l : List ℕ). done ++ l) (ap (λ z. z ∷ every k (drop k (y ∷ ys))) (sym same) ∙ sym (every_on k y ys h))
    ∙ g

-- what is left of a list from its end
pub drop-reverse : (k : ℕ) (L : List ℕ) → drop k (reverse L) ≡ reverse (take (length L - k) L)
drop-reverse k L = elim (cases_lt (length L) k) [
  | inr h ↦
      let parts : reverse L ≡ reverse (drop (length L - k) L) ++ reverse (take (length L - k) L) = ap reverse (sym (take-append-drop (length L - k) L)) ∙ reverse-append (take (length L - k) L) (drop (length L - k) L) in
      ap (drop k) parts ∙ drop_at (reverse (drop (length L - k) L)) (reverse (take (length L - k) L)) k (omega (arith, length-reverse (drop (length L - k) L), length-drop (length L - k) L))
  | inl h ↦
      let none : length L - k ≡ 0 = omega arith in
      drop_all k (reverse L) (omega (arith, length-reverse L)) ∙ sym (ap (λ n. reverse (take n L)) none)
]

-- one character taken, or passed over
pub char_taken : (k : ℕ) (done bs rest : List ℕ) (c : ℕ) (whole : List ℕ) → IsUtf8 bs → bs ≡ encode_utf8 c ++ rest → done ++ every_after k 0 (chars bs) ≡ whole → (done ++ c ∷ []) ++ every_after k (k - 1) (chars rest) ≡ whole
char_taken k done bs rest c whole u e g =
    append_assoc done (c ∷ []) (every_after k (k - 1) (chars rest))
    ∙ ap (λ (l : List ℕ). done ++ every_after k 0 l) (sym (chars_past_char bs rest c u e))
    ∙ g

item_passed : (k n : ℕ) (x : ℕ) (xs : List ℕ) → 0 < n → every_after k n (x ∷ xs) ≡ every_after k (n - 1) xs
item_passed k zero x xs h = absurd (omega arith)
item_passed k (suc n) x xs h = ap (λ m. every_after k m xs) {x = n} {y = suc n - 1} (omega arith)

pub char_passed : (k n : ℕ) (done bs rest : List ℕ) (c : ℕ) (whole : List ℕ) → 0 < n → IsUtf8 bs → bs ≡ encode_utf8 c ++ rest → done ++ every_after k n (chars bs) ≡ whole → done ++ every_after k (n - 1) (chars rest) ≡ whole
char_passed k n done bs rest c whole h u e g =
    ap (λ (l : List ℕ). done ++ l) (sym (item_passed k n c (chars rest) h) ∙ ap (every_after k n) (sym (chars_past_char bs rest c u e))) ∙ g

-- a character from the end
pub front_utf8 : (bs rest : List ℕ) (c : ℕ) → IsScalar c → IsUtf8 bs → bs ≡ rest ++ encode_utf8 c → IsUtf8 rest
front_utf8 bs rest c s u e =
    let part : take (length rest) bs ≡ rest = ap (take (length rest)) e ∙ take-append_seam rest (encode_utf8 c) in
    subst IsUtf8 part (IsUtf8-take bs (length rest) u (IsCharBoundary-at_seam bs rest (encode_utf8 c) e (IsUtf8-encode c s)))

pub turned_chars : (bs rest : List ℕ) (c : ℕ) → IsScalar c → IsUtf8 bs → bs ≡ rest ++ encode_utf8 c → reverse (chars bs) ≡ c ∷ reverse (chars rest)
turned_chars bs rest c s u e =
    ap reverse (ap chars e ∙ chars-append rest (encode_utf8 c) (front_utf8 bs rest c s u e) ∙ ap (λ (l : List ℕ). chars rest ++ l) (one_scalar c s))
    ∙ reverse-append (chars rest) (c ∷ [])

pub back_taken : (k : ℕ) (done bs rest : List ℕ) (c : ℕ) (whole : List ℕ) → IsScalar c → IsUtf8 bs → bs ≡ rest ++ encode_utf8 c → done ++ every_after k 0 (reverse (chars bs)) ≡ whole → (done ++ c ∷ []) ++ every_after k (k - 1) (reverse (chars rest)) ≡ whole
back_taken k done bs rest c whole s u e g =
    append_assoc done (c ∷ []) (every_after k (k - 1) (reverse (chars rest)))
    ∙ ap (λ (l : List ℕ). done ++ every_after k 0 l) (sym (turned_chars bs rest c s u e))
    ∙ g

pub back_passed : (k n : ℕ) (done bs rest : List ℕ) (c : ℕ) (whole : List ℕ) → 0 < n → IsScalar c → IsUtf8 bs → bs ≡ rest ++ encode_utf8 c → done ++ every_after k n (reverse (chars bs)) ≡ whole → done ++ every_after k (n - 1) (reverse (chars rest)) ≡ whole
back_passed k n done bs rest c whole h s u e g =
    ap (λ (l : List ℕ). done ++ l) (sym (item_passed k n c (reverse (chars rest)) h) ∙ ap (every_after k n) (sym (turned_chars bs rest c s u e))) ∙ g

-- a character pushed
pub pushed : (old new : List ℕ) (c : ℕ) → IsScalar c → IsUtf8 old → new ≡ old ++ encode_utf8 c → chars new ≡ chars old ++ c ∷ []
pushed old new c s u e = ap chars e ∙ chars-append old (encode_utf8 c) u ∙ ap (λ (l : List ℕ). chars old ++ l) (one_scalar c s)

-- how many items are taken of n, and where the i-th of them is
one_more : (k i : ℕ) → k * (i + 1) ≡ i * k + k
one_more k i = mul_comm k (i + 1) ∙ ap (λ (n : ℕ). n * k) {x = i + 1} {y = suc i} (omega arith) ∙ suc-mul i k

pub place_inside : (k i n : ℕ) → 1 ≤ k → i < div_ceil n k → i * k < n
place_inside k i n h b =
    let most = div_ceil_times n k h in
    let next : k * (i + 1) ≤ k * div_ceil n k = mul-le-mul_left k (omega arith) in
    let turned : k * div_ceil n k ≡ div_ceil n k * k = mul_comm k (div_ceil n k) in
    omega (arith, next, turned, one_more k i, most.1)

place_past : (k n : ℕ) → 1 ≤ k → n ≤ div_ceil n k * k
place_past k n h = (div_ceil_times n k h).0

-- none taken
pub strides_begin : (k : ℕ) (kept L : List ℕ) → kept ≡ [] → kept ++ every k (drop (0 * k) L) ≡ every k L
strides_begin k kept L e = ap (λ (l : List ℕ). l ++ every k (drop (0 * k) L)) e ∙ ap (λ n. every k (drop n L)) (zero-mul k)

-- one more taken
pub stride_taken : (k i : ℕ) (kept new L : List ℕ) (whole : List ℕ) → 1 ≤ k → i * k < length L → new ≡ kept ++ get_or L (i * k) 0 ∷ [] → kept ++ every k (drop (i * k) L) ≡ whole → new ++ every k (drop ((i + 1) * k) L) ≡ whole
stride_taken k i kept new L whole h b e g =
    let first : slice_get (drop (i * k) L) 0 ≡ Some (get_or L (i * k) 0) =
    slice_get-get_or (drop (i * k) L) 0 0 (omega (arith, length-drop (i * k) L)) ∙ ap Some (get_or-drop (i * k) L 0 0 ∙ ap (λ n. get_or L n 0) (add-zero (i * k))) in
    let place : i * k + k ≡ (i + 1) * k = sym (one_more k i) ∙ mul_comm k (i + 1) in
    let next : drop k (drop (i * k) L) ≡ drop ((i + 1) * k) L = drop-drop k (i * k) L ∙ ap (λ n. drop n L) place in
    ap (λ (l : List ℕ). l ++ every k (drop ((i + 1) * k) L)) e
    ∙ ap (λ (l : List ℕ). (kept ++ get_or L (i * k) 0 ∷ []) ++ every k l) (sym next)
    ∙ stride_on k kept (drop (i * k) L) (get_or L (i * k) 0) whole h first g

-- all taken
pub strides_end : (k n : ℕ) (kept L : List ℕ) (whole : List ℕ) → 1 ≤ k → n ≡ div_ceil (length L) k → kept ++ every k (drop (n * k) L) ≡ whole → kept ≡ whole
strides_end k n kept L whole h e g =
    let past : length L ≤ n * k = subst (λ m. length L ≤ m * k) (sym e) (place_past k (length L) h) in
    sym (append-nil kept) ∙ ap (λ (l : List ℕ). kept ++ every k l) (sym (drop_all (n * k) L past)) ∙ g

-- nothing taken so far, and nothing left
pub begun : (k : ℕ) (bs : List ℕ) (L : List ℕ) → bs ≡ [] → chars bs ++ every_after k 0 L ≡ every k L
begun k bs L e = ap (λ (l : List ℕ). l ++ every k L) (ap chars e ∙ chars-nil)

pub ended : (k n : ℕ) (done bs whole : List ℕ) → length bs ≡ 0 → done ++ every_after k n (chars bs) ≡ whole → done ≡ whole
ended k n done bs whole none g = sym (append-nil done) ∙ ap (λ (l : List ℕ). done ++ every_after k n l) (sym (ap chars (nil_from_length bs none) ∙ chars-nil)) ∙ g

pub ended_back : (k n : ℕ) (done bs whole : List ℕ) → length bs ≡ 0 → done ++ every_after k n (reverse (chars bs)) ≡ whole → done ≡ whole
ended_back k n done bs whole none g = sym (append-nil done) ∙ ap (λ (l : List ℕ). done ++ every_after k n (reverse l)) (sym (ap chars (nil_from_length bs none) ∙ chars-nil)) ∙ g
