-- Prefixes and suffixes of texts, by their bytes.
use Rattle.std.proofs.Common.{◌≡◌, ◌∙◌, ◌-◌, ℕ, Bool, true, false, List, ◌++◌, length, take, drop, sym, ap, refl, arith, chars, encode_utf8_all, None, subst}
use Rattle.std.specs.Str.{IsUtf8}
use Rattle.std.specs.Str.Pattern.{FindsTextPrefix, FindsTextSuffix, StripsPrefix, StripsSuffix}
use Rattle.std.specs.Cmp.Lexicographic.{bytes_decides}
use Rattle.std.proofs.lemmas.Str.{chars-append, encodes-append, encodes-chars, IsUtf8-take}
use Rattle.std.proofs.lemmas.List.{take-append-drop, length-append}
use Rattle.std.proofs.Math.Seq.{take-append_seam, drop-append_seam}
use Rattle.py_text.specs.Affixes.{same, without_prefix, without_suffix}

same_self : (xs : List ℕ) → same xs xs ≡ true
same_self xs = (bytes_decides xs xs).1 refl

-- what is after a prefix, and before a suffix
after : (p q L : List ℕ) → L ≡ p ++ q → without_prefix p L ≡ q
after p q L e =
    let front : take (length p) L ≡ p = ap (take (length p)) e ∙ take-append_seam p q in
    let back : drop (length p) L ≡ q = ap (drop (length p)) e ∙ drop-append_seam p q in
    rw (front, same_self p) back

before : (p q L : List ℕ) → L ≡ q ++ p → without_suffix p L ≡ q
before p q L e =
    let n : length L - length p ≡ length q = omega (arith, ap length e, length-append q p) in
    let front : take (length L - length p) L ≡ q = ap (λ k. take k L) n ∙ ap (take (length q)) e ∙ take-append_seam q p in
    let back : drop (length L - length p) L ≡ p = ap (λ k. drop k L) n ∙ ap (drop (length q)) e ∙ drop-append_seam q p in
    rw (back, same_self p) front

-- a text without one, by bytes
pub stripped_prefix : (P S x : List ℕ) → IsUtf8 P → StripsPrefix (FindsTextPrefix P) S x → chars x ≡ without_prefix (chars P) (chars S)
stripped_prefix P S x u h =
    let parts : S ≡ P ++ x = h.1.1 ∙ ap (λ (l : List ℕ). P ++ l) (sym h.2) in
    sym (after (chars P) (chars x) (chars S) (ap chars parts ∙ chars-append P x u))

pub stripped_suffix : (P S x : List ℕ) → IsUtf8 S → StripsSuffix (FindsTextSuffix P) S x → chars x ≡ without_suffix (chars P) (chars S)
stripped_suffix P S x u h =
    let (n, found, cut, long) = h in
    let parts : S ≡ x ++ P = found.1 ∙ ap (λ (l : List ℕ). l ++ P) (sym cut) in
    let until : x ≡ take (length S - length P) S = cut ∙ ap (λ k. take (length S - k) S) found.0 in
    let utf8 : IsUtf8 x = subst IsUtf8 (sym until) (IsUtf8-take S (length S - length P) u found.2) in
    sym (before (chars P) (chars x) (chars S) (ap chars parts ∙ chars-append x P utf8))

prefix_kept : (p L : List ℕ) (t : Bool) → same (take (length p) L) p ≡ t → (t ≡ true → ⊥) → without_prefix p L ≡ L
prefix_kept p L true e never = absurd (never refl)
prefix_kept p L false e never = rw e refl

suffix_kept : (p L : List ℕ) (t : Bool) → same (drop (length L - length p) L) p ≡ t → (t ≡ true → ⊥) → without_suffix p L ≡ L
suffix_kept p L true e never = absurd (never refl)
suffix_kept p L false e never = rw e refl

-- the bytes of a text in two parts
spelt : (S a b : List ℕ) → IsUtf8 S → chars S ≡ a ++ b → S ≡ encode_utf8_all a ++ encode_utf8_all b
spelt S a b u e = sym (encodes-chars S u) ∙ ap encode_utf8_all e ∙ encodes-append a b

pub no_prefix : (P S : List ℕ) → IsUtf8 P → IsUtf8 S → FindsTextPrefix P S None → chars S ≡ without_prefix (chars P) (chars S)
no_prefix P S u v h = sym (prefix_kept (chars P) (chars S) (same (take (length (chars P)) (chars S)) (chars P)) refl (λ e.
    let front : take (length (chars P)) (chars S) ≡ chars P = (bytes_decides (take (length (chars P)) (chars S)) (chars P)).0 e in
    let parts : chars S ≡ chars P ++ drop (length (chars P)) (chars S) = sym (take-append-drop (length (chars P)) (chars S)) ∙ ap (λ (l : List ℕ). l ++ drop (length (chars P)) (chars S)) front in
    let bytes : S ≡ P ++ encode_utf8_all (drop (length (chars P)) (chars S)) = spelt S (chars P) (drop (length (chars P)) (chars S)) v parts ∙ ap (λ (l : List ℕ). l ++ encode_utf8_all (drop (length (chars P)) (chars S))) (encodes-chars P u) in
    h (encode_utf8_all (drop (length (chars P)) (chars S))) bytes))

pub no_suffix : (P S : List ℕ) → IsUtf8 P → IsUtf8 S → FindsTextSuffix P S None → chars S ≡ without_suffix (chars P) (chars S)
no_suffix P S u v h = sym (suffix_kept (chars P) (chars S) (same (drop (length (chars S) - length (chars P)) (chars S)) (chars P)) refl (λ e.
    let n = length (chars S) - length (chars P) in
    let back : drop n (chars S) ≡ chars P = (bytes_decides (drop n (chars S)) (chars P)).0 e in
    let parts : chars S ≡ take n (chars S) ++ chars P = sym (take-append-drop n (chars S)) ∙ ap (λ (l : List ℕ). take n (chars S) ++ l) back in
    let bytes : S ≡ encode_utf8_all (take n (chars S)) ++ P = spelt S (take n (chars S)) (chars P) v parts ∙ ap (λ (l : List ℕ). encode_utf8_all (take n (chars S)) ++ l) (encodes-chars P u) in
    h (encode_utf8_all (take n (chars S))) bytes))
