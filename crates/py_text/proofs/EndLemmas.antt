-- A text that begins or ends with a text, in bytes and in code points.
use Rattle.std.proofs.Common.{◌≡◌, ℕ, ◌+◌, ◌-◌, ◌<◌, ◌≤◌, ◌⊎◌, inl, inr, Bool, true, false, nat_le, List, [], ◌++◌, length, take, drop, refl, ap, sym, ◌∙◌, arith, length-append, length-drop, ℤ, Option, IsUtf8, chars, encode_utf8_all, MatchBool}
use Rattle.std.proofs.Math.Seq.{drop-append_seam}
use Rattle.std.proofs.lemmas.List.{take-append-drop, append-nil, nil_from_length}
use Rattle.std.proofs.lemmas.Bool.Decides.{nat_tests}
use Rattle.std.specs.Str.Pattern.{FindsTextPrefix, FindsTextSuffix, HasPrefixMatch, HasSuffixMatch}
use Rattle.std.specs.declared.option.Option.TheVariants.{None}
use Rattle.std.proofs.lemmas.Str.{encodes-chars, chars-append, encodes-append, IsUtf8-take}
use Rattle.py_text.specs.Occurrences.{occurs_at}
use Rattle.py_text.specs.Search.{begins_with, ends_with}
use Rattle.py_text.specs.Window.{window_start, window_end}
use Rattle.py_text.proofs.OccursLemmas.{OccursAt, occurs_true, occurs_means, not_true, in_bytes}
use Rattle.py_text.proofs.WindowLemmas.{Inside, IsWindow, window_inside, same_test}

pub prefix_is : (r : Bool) (n s : List ℕ) → IsUtf8 n → IsUtf8 s → MatchBool r (HasPrefixMatch (FindsTextPrefix n) s) (FindsTextPrefix n s None) → r ≡ occurs_at (chars n) (chars s) 0 (length (chars s)) 0
prefix_is true n s u v m =
    let points : chars s ≡ chars n ++ chars (drop m.0 s) = ap chars m.1.1 ∙ chars-append n (drop m.0 s) u in
    sym (occurs_true (chars n) (chars s) 0 (length (chars s)) 0 (omega arith) (omega (arith, ap length points, length-append (chars n) (chars (drop m.0 s)))) (chars (drop m.0 s), points))
prefix_is false n s u v m = sym (not_true _ (λ t. let r = in_bytes n s 0 u v (occurs_means (chars n) (chars s) 0 (length (chars s)) 0 t).there in m r.0 r.1))

last_bytes : (n s front : List ℕ) → IsUtf8 n → IsUtf8 s → chars s ≡ front ++ chars n → s ≡ encode_utf8_all front ++ n
last_bytes n s front u v e =
    sym (encodes-chars s v) ∙ ap encode_utf8_all e ∙ encodes-append front (chars n) ∙ ap (λ r. encode_utf8_all front ++ r) (encodes-chars n u)

ends_there : (x L : List ℕ) → OccursAt x L 0 (length L) (length L - length x) → L ≡ take (length L - length x) L ++ x
ends_there x L s =
    let rest : s.there.0 ≡ [] = nil_from_length s.there.0 (omega (arith, s.to, ap length s.there.1, length-append x s.there.0, length-drop (length L - length x) L)) in
    sym (take-append-drop (length L - length x) L) ∙ ap (λ r. take (length L - length x) L ++ r) (s.there.1 ∙ ap (λ r. x ++ r) rest ∙ append-nil x)

pub suffix_is : (r : Bool) (n s : List ℕ) → IsUtf8 n → IsUtf8 s → MatchBool r (HasSuffixMatch (FindsTextSuffix n) s) (FindsTextSuffix n s None) → r ≡ occurs_at (chars n) (chars s) 0 (length (chars s)) (length (chars s) - length (chars n))
suffix_is true n s u v m =
    let front : List ℕ = take (length s - m.0) s in
    let points : chars s ≡ chars (take (length s - m.0) s) ++ chars n = ap chars m.1.1 ∙ chars-append (take (length s - m.0) s) n (IsUtf8-take s (length s - m.0) v m.3) in
    let at : length (chars s) - length (chars n) ≡ length (chars (take (length s - m.0) s)) = omega (arith, ap length points, length-append (chars (take (length s - m.0) s)) (chars n)) in
    let there : drop (length (chars s) - length (chars n)) (chars s) ≡ chars n ++ [] =
    ap (λ k. drop k (chars s)) at ∙ ap (drop (length (chars (take (length s - m.0) s)))) points ∙ drop-append_seam (chars (take (length s - m.0) s)) (chars n) ∙ sym (append-nil (chars n)) in
    sym (occurs_true (chars n) (chars s) 0 (length (chars s)) (length (chars s) - length (chars n)) (omega arith) (omega (arith, ap length points, length-append (chars (take (length s - m.0) s)) (chars n))) ([], there))
suffix_is false n s u v m =
    sym (not_true _ (λ t.
    let e : chars s ≡ take (length (chars s) - length (chars n)) (chars s) ++ chars n = ends_there (chars n) (chars s) (occurs_means (chars n) (chars s) 0 (length (chars s)) (length (chars s) - length (chars n)) t) in
    m (encode_utf8_all (take (length (chars s) - length (chars n)) (chars s))) (last_bytes n s (take (length (chars s) - length (chars n)) (chars s)) u v e)))

-- the window begins with x just where its part does
pub window_begins : (x y L part : List ℕ) (start end : Option ℤ) (from to : ℕ) (r : Bool) → IsWindow L part start end from to → y ≡ x → r ≡ occurs_at y part 0 (length part) 0 → r ≡ begins_with x L start end
window_begins x y L part start end from to r w n q =
    let b : ℕ = window_start (length L) start in
    let e : ℕ = window_end (length L) end in
    let zero_more : window_start (length L) start + 0 ≡ window_start (length L) start = omega arith in
    q ∙ ap (λ l. occurs_at l part 0 (length part) 0) n ∙ sym (same_test x L part (window_start (length L) start) (window_end (length L) end) 0 0 (window_inside L part start end from to w))
    ∙ ap (λ k. occurs_at x L k (window_end (length L) end) k) zero_more

too_long : (x L : List ℕ) (b e : ℕ) → e < b + length x → occurs_at x L b e (e - length x) ≡ false
too_long x L b e h = not_true _ (λ t. let s = occurs_means x L b e (e - length x) t in absurd (omega (arith, s.from, s.to)))

same_end : (x L W : List ℕ) (b e : ℕ) → Inside L W b e → (length x ≤ length W) ⊎ (length W < length x) → occurs_at x L b e (e - length x) ≡ occurs_at x W 0 (length W) (length W - length x)
same_end x L W b e i (inl h) =
    let start : b + 0 ≡ b = omega arith in
    let at : b + (length W - length x) ≡ e - length x = omega (arith, i.ends) in
    sym (ap (λ k. occurs_at x L k e (b + (length W - length x))) start ∙ ap (λ a. occurs_at x L b e a) at) ∙ same_test x L W b e 0 (length W - length x) i
same_end x L W b e i (inr h) = too_long x L b e (omega (arith, i.ends)) ∙ sym (too_long x W 0 (length W) (omega arith))

le_or_lt : (a b : ℕ) → (a ≤ b) ⊎ (b < a)
le_or_lt a b = elim (nat_le a b) as (λ t. nat_le a b ≡ t → (a ≤ b) ⊎ (b < a)) [ true ↦ λ e. inl (grind (arith, nat_tests)) | false ↦ λ e. inr (grind (arith, nat_tests)) ] refl

pub window_ends : (x y L part : List ℕ) (start end : Option ℤ) (from to : ℕ) (r : Bool) → IsWindow L part start end from to → y ≡ x → r ≡ occurs_at y part 0 (length part) (length part - length y) → r ≡ ends_with x L start end
window_ends x y L part start end from to r w n q =
    q ∙ ap (λ l. occurs_at l part 0 (length part) (length part - length l)) n
    ∙ sym (same_end x L part (window_start (length L) start) (window_end (length L) end) (window_inside L part start end from to w) (le_or_lt (length x) (length part)))
