-- ASCII characters that are written as they are, by their bytes.
use Rattle.std.proofs.Common.{◌≡◌, ◌∙◌, ◌+◌, ◌<◌, ℕ, Bool, true, false, not, ◌&&◌, ◌||◌, nat_eq, List, ◌++◌, length, drop, get_or, refl, sym, ap, subst, arith}
use Rattle.std.proofs.lemmas.Bool.Decides.{nat_tests}
use Rattle.std.proofs.lemmas.List.{drop_more}
use Rattle.std.proofs.lemmas.Str.{encode_ascii, len_utf8_ascii}
use Rattle.py_base.specs.Chars.Classes.{between}
use Rattle.py_str.specs.Passing.{IsPassed}
use Rattle.py_str.specs.Quote.{plain_of, is_kept}
use Rattle.py_str.proofs.PassingLemmas.{passed_more}
use Rattle.py_str.proofs.PrintableLemmas.{plain_yes}

-- one byte more, of ASCII
passed_ascii : (q : ℕ → Bool) (s : List ℕ) (at : ℕ) → at < length s → get_or s at 0 < 128 → q (get_or s at 0) ≡ true → IsPassed q s (drop at s) at → IsPassed q s (drop (at + 1) s) (at + 1)
passed_ascii q s at l small h p =
    let b = get_or s at 0 in
    subst (λ (n : ℕ). IsPassed q s (drop (at + 1) s) n) (ap (λ (n : ℕ). at + n) (len_utf8_ascii b small))
    (passed_more q s (drop at s) (drop (at + 1) s) at b h (drop_more s at 0 l ∙ ap (λ (x : List ℕ). x ++ drop (at + 1) s) (sym (encode_ascii b small))) p)

and_first : (a b : Bool) → (a && b) ≡ true → a ≡ true
and_first true b h = refl
and_first false b h = absurd (cc)

class_first : (quote c : ℕ) (plain : Bool) → is_kept quote plain c ≡ true → plain ≡ true
class_first quote c plain h = and_first plain (not (nat_eq c quote || nat_eq c 92 || nat_eq c 10 || nat_eq c 13 || nat_eq c 9)) h

small_of : (c : ℕ) → between 32 126 c ≡ true → c < 128
small_of c h = grind (arith, nat_tests)

kept_plain : (quote c : ℕ) (ascii : Bool) → is_kept quote (between 32 126 c) c ≡ true → is_kept quote (plain_of ascii c) c ≡ true
kept_plain quote c ascii h =
    let plain = class_first quote c (between 32 126 c) h in
    ap (λ (b : Bool). is_kept quote b c) (sym (plain_yes ascii c plain)) ∙ sym (ap (λ (b : Bool). is_kept quote b c) plain) ∙ h

kept_at : (quote : ℕ) (ascii : Bool) (s : List ℕ) (at : ℕ) → at < length s → is_kept quote (between 32 126 (get_or s at 0)) (get_or s at 0) ≡ true
    → IsPassed (λ c. is_kept quote (plain_of ascii c) c) s (drop at s) at → IsPassed (λ c. is_kept quote (plain_of ascii c) c) s (drop (at + 1) s) (at + 1)
kept_at quote ascii s at l h p =
    let b = get_or s at 0 in
    passed_ascii (λ c. is_kept quote (plain_of ascii c) c) s at l (small_of b (class_first quote b (between 32 126 b) h)) (kept_plain quote b ascii h) p

pub kept_more : (quote : ℕ) (ascii : Bool) (s bs : List ℕ) (at b : ℕ) → bs ≡ s → at < length bs → b ≡ get_or bs at 0 → is_kept quote (between 32 126 b) b ≡ true
    → IsPassed (λ c. is_kept quote (plain_of ascii c) c) s (drop at s) at → IsPassed (λ c. is_kept quote (plain_of ascii c) c) s (drop (at + 1) s) (at + 1)
kept_more quote ascii s bs at b e l r h p =
    let same : b ≡ get_or s at 0 = r ∙ ap (λ (x : List ℕ). get_or x at 0) e in
    kept_at quote ascii s at (omega (arith, l, ap length e)) (sym (ap (λ (d : ℕ). is_kept quote (between 32 126 d) d) same) ∙ h) p
