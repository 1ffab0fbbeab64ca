-- A text without its next character, and the characters before the next `%`.
use Rattle.std.proofs.Common.{◌≡◌, ◌==◌, ◌∙◌, ℕ, ◌+◌, ◌-◌, ◌<◌, cond, if◌then◌else◌, length-append, Bool, true, false, not, List, [], ◌∷◌, length, take, drop, sym, ap, refl, arith, chars, IsUtf8, IsCharBoundary, Some, None, encode_utf8, ◌++◌}
use Rattle.std.specs.Str.Pattern.{FindsChar, FindsBy}
use Rattle.std.proofs.lemmas.List.{nil_from_length}
use Rattle.std.proofs.lemmas.List.Sums.{take_while-cons}
use Rattle.std.proofs.lemmas.Str.{chars_past_char, chars-nil}
use Rattle.py_text.proofs.UntilLemmas.{found_front, none_front}
use Rattle.py_spec.specs.Percent.Literals.{is_plain, plain, after_plain}

pub no_chars : (bs : List ℕ) → length bs ≡ 0 → chars bs ≡ []
no_chars bs e = ap chars (nil_from_length bs e) ∙ chars-nil

pub none_skipped : (bs : List ℕ) → length bs ≡ 0 → chars bs ≡ drop 1 (chars bs)
none_skipped bs e = no_chars bs e ∙ sym (ap (drop 1) (no_chars bs e))

pub first_skipped : (bs rest : List ℕ) (c : ℕ) → IsUtf8 bs → bs ≡ encode_utf8 c ++ rest → chars rest ≡ drop 1 (chars bs)
first_skipped bs rest c u e = sym (ap (drop 1) (chars_past_char bs rest c u e))

pub one_there : (bs rest : List ℕ) (c : ℕ) → IsUtf8 bs → bs ≡ encode_utf8 c ++ rest → 0 < length (chars bs)
one_there bs rest c u e = omega (arith, ap length (chars_past_char bs rest c u e))

pub one_less : (bs rest : List ℕ) (c : ℕ) → IsUtf8 bs → bs ≡ encode_utf8 c ++ rest → length (chars bs) - 1 ≡ length (chars rest)
one_less bs rest c u e = omega (arith, ap length (chars_past_char bs rest c u e))

-- a percent sign, found
found : (s : List ℕ) (i j : ℕ) → FindsChar 37 s (Some (i, j)) → FindsBy (λ d. d == 37) s (Some (i, j))
found s i j f = (f.0, (37, refl, f.1))

pub plain_taken : (s : List ℕ) (i j : ℕ) → IsUtf8 s → FindsChar 37 s (Some (i, j)) → IsCharBoundary s i → chars (take i s) ≡ plain (chars s)
plain_taken s i j u f b = sym (found_front (λ d. d == 37) is_plain (λ c. refl) s i j u (found s i j f) b).taken

pub plain_left : (s : List ℕ) (i j : ℕ) → IsUtf8 s → FindsChar 37 s (Some (i, j)) → IsCharBoundary s i → chars (drop i s) ≡ after_plain (chars s)
plain_left s i j u f b = sym (found_front (λ d. d == 37) is_plain (λ c. refl) s i j u (found s i j f) b).skipped

pub all_plain : (s : List ℕ) → IsUtf8 s → FindsChar 37 s None → chars s ≡ plain (chars s)
all_plain s u f = sym (none_front (λ d. d == 37) is_plain (λ c. refl) s u f).taken

pub none_left : (s : List ℕ) → IsUtf8 s → FindsChar 37 s None → [] ≡ after_plain (chars s)
none_left s u f = sym (none_front (λ d. d == 37) is_plain (λ c. refl) s u f).skipped

plain_length : (cs : List ℕ) → length (plain cs) + length (after_plain cs) ≡ length cs
plain_length [] = refl
plain_length (c ∷ cs) = by_test (c == 37) refl (plain_length cs) where
  by_test : (b : Bool) → (c == 37) ≡ b → length (plain cs) + length (after_plain cs) ≡ length cs → length (plain (c ∷ cs)) + length (after_plain (c ∷ cs)) ≡ length (c ∷ cs)
  by_test true e h =
      let taken : plain (c ∷ cs) ≡ [] = take_while-cons is_plain c cs ∙ ap (λ b. cond (not b) (c ∷ plain cs) []) e in
      let left : after_plain (c ∷ cs) ≡ c ∷ cs = ap (λ b. if not b then after_plain cs else c ∷ cs) e in
      omega (arith, ap length taken, ap length left)
  by_test false e h =
      let taken : plain (c ∷ cs) ≡ c ∷ plain cs = take_while-cons is_plain c cs ∙ ap (λ b. cond (not b) (c ∷ plain cs) []) e in
      let left : after_plain (c ∷ cs) ≡ after_plain cs = ap (λ b. if not b then after_plain cs else c ∷ cs) e in
      omega (arith, ap length taken, ap length left, h)

-- how many characters are left, where those before the next percent sign were put at the end of a text
pub left_after : (bs front back : List ℕ) (n left before after : ℕ) (old new : List ℕ) → left ≡ length (chars bs) → front ≡ take n bs → back ≡ drop n bs → chars (take n bs) ≡ plain (chars bs) → chars (drop n bs) ≡ after_plain (chars bs) → before ≡ length old → after ≡ length new → new ≡ old ++ chars front → left - (after - before) ≡ length (chars back)
left_after bs front back n left before after old new l f b p r o a w =
    let taken : chars front ≡ plain (chars bs) = ap chars f ∙ p in
    let rest : chars back ≡ after_plain (chars bs) = ap chars b ∙ r in
    omega (arith, l, plain_length (chars bs), ap length taken, ap length rest, o, a, ap length w, length-append old (chars front))
