-- What `ascii` writes: one character, and a text in runs.
use Rattle.std.proofs.Common.{◌≡◌, ◌∙◌, ℕ, ◌+◌, ◌-◌, ◌<◌, ◌≤◌, Bool, true, false, not, cond, if◌then◌else◌, ◌&&◌, ◌||◌, ◌==◌, nat_le, List, [], ◌∷◌, ◌++◌, length, take, drop, get_or, take_while, chars, IsUtf8, subst, refl, sym, ap, arith, append_assoc, append-nil, length-append, length-drop}
use Rattle.std.specs.Prelude.{slice_range}
use Rattle.std.proofs.Math.Seq.{take-append_seam}
use Rattle.std.proofs.lemmas.Bool.Decides.{nat_tests}
use Rattle.std.proofs.lemmas.List.{drop_more, nil_from_length}
use Rattle.std.proofs.lemmas.List.Sums.{take_while-cons}
use Rattle.std.proofs.lemmas.Str.{encode_ascii, len_utf8_ascii, chars_past_char, chars-nil}
use Rattle.std.specs.Char.{encode_utf8}
use Rattle.py_base.specs.Chars.Whitespace.{skip_while}
use Rattle.py_str.specs.Passing.{IsPassed}
use Rattle.py_str.proofs.PassingLemmas.{passed_more}
use Rattle.py_base.specs.Chars.Classes.{is_printable}
use Rattle.py_base.specs.Chars.Quoting.{by_number, quote_of, quoted_char, quoted_chars}
use Rattle.py_str.specs.Quote.{is_plain, text_ascii}
use Rattle.py_value.specs.Printing.{is_kept, ascii_char, escaped}

pub ascii_kept : (c : ℕ) → c ≤ 126 → ascii_char c ≡ c ∷ []
ascii_kept c le = let e : nat_le c 126 ≡ true = grind (arith, nat_tests) in ap (λ (b : Bool). cond b (c ∷ []) (by_number c)) e

pub ascii_past : (c : ℕ) → 126 < c → ascii_char c ≡ by_number c
ascii_past c lt = let e : nat_le c 126 ≡ false = grind (arith, nat_tests) in ap (λ (b : Bool). cond b (c ∷ []) (by_number c)) e

and_false : (a b : Bool) → b ≡ false → (a && b) ≡ false
and_false true b h = h
and_false false b h = refl

quote_case : (b d : Bool) → b ≡ false → ◌≡◌ {A = ℕ} (cond ((b || false) && d) 34 39) 39
quote_case true d h = absurd (cc)
quote_case false d h = refl

char_case : (q s n r t p : Bool) (A B C D E F : List ℕ) → q ≡ false → s ≡ false → n ≡ false → r ≡ false → t ≡ false → p ≡ false → cond (q || s) A (cond n B (cond r C (cond t D (cond p E F)))) ≡ F
char_case q s n r t p A B C D E F a b d e f g = rw (a, b, d, e, f, g) refl

-- past `~` a character is written by its number
past_char : (c : ℕ) → 126 < c → quoted_char 39 (is_plain c) c ≡ by_number c
past_char c lt =
    let a : (c == 39) ≡ false = grind (arith, nat_tests) in
    let b : (c == 92) ≡ false = grind (arith, nat_tests) in
    let d : (c == 10) ≡ false = grind (arith, nat_tests) in
    let e : (c == 13) ≡ false = grind (arith, nat_tests) in
    let f : (c == 9) ≡ false = grind (arith, nat_tests) in
    let g : nat_le c 126 ≡ false = grind (arith, nat_tests) in
    char_case (c == 39) (c == 92) (c == 10) (c == 13) (c == 9) (is_plain c) _ _ _ _ _ (by_number c) a b d e f (and_false (is_printable c) (nat_le c 126) g)

past_quote : (c : ℕ) → 126 < c → quote_of (c ∷ []) ≡ 39
past_quote c lt = let a : (c == 39) ≡ false = grind (arith, nat_tests) in quote_case (c == 39) (not ((c == 34) || false)) a

past_ascii : (c : ℕ) → 126 < c → text_ascii (c ∷ []) ≡ 39 ∷ (by_number c ++ 39 ∷ [])
past_ascii c lt =
    ap (λ (q : ℕ). q ∷ ((quoted_char q (is_plain c) c ++ []) ++ q ∷ [])) (past_quote c lt)
    ∙ ap (λ (l : List ℕ). 39 ∷ (l ++ 39 ∷ [])) (append-nil (quoted_char 39 (is_plain c) c) ∙ past_char c lt)

inner : (q : ℕ) (xs : List ℕ) → slice_range (q ∷ (xs ++ q ∷ [])) 1 (length (q ∷ (xs ++ q ∷ [])) - 1) ≡ xs
inner q xs =
    let n : length (q ∷ (xs ++ q ∷ [])) - 1 - 1 ≡ length xs = omega (arith, length-append xs (q ∷ [])) in
    ap (λ (k : ℕ). take k (xs ++ q ∷ [])) n ∙ take-append_seam xs (q ∷ [])

-- the escape is what is between the quotes
pub ascii_inner : (c : ℕ) (t : List ℕ) → 126 < c → t ≡ text_ascii (c ∷ []) → slice_range t 1 (length t - 1) ≡ ascii_char c
ascii_inner c t lt is =
    ap (λ (l : List ℕ). slice_range l 1 (length l - 1)) (is ∙ past_ascii c lt) ∙ inner 39 (by_number c) ∙ sym (ascii_past c lt)

pub ascii_length : (c : ℕ) (t : List ℕ) → t ≡ text_ascii (c ∷ []) → 2 ≤ length t
ascii_length c t is =
    let q = quote_of (c ∷ []) in
    let n = length-append (quoted_chars q is_plain (c ∷ [])) (q ∷ []) in
    let e = ap length is in
    omega (arith, n, e)

-- one kept byte more
passed_at : (s : List ℕ) (at : ℕ) → at < length s → get_or s at 0 ≤ 126 → IsPassed is_kept s (drop at s) at → IsPassed is_kept s (drop (at + 1) s) (at + 1)
passed_at s at l le p =
    let b = get_or s at 0 in
    let small : b < 128 = omega (arith, le) in
    let kept : is_kept b ≡ true = grind (arith, nat_tests) in
    subst (λ (n : ℕ). IsPassed is_kept s (drop (at + 1) s) n) (ap (λ (n : ℕ). at + n) (len_utf8_ascii b small))
    (passed_more is_kept s (drop at s) (drop (at + 1) s) at b kept (drop_more s at 0 l ∙ ap (λ (x : List ℕ). x ++ drop (at + 1) s) (sym (encode_ascii b small))) p)

pub passed_byte : (s bs : List ℕ) (at : ℕ) → bs ≡ s → at < length bs → get_or bs at 0 ≤ 126 → IsPassed is_kept s (drop at s) at → IsPassed is_kept s (drop (at + 1) s) (at + 1)
passed_byte s bs at e l le p = passed_at s at (omega (arith, l, ap length e)) (subst (λ (x : List ℕ). get_or x at 0 ≤ 126) e le) p

run_case : (c : ℕ) (cs : List ℕ) (b : Bool) → escaped cs ≡ take_while is_kept cs ++ escaped (skip_while is_kept cs)
    → (if b then c ∷ [] else by_number c) ++ escaped cs ≡ (if b then c ∷ take_while is_kept cs else []) ++ (if b then escaped (skip_while is_kept cs) else (if b then c ∷ [] else by_number c) ++ escaped cs)
run_case c cs true i = ap (λ (l : List ℕ). c ∷ l) i
run_case c cs false i = refl

skip_case : (c : ℕ) (cs : List ℕ) (b : Bool) → (if b then escaped (skip_while is_kept cs) else ascii_char c ++ escaped cs) ≡ escaped (if b then skip_while is_kept cs else c ∷ cs)
skip_case c cs true = refl
skip_case c cs false = refl

-- a text is what is kept at its front, as it is, and the rest escaped
escaped_run : (L : List ℕ) → escaped L ≡ take_while is_kept L ++ escaped (skip_while is_kept L)
escaped_run [] = refl
escaped_run (c ∷ cs) =
    run_case c cs (is_kept c) (escaped_run cs)
    ∙ ap (λ (l : List ℕ). l ++ (if is_kept c then escaped (skip_while is_kept cs) else ascii_char c ++ escaped cs)) (sym (take_while-cons is_kept c cs))
    ∙ ap (λ (l : List ℕ). take_while is_kept (c ∷ cs) ++ l) (skip_case c cs (is_kept c))

-- and so it is at each place that is passed
passed_escaped : (s rest : List ℕ) (at : ℕ) (p : IsPassed is_kept s rest at) → escaped (chars s) ≡ chars (take at s) ++ escaped (chars rest)
passed_escaped s rest at p =
    let front : take at s ≡ p.front = ap (λ n. take n s) (sym p.place) ∙ ap (take (length p.front)) p.parts ∙ take-append_seam p.front rest in
    escaped_run (chars s) ∙ ap (λ (l : List ℕ). l ++ escaped (skip_while is_kept (chars s))) p.taken ∙ ap (λ (l : List ℕ). (chars p.front ++ take_while is_kept (chars rest)) ++ escaped l) p.skipped
    ∙ append_assoc (chars p.front) (take_while is_kept (chars rest)) (escaped (skip_while is_kept (chars rest)))
    ∙ ap (λ (l : List ℕ). chars p.front ++ l) (sym (escaped_run (chars rest)))
    ∙ ap (λ (l : List ℕ). chars l ++ escaped (chars rest)) (sym front)

-- before a character, and that one
pub escaped_at : (s rest next : List ℕ) (at c : ℕ) → rest ≡ encode_utf8 c ++ next → IsPassed is_kept s rest at → escaped (chars s) ≡ chars (take at s) ++ ascii_char c ++ escaped (chars next)
escaped_at s rest next at c e p =
    passed_escaped s rest at p ∙ ap (λ (l : List ℕ). chars (take at s) ++ escaped l) (chars_past_char rest next c p.rest_utf8 e)
    ∙ sym (append_assoc (chars (take at s)) (ascii_char c) (escaped (chars next)))

-- at the end nothing was escaped
pub escaped_none : (s rest : List ℕ) (at : ℕ) → length rest ≡ 0 → IsPassed is_kept s rest at → escaped (chars s) ≡ chars s
escaped_none s rest at n p =
    let none : rest ≡ [] = nil_from_length rest n in
    let whole : s ≡ p.front = p.parts ∙ ap (λ (l : List ℕ). p.front ++ l) none ∙ append-nil p.front in
    let front : take at s ≡ p.front = ap (λ n. take n s) (sym p.place) ∙ ap (take (length p.front)) p.parts ∙ take-append_seam p.front rest in
    passed_escaped s rest at p ∙ ap (λ (l : List ℕ). chars (take at s) ++ escaped l) (ap chars none ∙ chars-nil) ∙ append-nil (chars (take at s)) ∙ ap chars (front ∙ sym whole)

-- where each byte is passed nothing is escaped
pub all_kept : (s t : List ℕ) (at : ℕ) → chars s ≡ t → at ≡ length s → IsPassed is_kept s (drop at s) at → t ≡ escaped t
all_kept s t at e n p =
    let none : length (drop at s) ≡ 0 = omega (arith, n, length-drop at s) in
    sym (ap escaped (sym e) ∙ escaped_none s (drop at s) at none p ∙ e)

-- one run and one more character
pub escaping_more : (L front back out mid new whole : List ℕ) (c : ℕ) → escaped L ≡ front ++ ascii_char c ++ escaped back → mid ≡ out ++ front → new ≡ mid ++ ascii_char c → out ++ escaped L ≡ whole → new ++ escaped back ≡ whole
escaping_more L front back out mid new whole c e m n h =
    ap (λ (l : List ℕ). l ++ escaped back) (n ∙ ap (λ (l : List ℕ). l ++ ascii_char c) m)
    ∙ append_assoc (out ++ front) (ascii_char c) (escaped back) ∙ append_assoc out front (ascii_char c ++ escaped back)
    ∙ ap (λ (l : List ℕ). out ++ l) (sym (append_assoc front (ascii_char c) (escaped back)) ∙ sym e) ∙ h

-- and a last run
pub escaping_ends : (L out new whole : List ℕ) → escaped L ≡ L → new ≡ out ++ L → out ++ escaped L ≡ whole → new ≡ whole
escaping_ends L out new whole e n h = n ∙ ap (λ (l : List ℕ). out ++ l) (sym e) ∙ h
