-- Quoted characters, in runs.
use Rattle.std.proofs.Common.{◌≡◌, ◌∙◌, ◌+◌, ◌<◌, ℕ, Bool, true, false, not, ◌&&◌, ◌||◌, nat_eq, if◌then◌else◌, List, [], ◌∷◌, ◌++◌, length, take, get_or, flat_map, take_while, sym, ap, refl, append_assoc, append-nil}
use Rattle.std.proofs.lemmas.Grind.{flat_map-append}
use Rattle.std.proofs.lemmas.List.{take_more}
use Rattle.std.proofs.lemmas.List.Sums.{take_while-cons}
use Rattle.py_base.specs.Chars.Quoting.{quoted_char, quoted_chars, quote_of, within, quoted}
use Rattle.py_base.specs.Chars.Whitespace.{skip_while}
use Rattle.py_str.specs.Quote.{is_kept}

-- what is kept is written as it is
kept_by : (plain q b n r t : Bool) (quote c : ℕ) (e1 e2 e3 e4 other : List ℕ) → (plain && not ((((q || b) || n) || r) || t)) ≡ true
    → (if q || b then e1 else if n then e2 else if r then e3 else if t then e4 else if plain then c ∷ [] else other) ≡ c ∷ []
kept_by true false false false false false quote c e1 e2 e3 e4 other h = refl
kept_by true true b n r t quote c e1 e2 e3 e4 other h = absurd (cc)
kept_by true false true n r t quote c e1 e2 e3 e4 other h = absurd (cc)
kept_by true false false true r t quote c e1 e2 e3 e4 other h = absurd (cc)
kept_by true false false false true t quote c e1 e2 e3 e4 other h = absurd (cc)
kept_by true false false false false true quote c e1 e2 e3 e4 other h = absurd (cc)
kept_by false q b n r t quote c e1 e2 e3 e4 other h = absurd (cc)

pub kept_char : (quote : ℕ) (plain : Bool) (c : ℕ) → is_kept quote plain c ≡ true → quoted_char quote plain c ≡ c ∷ []
kept_char quote plain c h = kept_by plain (nat_eq c quote) (nat_eq c 92) (nat_eq c 10) (nat_eq c 13) (nat_eq c 9) quote c _ _ _ _ _ h

run_case : (quote : ℕ) (plain : ℕ → Bool) (c : ℕ) (cs : List ℕ) (b : Bool) → is_kept quote (plain c) c ≡ b
    → quoted_chars quote plain cs ≡ take_while (λ d. is_kept quote (plain d) d) cs ++ quoted_chars quote plain (skip_while (λ d. is_kept quote (plain d) d) cs)
    → quoted_char quote (plain c) c ++ quoted_chars quote plain cs
    ≡ (if b then c ∷ take_while (λ d. is_kept quote (plain d) d) cs else []) ++ quoted_chars quote plain (if b then skip_while (λ d. is_kept quote (plain d) d) cs else c ∷ cs)
run_case quote plain c cs true h i = ap (λ (l : List ℕ). l ++ quoted_chars quote plain cs) (kept_char quote (plain c) c h) ∙ ap (λ (l : List ℕ). c ∷ l) i
run_case quote plain c cs false h i = refl

-- a text is what is kept at its front, as it is, and the rest quoted
pub quoted_run : (quote : ℕ) (plain : ℕ → Bool) (L : List ℕ) → quoted_chars quote plain L ≡ take_while (λ c. is_kept quote (plain c) c) L ++ quoted_chars quote plain (skip_while (λ c. is_kept quote (plain c) c) L)
quoted_run quote plain [] = refl
quoted_run quote plain (c ∷ cs) =
    let kept = λ (d : ℕ). is_kept quote (plain d) d in
    run_case quote plain c cs (kept c) refl (quoted_run quote plain cs)
    ∙ ap (λ (l : List ℕ). l ++ quoted_chars quote plain (if kept c then skip_while kept cs else c ∷ cs)) (sym (take_while-cons kept c cs))

-- one run and one more character
pub quoting_more : (quote : ℕ) (plain : ℕ → Bool) (L front back out mid new whole : List ℕ) (c : ℕ)
    → take_while (λ d. is_kept quote (plain d) d) L ≡ front → skip_while (λ d. is_kept quote (plain d) d) L ≡ c ∷ back
    → mid ≡ out ++ front → new ≡ mid ++ quoted_char quote (plain c) c
    → out ++ quoted_chars quote plain L ≡ whole → new ++ quoted_chars quote plain back ≡ whole
quoting_more quote plain L front back out mid new whole c t s m n h =
    let all : quoted_chars quote plain L ≡ front ++ (quoted_char quote (plain c) c ++ quoted_chars quote plain back) =
    quoted_run quote plain L ∙ ap (λ (l : List ℕ). l ++ quoted_chars quote plain (skip_while (λ d. is_kept quote (plain d) d) L)) t ∙ ap (λ (l : List ℕ). front ++ quoted_chars quote plain l) s in
    ap (λ (l : List ℕ). l ++ quoted_chars quote plain back) (n ∙ ap (λ (l : List ℕ). l ++ quoted_char quote (plain c) c) m)
    ∙ append_assoc (out ++ front) (quoted_char quote (plain c) c) (quoted_chars quote plain back)
    ∙ append_assoc out front (quoted_char quote (plain c) c ++ quoted_chars quote plain back)
    ∙ ap (λ (l : List ℕ). out ++ l) (sym all) ∙ h

-- a last run
pub quoting_ends : (quote : ℕ) (plain : ℕ → Bool) (L out new whole : List ℕ)
    → take_while (λ d. is_kept quote (plain d) d) L ≡ L → skip_while (λ d. is_kept quote (plain d) d) L ≡ []
    → new ≡ out ++ L → out ++ quoted_chars quote plain L ≡ whole → new ≡ whole
quoting_ends quote plain L out new whole t s n h =
    n ∙ ap (λ (l : List ℕ). out ++ l)
    (sym (quoted_run quote plain L ∙ ap (λ (l : List ℕ). l ++ quoted_chars quote plain (skip_while (λ d. is_kept quote (plain d) d) L)) t ∙ ap (λ (l : List ℕ). L ++ quoted_chars quote plain l) s ∙ append-nil L))
    ∙ h

-- a quote, the characters and a quote
pub quoted_is : (plain : ℕ → Bool) (L t start one two three made : List ℕ) (q : ℕ) → start ≡ [] → one ≡ start ++ q ∷ [] → two ≡ one ++ quoted_chars q plain L → three ≡ two ++ q ∷ []
    → q ≡ quote_of L → L ≡ t → made ≡ three → made ≡ quoted plain t
quoted_is plain L t start one two three made q s o w h e l m =
    m ∙ h ∙ ap (λ (x : List ℕ). x ++ q ∷ []) (w ∙ ap (λ (x : List ℕ). x ++ quoted_chars q plain L) (o ∙ ap (λ (x : List ℕ). x ++ q ∷ []) s))
    ∙ ap (λ (x : ℕ). within x plain L) e ∙ ap (quoted plain) l

-- one more of some bytes, by their number
pub quoted_more : (q : ℕ) (plain : ℕ → Bool) (bs : List ℕ) (i : ℕ) → i < length bs
    → quoted_chars q plain (take i bs) ++ quoted_char q (plain (get_or bs i 0)) (get_or bs i 0) ≡ quoted_chars q plain (take (i + 1) bs)
quoted_more q plain bs i lt =
    let one = λ (c : ℕ). quoted_char q (plain c) c in
    let b = get_or bs i 0 in
    ap (λ (l : List ℕ). flat_map one (take i bs) ++ l) (sym (append-nil (one b))) ∙ sym (flat_map-append one (take i bs) (b ∷ [])) ∙ ap (flat_map one) (sym (take_more bs i 0 lt))

-- `b`, a quote, the bytes and a quote
pub bytes_are : (plain : ℕ → Bool) (L t start zero one two three made : List ℕ) (q : ℕ) → start ≡ [] → zero ≡ start ++ 98 ∷ [] → one ≡ zero ++ q ∷ [] → two ≡ one ++ quoted_chars q plain L → three ≡ two ++ q ∷ []
    → q ≡ quote_of L → L ≡ t → made ≡ three → made ≡ 98 ∷ quoted plain t
bytes_are plain L t start zero one two three made q s z o w h e l m =
    m ∙ h ∙ ap (λ (x : List ℕ). x ++ q ∷ []) (w ∙ ap (λ (x : List ℕ). x ++ quoted_chars q plain L) (o ∙ ap (λ (x : List ℕ). x ++ q ∷ []) (z ∙ ap (λ (x : List ℕ). x ++ 98 ∷ []) s)))
    ∙ ap (λ (x : ℕ). 98 ∷ within x plain L) e ∙ ap (λ (x : List ℕ). 98 ∷ quoted plain x) l
