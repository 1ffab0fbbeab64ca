-- Laws of stripped, padded, expanded and encoded texts.
use Rattle.std.proofs.Common.{◌≡◌, ◌∙◌, ◌+◌, ◌-◌, ◌/◌, ◌%◌, ◌≤◌, ◌==◌, ℕ, zero, suc, Bool, true, false, ◌&&◌, ◌||◌, nat_eq, if◌then◌else◌, List, [], ◌∷◌, ◌++◌, length, reverse, sym, ap, refl, append-nil, arith, length-append, chars}
use Rattle.std.specs.List.{list_any, list_all}
use Rattle.std.proofs.lemmas.List.Folds.{list_all-append}
use Rattle.std.proofs.lemmas.Bool.Decides.{nat_tests}
use Rattle.std.proofs.lemmas.List.{reverse-append, reverse-reverse}
use Rattle.std.proofs.lemmas.Str.{chars-encodes}
use Rattle.py_base.specs.Chars.Whitespace.{skip_while, trim_end}
use Rattle.py_str.specs.Laws.{NoneAtTheEnds, StripsOnlyWhatPasses, FillsTheWidth, PaddingsFillTheWidth, ZerosFillTheWidth, NoTabIsLeft, EncodedIsDecoded}
use Rattle.py_str.specs.Pad.{run, short_by, left_part, center, ljust, rjust, is_sign, sign_parts}
use Rattle.py_str.specs.Tabs.{gap, column_after, expanded_at}
use Rattle.py_str.proofs.TabsLemmas.{run_length}

-- stripped texts
abbrev head_of : List ℕ → ℕ
head_of [] = 0
head_of (c ∷ cs) = c

same_head : (test : ℕ → Bool) (d c : ℕ) (ds cs : List ℕ) → test d ≡ false → d ∷ ds ≡ c ∷ cs → test c ≡ false
same_head test d c ds cs h e = ap test (sym (ap head_of e)) ∙ h

skip_case : (test : ℕ → Bool) (d : ℕ) (ds : List ℕ) (c : ℕ) (rest : List ℕ) (b : Bool) → test d ≡ b
    → (skip_while test ds ≡ c ∷ rest → test c ≡ false) → (if b then skip_while test ds else d ∷ ds) ≡ c ∷ rest → test c ≡ false
skip_case test d ds c rest true h more e = more e
skip_case test d ds c rest false h more e = same_head test d c ds rest h e

skip_head : (test : ℕ → Bool) (cs : List ℕ) (c : ℕ) (rest : List ℕ) → skip_while test cs ≡ c ∷ rest → test c ≡ false
skip_head test [] c rest e = absurd (cc)
skip_head test (d ∷ ds) c rest e = skip_case test d ds c rest (test d) refl (λ m. skip_head test ds c rest m) e

stop_case : (test : ℕ → Bool) (x : ℕ) (xs : List ℕ) (d : ℕ) (b : Bool) → skip_while test (xs ++ d ∷ []) ≡ skip_while test xs ++ d ∷ []
    → (if b then skip_while test (xs ++ d ∷ []) else x ∷ (xs ++ d ∷ [])) ≡ (if b then skip_while test xs else x ∷ xs) ++ d ∷ []
stop_case test x xs d true more = more
stop_case test x xs d false more = refl

-- what fails at the end stays
skip_stop : (test : ℕ → Bool) (xs : List ℕ) (d : ℕ) → test d ≡ false → skip_while test (xs ++ d ∷ []) ≡ skip_while test xs ++ d ∷ []
skip_stop test [] d h = ap (λ (b : Bool). if b then skip_while test [] else d ∷ []) h
skip_stop test (x ∷ xs) d h = stop_case test x xs d (test x) (skip_stop test xs d h)

keeps_head : (test : ℕ → Bool) (d : ℕ) (ds : List ℕ) → test d ≡ false → trim_end test (d ∷ ds) ≡ d ∷ trim_end test ds
keeps_head test d ds h =
    ap (λ (l : List ℕ). reverse (skip_while test l)) (reverse-append (d ∷ []) ds)
    ∙ ap reverse (skip_stop test (reverse ds) d h)
    ∙ reverse-append (skip_while test (reverse ds)) (d ∷ [])

first_case : (test : ℕ → Bool) (cs s : List ℕ) → skip_while test cs ≡ s → (c : ℕ) (rest : List ℕ) → trim_end test s ≡ c ∷ rest → test c ≡ false
first_case test cs [] h c rest e = absurd (cc)
first_case test cs (d ∷ ds) h c rest e =
    let fails : test d ≡ false = skip_head test cs d ds h in
    same_head test d c (trim_end test ds) rest fails (sym (keeps_head test d ds fails) ∙ e)

last_fails : (test : ℕ → Bool) (s front : List ℕ) (c : ℕ) → trim_end test s ≡ front ++ c ∷ [] → test c ≡ false
last_fails test s front c e =
    skip_head test (reverse s) c (reverse front) (sym (reverse-reverse (skip_while test (reverse s))) ∙ ap reverse e ∙ reverse-append front (c ∷ []))

pub none_at_ends : NoneAtTheEnds
none_at_ends = λ test cs. record {
  first = λ c rest e. first_case test cs (skip_while test cs) refl c rest e;
  last = λ front c e. last_fails test (skip_while test cs) front c e;
}

abbrev passing : (ℕ → Bool) → List ℕ → List ℕ
passing test [] = []
passing test (c ∷ cs) = if test c then c ∷ passing test cs else []

split_case : (test : ℕ → Bool) (c : ℕ) (cs : List ℕ) (b : Bool) → passing test cs ++ skip_while test cs ≡ cs
    → (if b then c ∷ passing test cs else []) ++ (if b then skip_while test cs else c ∷ cs) ≡ c ∷ cs
split_case test c cs true more = ap (λ (l : List ℕ). c ∷ l) more
split_case test c cs false more = refl

split_there : (test : ℕ → Bool) (cs : List ℕ) → passing test cs ++ skip_while test cs ≡ cs
split_there test [] = refl
split_there test (c ∷ cs) = split_case test c cs (test c) (split_there test cs)

pass_case : (test : ℕ → Bool) (c : ℕ) (cs : List ℕ) (b : Bool) → test c ≡ b → list_all test (passing test cs) ≡ true
    → list_all test (if b then c ∷ passing test cs else []) ≡ true
pass_case test c cs true h more = ap (λ (b : Bool). b && list_all test (passing test cs)) h ∙ more
pass_case test c cs false h more = refl

all_pass : (test : ℕ → Bool) (cs : List ℕ) → list_all test (passing test cs) ≡ true
all_pass test [] = refl
all_pass test (c ∷ cs) = pass_case test c cs (test c) refl (all_pass test cs)

swapped : (a b : Bool) → (b && (a && true)) ≡ (a && b)
swapped true true = refl
swapped true false = refl
swapped false true = refl
swapped false false = refl

all_reversed : (test : ℕ → Bool) (xs : List ℕ) → list_all test (reverse xs) ≡ list_all test xs
all_reversed test [] = refl
all_reversed test (x ∷ xs) =
    ap (list_all test) (reverse-append (x ∷ []) xs) ∙ list_all-append test (reverse xs) (x ∷ [])
    ∙ ap (λ (b : Bool). b && list_all test (x ∷ [])) (all_reversed test xs) ∙ swapped (test x) (list_all test xs)

-- a list is what is left of it without its end, and the end
end_there : (test : ℕ → Bool) (s : List ℕ) → s ≡ trim_end test s ++ reverse (passing test (reverse s))
end_there test s =
    sym (reverse-reverse s) ∙ ap reverse (sym (split_there test (reverse s)))
    ∙ reverse-append (passing test (reverse s)) (skip_while test (reverse s))

pub only_what_passes : StripsOnlyWhatPasses
only_what_passes = λ test cs. record {
  front = passing test cs;
  back = reverse (passing test (reverse (skip_while test cs)));
  parts = sym (split_there test cs) ∙ ap (λ (l : List ℕ). passing test cs ++ l) (end_there test (skip_while test cs));
  front_passes = all_pass test cs;
  back_passes = all_reversed test (passing test (reverse (skip_while test cs))) ∙ all_pass test (reverse (skip_while test cs));
}

-- padded texts
left_case : (k w : ℕ) (p q : Bool) → nat_eq (k % 2) 1 ≡ p → (if p && q then k / 2 + 1 else k / 2) ≤ k
left_case k w true true h = grind (arith, nat_tests)
left_case k w true false h = omega arith
left_case k w false q h = omega arith

left_within : (k w : ℕ) → left_part k w ≤ k
left_within k w = left_case k w (nat_eq (k % 2) 1) (nat_eq (w % 2) 1) refl

parts_length : (a b f : ℕ) (cs : List ℕ) → length (run a f ++ (cs ++ run b f)) ≡ a + (length cs + b)
parts_length a b f cs = omega (arith, length-append (run a f) (cs ++ run b f), length-append cs (run b f), run_length a f, run_length b f)

none_short : (w : ℕ) (cs : List ℕ) → w ≤ length cs → short_by w cs ≡ 0
none_short w cs h = omega (arith, h)

center_fills : (w : ℕ) (cs : List ℕ) (f : ℕ) → FillsTheWidth w cs (center w cs f)
center_fills w cs f =
    let k = w - length cs in
    record {
      filled = λ h. omega (arith, h, left_within (w - length cs) w, parts_length (left_part (w - length cs) w) ((w - length cs) - left_part (w - length cs) w) f cs);
      kept = λ h. ap (λ (n : ℕ). run (left_part n w) f ++ (cs ++ run (n - left_part n w) f)) (none_short w cs h) ∙ append-nil cs;
    }

left_fills : (w : ℕ) (cs : List ℕ) (f : ℕ) → FillsTheWidth w cs (ljust w cs f)
left_fills w cs f = record {
  filled = λ h. omega (arith, h, length-append cs (run (w - length cs) f), run_length (w - length cs) f);
  kept = λ h. ap (λ (n : ℕ). cs ++ run n f) (none_short w cs h) ∙ append-nil cs;
}

right_fills : (w : ℕ) (cs : List ℕ) (f : ℕ) → FillsTheWidth w cs (rjust w cs f)
right_fills w cs f = record {
  filled = λ h. omega (arith, h, length-append (run (w - length cs) f) cs, run_length (w - length cs) f);
  kept = λ h. ap (λ (n : ℕ). run n f ++ cs) (none_short w cs h);
}

pub paddings_fill : PaddingsFillTheWidth
paddings_fill = λ w cs f. (center_fills w cs f, left_fills w cs f, right_fills w cs f)

-- zeros after a sign
joined_case : (c : ℕ) (cs : List ℕ) (b : Bool) → (let p : List ℕ × List ℕ = if b then (c ∷ [], cs) else ([], c ∷ cs) in p.0 ++ p.1 ≡ c ∷ cs)
joined_case c cs true = refl
joined_case c cs false = refl

joined : (cs : List ℕ) → (sign_parts cs).0 ++ (sign_parts cs).1 ≡ cs
joined [] = refl
joined (c ∷ cs) = joined_case c cs (is_sign c)

pub zeros_fill : ZerosFillTheWidth
zeros_fill = λ w cs. record {
  filled = λ h. omega (
    arith,
    h,
    ap length (joined cs),
    length-append (sign_parts cs).0 (sign_parts cs).1,
    length-append (sign_parts cs).0 (run (w - length cs) 48 ++ (sign_parts cs).1),
    length-append (run (w - length cs) 48) (sign_parts cs).1,
    run_length (w - length cs) 48,
  );
  kept = λ h. ap (λ (n : ℕ). (sign_parts cs).0 ++ (run n 48 ++ (sign_parts cs).1)) (none_short w cs h) ∙ joined cs;
}

-- tabs
abbrev is_tab : ℕ → Bool
is_tab c = c == 9

no_tab_here : (n : ℕ) (rest : List ℕ) → list_any is_tab rest ≡ false → list_any is_tab (run n 32 ++ rest) ≡ false
no_tab_here zero rest h = h
no_tab_here (suc n) rest h = no_tab_here n rest h

tab_case : (size column c : ℕ) (cs : List ℕ) (b : Bool) → nat_eq c 9 ≡ b → ((at : ℕ) → list_any is_tab (expanded_at size at cs) ≡ false)
    → list_any is_tab (if b then run (gap size column) 32 ++ expanded_at size (column + gap size column) cs else c ∷ expanded_at size (column_after column c) cs) ≡ false
tab_case size column c cs true h more = no_tab_here (gap size column) (expanded_at size (column + gap size column) cs) (more (column + gap size column))
tab_case size column c cs false h more = ap (λ (b : Bool). b || list_any is_tab (expanded_at size (column_after column c) cs)) h ∙ more (column_after column c)

no_tab_at : (size column : ℕ) (cs : List ℕ) → list_any is_tab (expanded_at size column cs) ≡ false
no_tab_at size column [] = refl
no_tab_at size column (c ∷ cs) = tab_case size column c cs (nat_eq c 9) refl (λ at. no_tab_at size at cs)

pub no_tab : NoTabIsLeft
no_tab = λ size cs. no_tab_at size 0 cs

-- encoded texts
pub encoded_decoded : EncodedIsDecoded
encoded_decoded = λ cs a. ((cs, (a, refl)), λ made b e. sym (chars-encodes made b) ∙ ap chars e ∙ chars-encodes cs a)
