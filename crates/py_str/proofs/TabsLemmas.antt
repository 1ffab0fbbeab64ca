-- Tabs expanded, in runs.
use Rattle.std.proofs.Common.{◌≡◌, ◌∙◌, ◌+◌, ◌-◌, ◌≤◌, ℕ, zero, suc, Bool, true, false, not, ◌||◌, nat_eq, if◌then◌else◌, List, [], ◌∷◌, ◌++◌, length, take_while, sym, ap, refl, append_assoc, append-nil, arith, length-append}
use Rattle.std.proofs.lemmas.Bool.Decides.{nat_tests}
use Rattle.std.proofs.lemmas.List.Sums.{take_while-cons}
use Rattle.py_base.specs.Chars.Whitespace.{skip_while}
use Rattle.py_str.specs.Pad.{run}
use Rattle.py_str.specs.Tabs.{gap, column_after, expanded_at, is_inside}

inside_by : (size column c : ℕ) (cs : List ℕ) (t n r : Bool) → not ((t || n) || r) ≡ true
    → (if t then run (gap size column) 32 ++ expanded_at size (column + gap size column) cs else c ∷ expanded_at size (if n || r then 0 else column + 1) cs) ≡ c ∷ expanded_at size (column + 1) cs
inside_by size column c cs false false false h = refl
inside_by size column c cs true n r h = absurd (cc)
inside_by size column c cs false true r h = absurd (cc)
inside_by size column c cs false false true h = absurd (cc)

inside_one : (size column c : ℕ) (cs : List ℕ) → is_inside c ≡ true → expanded_at size column (c ∷ cs) ≡ c ∷ expanded_at size (column + 1) cs
inside_one size column c cs h = inside_by size column c cs (nat_eq c 9) (nat_eq c 10) (nat_eq c 13) h

run_case : (size column c : ℕ) (cs : List ℕ) (b : Bool) → is_inside c ≡ b
    → expanded_at size (column + 1) cs ≡ take_while is_inside cs ++ expanded_at size ((column + 1) + length (take_while is_inside cs)) (skip_while is_inside cs)
    → expanded_at size column (c ∷ cs) ≡ (if b then c ∷ take_while is_inside cs else []) ++ expanded_at size (column + length (if b then c ∷ take_while is_inside cs else [])) (if b then skip_while is_inside cs else c ∷ cs)
run_case size column c cs true h i =
    inside_one size column c cs h ∙ ap (λ (l : List ℕ). c ∷ l) i
    ∙ ap (λ (n : ℕ). c ∷ (take_while is_inside cs ++ expanded_at size n (skip_while is_inside cs))) {x = (column + 1) + length (take_while is_inside cs)} {y = column + length (c ∷ take_while is_inside cs)} (omega arith)
run_case size column c cs false h i = ap (λ (n : ℕ). expanded_at size n (c ∷ cs)) {x = column} {y = column + 0} (omega arith)

nothing : (size column : ℕ) → expanded_at size column [] ≡ []
nothing size column = refl

-- a text is what is before its first tab, CR or LF, as it is, and the rest expanded
pub expanded_run : (size column : ℕ) (L : List ℕ) → expanded_at size column L ≡ take_while is_inside L ++ expanded_at size (column + length (take_while is_inside L)) (skip_while is_inside L)
expanded_run size column [] = refl
expanded_run size column (c ∷ cs) =
    run_case size column c cs (is_inside c) refl (expanded_run size (column + 1) cs)
    ∙ ap (λ (l : List ℕ). l ++ expanded_at size (column + length l) (if is_inside c then skip_while is_inside cs else c ∷ cs)) (sym (take_while-cons is_inside c cs))

-- one run, and what is at its end
pub expanding_more : (size column n next c : ℕ) (L front back out mid new whole : List ℕ)
    → take_while is_inside L ≡ front → skip_while is_inside L ≡ c ∷ back → n ≡ length front → mid ≡ out ++ front
    → new ++ expanded_at size next back ≡ mid ++ expanded_at size (column + n) (c ∷ back)
    → out ++ expanded_at size column L ≡ whole → new ++ expanded_at size next back ≡ whole
expanding_more size column n next c L front back out mid new whole t s k m e h =
    let all : expanded_at size column L ≡ front ++ expanded_at size (column + n) (c ∷ back) =
    expanded_run size column L ∙ ap (λ (l : List ℕ). l ++ expanded_at size (column + length l) (skip_while is_inside L)) t
    ∙ ap (λ (l : List ℕ). front ++ expanded_at size (column + length front) l) s ∙ ap (λ (i : ℕ). front ++ expanded_at size (column + i) (c ∷ back)) (sym k) in
    e ∙ ap (λ (l : List ℕ). l ++ expanded_at size (column + n) (c ∷ back)) m ∙ append_assoc out front (expanded_at size (column + n) (c ∷ back)) ∙ ap (λ (l : List ℕ). out ++ l) (sym all) ∙ h

pub expanding_ends : (size column : ℕ) (L out new whole : List ℕ)
    → take_while is_inside L ≡ L → skip_while is_inside L ≡ [] → new ≡ out ++ L → out ++ expanded_at size column L ≡ whole → new ≡ whole
expanding_ends size column L out new whole t s n h =
    let all : expanded_at size column L ≡ L =
    expanded_run size column L ∙ ap (λ (l : List ℕ). l ++ expanded_at size (column + length l) (skip_while is_inside L)) t
    ∙ ap (λ (l : List ℕ). L ++ expanded_at size (column + length L) l) s ∙ append-nil L in
    n ∙ ap (λ (l : List ℕ). out ++ l) (sym all) ∙ h

-- a tab
pub tab_pushed : (size column c : ℕ) (old new back : List ℕ) → nat_eq c 9 ≡ true → new ≡ old ++ run (gap size column) 32
    → new ++ expanded_at size (column + gap size column) back ≡ old ++ expanded_at size column (c ∷ back)
tab_pushed size column c old new back h n =
    ap (λ (l : List ℕ). l ++ expanded_at size (column + gap size column) back) n ∙ append_assoc old (run (gap size column) 32) (expanded_at size (column + gap size column) back)
    ∙ ap (λ (l : List ℕ). old ++ l) (sym (ap (λ (b : Bool). if b then run (gap size column) 32 ++ expanded_at size (column + gap size column) back else c ∷ expanded_at size (column_after column c) back) h))

end_by : (t n r : Bool) → not ((t || n) || r) ≡ false → t ≡ false → (n || r) ≡ true
end_by t true r h k = refl
end_by t false true h k = refl
end_by true false false h k = absurd (cc)
end_by false false false h k = absurd (cc)

-- CR or LF
pub end_pushed : (size column c : ℕ) (old new back : List ℕ) → is_inside c ≡ false → nat_eq c 9 ≡ false → new ≡ old ++ c ∷ []
    → new ++ expanded_at size 0 back ≡ old ++ expanded_at size column (c ∷ back)
end_pushed size column c old new back i h n =
    let zero_after : column_after column c ≡ 0 = ap (λ (b : Bool). if b then 0 else column + 1) (end_by (nat_eq c 9) (nat_eq c 10) (nat_eq c 13) i h) in
    ap (λ (l : List ℕ). l ++ expanded_at size 0 back) n ∙ append_assoc old (c ∷ []) (expanded_at size 0 back)
    ∙ ap (λ (k : ℕ). old ++ c ∷ expanded_at size k back) (sym zero_after)
    ∙ ap (λ (l : List ℕ). old ++ l) (sym (ap (λ (b : Bool). if b then run (gap size column) 32 ++ expanded_at size (column + gap size column) back else c ∷ expanded_at size (column_after column c) back) h))

pub run_length : (n c : ℕ) → length (run n c) ≡ n
run_length zero c = refl
run_length (suc n) c = omega (arith, run_length n c)

is_nine : (c : ℕ) → c ≡ 9 → nat_eq c 9 ≡ true
is_nine c h = grind (arith, nat_tests)

is_other : (c : ℕ) → (c ≡ 9 → ⊥) → nat_eq c 9 ≡ false
is_other c h = grind (arith, nat_tests)

-- a tab on a line that begins at b
pub tab_more : (size b k c : ℕ) (old new back : List ℕ) → c ≡ 9 → b ≤ length old → k ≡ gap size (length old - b) → new ≡ old ++ run k 32
    → new ++ expanded_at size (length new - b) back ≡ old ++ expanded_at size (length old - b) (c ∷ back)
tab_more size b k c old new back h le g n =
    let column = length old - b in
    let made : new ≡ old ++ run (gap size column) 32 = n ∙ ap (λ (i : ℕ). old ++ run i 32) g in
    ap (λ (i : ℕ). new ++ expanded_at size i back) {x = length new - b} {y = column + gap size column}
    (omega (arith, ap length made, length-append old (run (gap size column) 32), run_length (gap size column) 32))
    ∙ tab_pushed size column c old new back (is_nine c h) made

-- CR or LF, after which a line begins at the end
pub end_more : (size b next c : ℕ) (old new back : List ℕ) → is_inside c ≡ false → (c ≡ 9 → ⊥) → new ≡ old ++ c ∷ [] → next ≡ length new
    → new ++ expanded_at size (length new - next) back ≡ old ++ expanded_at size (length old - b) (c ∷ back)
end_more size b next c old new back i h n e =
    ap (λ (k : ℕ). new ++ expanded_at size k back) {x = length new - next} {y = 0} (omega (arith, e)) ∙ end_pushed size (length old - b) c old new back i (is_other c h) n

-- one run on a line that begins at b, and what is at its end
pub line_more : (size b next c : ℕ) (L front back out mid new whole : List ℕ)
    → take_while is_inside L ≡ front → skip_while is_inside L ≡ c ∷ back → mid ≡ out ++ front → b ≤ length out
    → new ++ expanded_at size (length new - next) back ≡ mid ++ expanded_at size (length mid - b) (c ∷ back)
    → out ++ expanded_at size (length out - b) L ≡ whole → new ++ expanded_at size (length new - next) back ≡ whole
line_more size b next c L front back out mid new whole t s m le e h =
    expanding_more size (length out - b) (length front) (length new - next) c L front back out mid new whole t s refl m
    (e ∙ ap (λ (k : ℕ). mid ++ expanded_at size k (c ∷ back)) {x = length mid - b} {y = (length out - b) + length front} (omega (arith, ap length m, length-append out front)))
    h
