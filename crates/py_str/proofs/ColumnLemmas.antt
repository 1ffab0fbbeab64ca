-- What `expandtabs` gives: the columns that tabs reach, and what stays.
use Rattle.std.proofs.Common.{◌≡◌, ◌∙◌, ◌+◌, ◌-◌, ◌*◌, ◌/◌, ◌%◌, ◌<◌, ◌==◌, ℕ, zero, suc, Bool, true, false, not, ◌||◌, nat_eq, cond, if◌then◌else◌, List, [], ◌∷◌, ◌++◌, length, reverse, filter, take_while, sym, ap, refl, arith, append_assoc}
use Rattle.std.specs.List.{list_any}
use Rattle.std.proofs.lemmas.Bool.Decides.{nat_tests}
use Rattle.std.proofs.lemmas.List.{reverse-append, reverse-reverse}
use Rattle.std.proofs.lemmas.List.Sums.{take_while-cons}
use Rattle.std.proofs.Math.Nat.{mod-lt, div-add-mod, mul-add-mod_self_left, mod_self}
use Rattle.py_str.specs.Laws.{is_line_start, last_line_length, FillUp, TabsReachMultiples, OnlyTabsChange, NoTabNoChange}
use Rattle.py_str.specs.Pad.{run}
use Rattle.py_str.specs.Tabs.{gap, column_after, expanded, expanded_at}

-- the column at the end of a text that begins at a column
abbrev column_at_end : ℕ → List ℕ → ℕ
column_at_end column [] = column
column_at_end column (c ∷ cs) = column_at_end (column_after column c) cs

spaces_on : (n column : ℕ) (rest : List ℕ) → column_at_end column (run n 32 ++ rest) ≡ column_at_end (column + n) rest
spaces_on zero column rest = ap (λ (k : ℕ). column_at_end k rest) {x = column} {y = column + 0} (omega arith)
spaces_on (suc n) column rest = spaces_on n (column + 1) rest ∙ ap (λ (k : ℕ). column_at_end k rest) {x = column + 1 + n} {y = column + suc n} (omega arith)

part_case : (size column c : ℕ) (cs back : List ℕ) (b : Bool)
    → ((at : ℕ) → expanded_at size at (cs ++ back) ≡ expanded_at size at cs ++ expanded_at size (column_at_end at (expanded_at size at cs)) back)
    → (if b then run (gap size column) 32 ++ expanded_at size (column + gap size column) (cs ++ back) else c ∷ expanded_at size (column_after column c) (cs ++ back))
    ≡ (if b then run (gap size column) 32 ++ expanded_at size (column + gap size column) cs else c ∷ expanded_at size (column_after column c) cs)
    ++ expanded_at size (column_at_end column (if b then run (gap size column) 32 ++ expanded_at size (column + gap size column) cs else c ∷ expanded_at size (column_after column c) cs)) back
part_case size column c cs back true more =
    let g = gap size column in
    let made = expanded_at size (column + gap size column) cs in
    ap (λ (l : List ℕ). run g 32 ++ l) (more (column + g))
    ∙ sym (append_assoc (run g 32) made (expanded_at size (column_at_end (column + g) made) back))
    ∙ ap (λ (k : ℕ). (run g 32 ++ made) ++ expanded_at size k back) (sym (spaces_on g column made))
part_case size column c cs back false more = ap (λ (l : List ℕ). c ∷ l) (more (column_after column c))

-- a text after another begins at the column where the other ends
expanded_part : (size column : ℕ) (front back : List ℕ) → expanded_at size column (front ++ back) ≡ expanded_at size column front ++ expanded_at size (column_at_end column (expanded_at size column front)) back
expanded_part size column [] back = refl
expanded_part size column (c ∷ cs) back = part_case size column c cs back (nat_eq c 9) (λ at. expanded_part size at cs back)

end_pushed : (column : ℕ) (L : List ℕ) (c : ℕ) → column_at_end column (L ++ c ∷ []) ≡ column_after (column_at_end column L) c
end_pushed column [] c = refl
end_pushed column (x ∷ xs) c = end_pushed (column_after column x) xs c

taken_length : (b : Bool) (c : ℕ) (T : List ℕ) → length (cond (not b) (c ∷ T) []) ≡ (if b then 0 else length T + 1)
taken_length true c T = refl
taken_length false c T = omega arith

line_reversed : (R : List ℕ) → column_at_end 0 (reverse R) ≡ length (take_while (λ c. not (is_line_start c)) R)
line_reversed [] = refl
line_reversed (c ∷ R) =
    ap (column_at_end 0) (reverse-append (c ∷ []) R) ∙ end_pushed 0 (reverse R) c ∙ ap (λ (k : ℕ). column_after k c) (line_reversed R)
    ∙ sym (ap length (take_while-cons (λ c. not (is_line_start c)) c R) ∙ taken_length (is_line_start c) c (take_while (λ c. not (is_line_start c)) R))

line_is : (L : List ℕ) → column_at_end 0 L ≡ last_line_length L
line_is L = ap (column_at_end 0) (sym (reverse-reverse L)) ∙ line_reversed (reverse L)

-- the spaces of a tab
gap_is : (size column : ℕ) → 0 < size → gap size column ≡ size - column % size
gap_is size column some =
    let t : nat_eq size 0 ≡ false = grind (arith, nat_tests) in
    ap (λ (b : Bool). if b then 0 else size - column % size) t

reached : (whole part size column more : ℕ) → whole + part ≡ column → part < size → more ≡ size - part → column + more ≡ whole + size
reached whole part size column more e l m = omega arith

fill_up : (size column : ℕ) → 0 < size → FillUp size column (gap size column)
fill_up size column some =
    let g = gap_is size column some in
    let less : column % size < size = mod-lt column some in
    let on : column + gap size column ≡ size * (column / size) + size = reached (size * (column / size)) (column % size) size column (gap size column) (div-add-mod column size) less g in
    record { some = omega (arith, g, less); few = omega (arith, g); multiple = ap (λ (k : ℕ). k % size) on ∙ mul-add-mod_self_left size (column / size) size ∙ mod_self size }

pub tabs_reach : TabsReachMultiples
tabs_reach = λ size front back some.
    let column = last_line_length (expanded size front) in (
      gap size column,
      fill_up size column some,
      expanded_part size 0 front (9 ∷ back)
          ∙ ap (λ (k : ℕ). expanded size front ++ (run (gap size k) 32 ++ expanded_at size (k + gap size k) back)) (line_is (expanded size front)),
    )

-- what stays
abbrev is_kept : ℕ → Bool
is_kept c = not (c == 32)

abbrev is_other : ℕ → Bool
is_other c = not (c == 32 || c == 9)

no_space_kept : (n : ℕ) (rest : List ℕ) → filter is_kept (run n 32 ++ rest) ≡ filter is_kept rest
no_space_kept zero rest = refl
no_space_kept (suc n) rest = no_space_kept n rest

dropped_true : (s : Bool) (X Y : List ℕ) → cond (not (s || true)) X Y ≡ Y
dropped_true true X Y = refl
dropped_true false X Y = refl

same_false : (s : Bool) (X Y : List ℕ) → cond (not (s || false)) X Y ≡ cond (not s) X Y
same_false true X Y = refl
same_false false X Y = refl

change_case : (size column c : ℕ) (cs : List ℕ) (t : Bool) → nat_eq c 9 ≡ t → ((at : ℕ) → filter is_kept (expanded_at size at cs) ≡ filter is_other cs)
    → filter is_kept (if t then run (gap size column) 32 ++ expanded_at size (column + gap size column) cs else c ∷ expanded_at size (column_after column c) cs) ≡ filter is_other (c ∷ cs)
change_case size column c cs true h more =
    no_space_kept (gap size column) (expanded_at size (column + gap size column) cs) ∙ more (column + gap size column)
    ∙ sym (ap (λ (b : Bool). cond (not (nat_eq c 32 || b)) (c ∷ filter is_other cs) (filter is_other cs)) h ∙ dropped_true (nat_eq c 32) (c ∷ filter is_other cs) (filter is_other cs))
change_case size column c cs false h more =
    ap (λ (l : List ℕ). cond (not (nat_eq c 32)) (c ∷ l) l) (more (column_after column c))
    ∙ sym (ap (λ (b : Bool). cond (not (nat_eq c 32 || b)) (c ∷ filter is_other cs) (filter is_other cs)) h ∙ same_false (nat_eq c 32) (c ∷ filter is_other cs) (filter is_other cs))

change_at : (size column : ℕ) (cs : List ℕ) → filter is_kept (expanded_at size column cs) ≡ filter is_other cs
change_at size column [] = refl
change_at size column (c ∷ cs) = change_case size column c cs (nat_eq c 9) refl (λ at. change_at size at cs)

pub only_tabs : OnlyTabsChange
only_tabs = λ size cs. change_at size 0 cs

-- without tabs
abbrev is_tab : ℕ → Bool
is_tab c = c == 9

stay_case : (size column c : ℕ) (cs : List ℕ) (t : Bool) → ((at : ℕ) → list_any is_tab cs ≡ false → expanded_at size at cs ≡ cs) → (t || list_any is_tab cs) ≡ false
    → (if t then run (gap size column) 32 ++ expanded_at size (column + gap size column) cs else c ∷ expanded_at size (column_after column c) cs) ≡ c ∷ cs
stay_case size column c cs true more h = absurd (cc)
stay_case size column c cs false more h = ap (λ (l : List ℕ). c ∷ l) (more (column_after column c) h)

stay_at : (size column : ℕ) (cs : List ℕ) → list_any is_tab cs ≡ false → expanded_at size column cs ≡ cs
stay_at size column [] h = refl
stay_at size column (c ∷ cs) h = stay_case size column c cs (nat_eq c 9) (λ at. stay_at size at cs) h

pub no_change : NoTabNoChange
no_change = λ size cs h. stay_at size 0 cs h
