-- The first line of a text.
use Rattle.std.proofs.Common.{◌≡◌, ℕ, ◌+◌, ◌<◌, ◌≤◌, ◌&&◌, ◌==◌, Bool, true, false, not, cond, if◌then◌else◌, List, [], ◌∷◌, ◌++◌, map, length, take, drop, take_while, refl, ap, sym, ◌∙◌, arith, subst, eqb-true, append_assoc, append-nil, length-drop, suc, take-add, drop-drop, chars, IsUtf8}
use Rattle.std.specs.List.{concat}
use Rattle.std.proofs.lemmas.List.Sums.{take_while-cons}
use Rattle.std.proofs.lemmas.Str.{chars-append}
use Rattle.py_base.specs.Chars.Classes.{is_line_end}
use Rattle.py_base.specs.Chars.Whitespace.{skip_while}
use Rattle.py_text.specs.Lines.{starts_with_lf, closes_line, end_width, onto_first_line, whole_lines, without_end, split_lines}
use Rattle.py_text.specs.Occurrences.{occurs_at}
use Rattle.py_text.proofs.OccursLemmas.{occurs_true, occurs_means, not_true}

pub and_first : (a b : Bool) → (a && b) ≡ true → a ≡ true
and_first true b h = refl
and_first false b h = h

pub and_second : (a b : Bool) → (a && b) ≡ true → b ≡ true
and_second true b h = h
and_second false b h = absurd (cc)

-- the line that begins with c, where it is no line end
pub begun : (c : ℕ) (cs : List ℕ) → is_line_end c ≡ false → whole_lines (c ∷ cs) ≡ onto_first_line c (whole_lines cs)
begun c cs h = ap (λ t. if t && not (c == 0x0D && starts_with_lf cs) then (c ∷ []) ∷ whole_lines cs else onto_first_line c (whole_lines cs)) h

pub taken_on : (c : ℕ) (cs : List ℕ) → is_line_end c ≡ false → take_while (λ c. not (is_line_end c)) (c ∷ cs) ≡ c ∷ take_while (λ c. not (is_line_end c)) cs
taken_on c cs h = take_while-cons (λ c. not (is_line_end c)) c cs ∙ ap (λ t. cond (not t) (c ∷ take_while (λ c. not (is_line_end c)) cs) []) h

pub taken_none : (c : ℕ) (cs : List ℕ) → is_line_end c ≡ true → take_while (λ c. not (is_line_end c)) (c ∷ cs) ≡ []
taken_none c cs h = take_while-cons (λ c. not (is_line_end c)) c cs ∙ ap (λ t. cond (not t) (c ∷ take_while (λ c. not (is_line_end c)) cs) []) h

skipped_on : (c : ℕ) (cs : List ℕ) → is_line_end c ≡ false → skip_while (λ c. not (is_line_end c)) (c ∷ cs) ≡ skip_while (λ c. not (is_line_end c)) cs
skipped_on c cs h = ap (λ t. if not t then skip_while (λ c. not (is_line_end c)) cs else c ∷ cs) h

skipped_none : (c : ℕ) (cs : List ℕ) → is_line_end c ≡ true → skip_while (λ c. not (is_line_end c)) (c ∷ cs) ≡ c ∷ cs
skipped_none c cs h = ap (λ t. if not t then skip_while (λ c. not (is_line_end c)) cs else c ∷ cs) h

pub lf_first : (cs : List ℕ) → starts_with_lf cs ≡ true → (ds : List ℕ) × (cs ≡ 0x0A ∷ ds)
lf_first [] h = absurd (cc)
lf_first (d ∷ ds) h = (ds, ap (λ e. e ∷ ds) (eqb-true d 0x0A h))

-- a line end alone
end_case : (c : ℕ) (cs : List ℕ) (t : Bool) → is_line_end c ≡ true → (c == 0x0D && starts_with_lf cs) ≡ t → whole_lines (c ∷ cs) ≡ take (end_width (c ∷ cs)) (c ∷ cs) ∷ whole_lines (drop (end_width (c ∷ cs)) (c ∷ cs))
end_case c cs true h e =
    let cr : c ≡ 0x0D = eqb-true c 0x0D (and_first (c == 0x0D) (starts_with_lf cs) e) in
    let lf = lf_first cs (and_second (c == 0x0D) (starts_with_lf cs) e) in
    let P : ℕ → List ℕ → Type 0 = λ d ds. whole_lines (d ∷ ds) ≡ take (end_width (d ∷ ds)) (d ∷ ds) ∷ whole_lines (drop (end_width (d ∷ ds)) (d ∷ ds)) in
    let Q : ℕ → Type 0 = λ d. P d cs in
    let R : List ℕ → Type 0 = λ ds. P 0x0D ds in
    subst Q (sym cr) (subst R (sym lf.1) refl)
end_case c cs false h e =
    let closes : closes_line c cs ≡ true = (λ i. h i && not (e i)) in
    let width : end_width (c ∷ cs) ≡ 1 = ap (λ t. if t then 2 else 1) e in
    ap (λ t. if t then (c ∷ []) ∷ whole_lines cs else onto_first_line c (whole_lines cs)) closes ∙ ap (λ n. take n (c ∷ cs) ∷ whole_lines (drop n (c ∷ cs))) (sym width)

first_case : (c : ℕ) (cs : List ℕ) (t : Bool) → is_line_end c ≡ t → (0 < length cs → whole_lines cs ≡ (take_while (λ c. not (is_line_end c)) cs ++ take (end_width (skip_while (λ c. not (is_line_end c)) cs)) (skip_while (λ c. not (is_line_end c)) cs)) ∷ whole_lines (drop (end_width (skip_while (λ c. not (is_line_end c)) cs)) (skip_while (λ c. not (is_line_end c)) cs))) → whole_lines (c ∷ cs) ≡ (take_while (λ c. not (is_line_end c)) (c ∷ cs) ++ take (end_width (skip_while (λ c. not (is_line_end c)) (c ∷ cs))) (skip_while (λ c. not (is_line_end c)) (c ∷ cs))) ∷ whole_lines (drop (end_width (skip_while (λ c. not (is_line_end c)) (c ∷ cs))) (skip_while (λ c. not (is_line_end c)) (c ∷ cs)))
first_case c cs true h more =
    end_case c cs (c == 0x0D && starts_with_lf cs) h refl
    ∙ ap (λ l. take (end_width l) l ∷ whole_lines (drop (end_width l) l)) (sym (skipped_none c cs h))
    ∙ ap (λ f. (f ++ take (end_width (skip_while (λ c. not (is_line_end c)) (c ∷ cs))) (skip_while (λ c. not (is_line_end c)) (c ∷ cs))) ∷ whole_lines (drop (end_width (skip_while (λ c. not (is_line_end c)) (c ∷ cs))) (skip_while (λ c. not (is_line_end c)) (c ∷ cs)))) (sym (taken_none c cs h))
first_case c [] false h more =
    begun c [] h
    ∙ ap (λ l. (c ∷ take (end_width l) l) ∷ whole_lines (drop (end_width l) l)) (sym (skipped_on c [] h))
    ∙ ap (λ f. (f ++ take (end_width (skip_while (λ c. not (is_line_end c)) (c ∷ []))) (skip_while (λ c. not (is_line_end c)) (c ∷ []))) ∷ whole_lines (drop (end_width (skip_while (λ c. not (is_line_end c)) (c ∷ []))) (skip_while (λ c. not (is_line_end c)) (c ∷ [])))) (sym (taken_on c [] h))
first_case c (d ∷ ds) false h more =
    begun c (d ∷ ds) h ∙ ap (onto_first_line c) (more (omega arith))
    ∙ ap (λ l. (c ∷ (take_while (λ c. not (is_line_end c)) (d ∷ ds) ++ take (end_width l) l)) ∷ whole_lines (drop (end_width l) l)) (sym (skipped_on c (d ∷ ds) h))
    ∙ ap (λ f. (f ++ take (end_width (skip_while (λ c. not (is_line_end c)) (c ∷ d ∷ ds))) (skip_while (λ c. not (is_line_end c)) (c ∷ d ∷ ds))) ∷ whole_lines (drop (end_width (skip_while (λ c. not (is_line_end c)) (c ∷ d ∷ ds))) (skip_while (λ c. not (is_line_end c)) (c ∷ d ∷ ds)))) (sym (taken_on c (d ∷ ds) h))

-- the first line, and the lines after it
pub first_line_is : (L : List ℕ) → 0 < length L → whole_lines L ≡ (take_while (λ c. not (is_line_end c)) L ++ take (end_width (skip_while (λ c. not (is_line_end c)) L)) (skip_while (λ c. not (is_line_end c)) L)) ∷ whole_lines (drop (end_width (skip_while (λ c. not (is_line_end c)) L)) (skip_while (λ c. not (is_line_end c)) L))
first_line_is [] h = absurd (omega arith)
first_line_is (c ∷ cs) h = first_case c cs (is_line_end c) refl (first_line_is cs)

pub width_some : (c : ℕ) (cs : List ℕ) (t : Bool) → (c == 0x0D && starts_with_lf cs) ≡ t → (n : ℕ) × (end_width (c ∷ cs) ≡ n + 1)
width_some c cs true h = (1, ap (λ t. if t then 2 else 1) h)
width_some c cs false h = (0, ap (λ t. if t then 2 else 1) h)

stands_case : (c : ℕ) (cs : List ℕ) (t : Bool) → (c == 0x0D && starts_with_lf cs) ≡ t → occurs_at (0x0D ∷ 0x0A ∷ []) (c ∷ cs) 0 (length (c ∷ cs)) 0 ≡ t
stands_case c cs true e =
    let cr : c ≡ 0x0D = eqb-true c 0x0D (and_first (c == 0x0D) (starts_with_lf cs) e) in
    let lf = lf_first cs (and_second (c == 0x0D) (starts_with_lf cs) e) in
    let long : length cs ≡ length lf.0 + 1 = ap length lf.1 ∙ omega arith in
    occurs_true (0x0D ∷ 0x0A ∷ []) (c ∷ cs) 0 (length (c ∷ cs)) 0 (omega arith) (omega (arith, long)) (lf.0, (λ i. cr i ∷ lf.1 i))
stands_case c cs false e =
    not_true _ (λ h.
    let s = (occurs_means (0x0D ∷ 0x0A ∷ []) (c ∷ cs) 0 (length (c ∷ cs)) 0 h).there in
    let cr : c ≡ 0x0D = cc (s.1) in
    let lf : cs ≡ 0x0A ∷ s.0 = cc (s.1) in
    let yes : (c == 0x0D && starts_with_lf cs) ≡ true = (λ i. (cr i == 0x0D) && starts_with_lf (lf i)) in
    let no : true ≡ false = sym yes ∙ e in absurd (cc))

-- what a test for CR LF tells of the width
pub width_by : (L : List ℕ) (r : Bool) → 0 < length L → r ≡ occurs_at (0x0D ∷ 0x0A ∷ []) L 0 (length L) 0 → (if r then 2 else 1) ≡ end_width L
width_by [] r h e = absurd (omega arith)
width_by (c ∷ cs) r h e = ap (λ t. if t then 2 else 1) (e ∙ stands_case c cs (c == 0x0D && starts_with_lf cs) refl)

without_case : (c : ℕ) (cs : List ℕ) (t : Bool) → is_line_end c ≡ t → without_end (take_while (λ c. not (is_line_end c)) cs ++ take (end_width (skip_while (λ c. not (is_line_end c)) cs)) (skip_while (λ c. not (is_line_end c)) cs)) ≡ take_while (λ c. not (is_line_end c)) cs → without_end (take_while (λ c. not (is_line_end c)) (c ∷ cs) ++ take (end_width (skip_while (λ c. not (is_line_end c)) (c ∷ cs))) (skip_while (λ c. not (is_line_end c)) (c ∷ cs))) ≡ take_while (λ c. not (is_line_end c)) (c ∷ cs)
without_case c cs true h more =
    let w = width_some c cs (c == 0x0D && starts_with_lf cs) refl in
    let more_one : w.0 + 1 ≡ suc w.0 = omega arith in
    let end : take (end_width (c ∷ cs)) (c ∷ cs) ≡ c ∷ take w.0 cs = ap (λ n. take n (c ∷ cs)) (w.1 ∙ more_one) in
    ap (λ f. without_end (f ++ take (end_width (skip_while (λ c. not (is_line_end c)) (c ∷ cs))) (skip_while (λ c. not (is_line_end c)) (c ∷ cs)))) (taken_none c cs h)
    ∙ ap (λ l. without_end (take (end_width l) l)) (skipped_none c cs h) ∙ ap without_end end ∙ taken_none c (take w.0 cs) h ∙ sym (taken_none c cs h)
without_case c cs false h more =
    ap (λ f. without_end (f ++ take (end_width (skip_while (λ c. not (is_line_end c)) (c ∷ cs))) (skip_while (λ c. not (is_line_end c)) (c ∷ cs)))) (taken_on c cs h)
    ∙ ap (λ l. without_end (c ∷ (take_while (λ c. not (is_line_end c)) cs ++ take (end_width l) l))) (skipped_on c cs h)
    ∙ taken_on c (take_while (λ c. not (is_line_end c)) cs ++ take (end_width (skip_while (λ c. not (is_line_end c)) cs)) (skip_while (λ c. not (is_line_end c)) cs)) h
    ∙ ap (λ r. c ∷ r) more ∙ sym (taken_on c cs h)

-- the first line without its end
pub first_without : (L : List ℕ) → without_end (take_while (λ c. not (is_line_end c)) L ++ take (end_width (skip_while (λ c. not (is_line_end c)) L)) (skip_while (λ c. not (is_line_end c)) L)) ≡ take_while (λ c. not (is_line_end c)) L
first_without [] = refl
first_without (c ∷ cs) = without_case c cs (is_line_end c) refl (first_without cs)

skip_le_case : (q : ℕ → Bool) (c : ℕ) (cs : List ℕ) (t : Bool) → q c ≡ t → length (skip_while q cs) ≤ length cs → length (skip_while q (c ∷ cs)) ≤ length (c ∷ cs)
skip_le_case q c cs true h more = omega (arith, more, ap length (ap (λ t. if t then skip_while q cs else c ∷ cs) h))
skip_le_case q c cs false h more = omega (arith, ap length (ap (λ t. if t then skip_while q cs else c ∷ cs) h))

pub skip_le : (q : ℕ → Bool) (L : List ℕ) → length (skip_while q L) ≤ length L
skip_le q [] = omega arith
skip_le q (c ∷ cs) = skip_le_case q c cs (q c) refl (skip_le q cs)

shorter_case : (c : ℕ) (cs : List ℕ) (t : Bool) → is_line_end c ≡ t → length (drop (end_width (skip_while (λ c. not (is_line_end c)) (c ∷ cs))) (skip_while (λ c. not (is_line_end c)) (c ∷ cs))) < length (c ∷ cs)
shorter_case c cs true h =
    let w = width_some c cs (c == 0x0D && starts_with_lf cs) refl in
    let e : length (drop (end_width (skip_while (λ c. not (is_line_end c)) (c ∷ cs))) (skip_while (λ c. not (is_line_end c)) (c ∷ cs))) ≡ length (drop (end_width (c ∷ cs)) (c ∷ cs)) = ap (λ l. length (drop (end_width l) l)) (skipped_none c cs h) in
    omega (arith, e, w.1, length-drop (end_width (c ∷ cs)) (c ∷ cs))
shorter_case c cs false h =
    let e : length (drop (end_width (skip_while (λ c. not (is_line_end c)) (c ∷ cs))) (skip_while (λ c. not (is_line_end c)) (c ∷ cs))) ≡ length (drop (end_width (skip_while (λ c. not (is_line_end c)) cs)) (skip_while (λ c. not (is_line_end c)) cs)) = ap (λ l. length (drop (end_width l) l)) (skipped_on c cs h) in
    omega (arith, e, length-drop (end_width (skip_while (λ c. not (is_line_end c)) cs)) (skip_while (λ c. not (is_line_end c)) cs), skip_le (λ c. not (is_line_end c)) cs)

pub first_shorter : (L : List ℕ) → 0 < length L → length (drop (end_width (skip_while (λ c. not (is_line_end c)) L)) (skip_while (λ c. not (is_line_end c)) L)) < length L
first_shorter [] h = absurd (omega arith)
first_shorter (c ∷ cs) h = shorter_case c cs (is_line_end c) refl

-- the parts of a text that begins with a line
pub line_front : (s : List ℕ) (i n w : ℕ) → IsUtf8 (take i s) → chars (take i s) ≡ take_while (λ c. not (is_line_end c)) (chars s) → chars (drop i s) ≡ skip_while (λ c. not (is_line_end c)) (chars s) → w ≡ end_width (chars (drop i s)) → chars (take n (drop i s)) ≡ take w (chars (drop i s)) → chars (take (i + n) s) ≡ take_while (λ c. not (is_line_end c)) (chars s) ++ take (end_width (skip_while (λ c. not (is_line_end c)) (chars s))) (skip_while (λ c. not (is_line_end c)) (chars s))
line_front s i n w u f r e t =
    ap chars (take-add i n s) ∙ chars-append (take i s) (take n (drop i s)) u ∙ ap (λ a. a ++ chars (take n (drop i s))) f
    ∙ ap (λ b. take_while (λ c. not (is_line_end c)) (chars s) ++ b) (t ∙ ap (λ k. take k (chars (drop i s))) e ∙ ap (λ l. take (end_width l) l) r)

pub line_behind : (s : List ℕ) (i n w : ℕ) → chars (drop i s) ≡ skip_while (λ c. not (is_line_end c)) (chars s) → w ≡ end_width (chars (drop i s)) → chars (drop n (drop i s)) ≡ drop w (chars (drop i s)) → chars (drop (i + n) s) ≡ drop (end_width (skip_while (λ c. not (is_line_end c)) (chars s))) (skip_while (λ c. not (is_line_end c)) (chars s))
line_behind s i n w r e t =
    ap chars (sym (drop-drop n i s)) ∙ t ∙ ap (λ k. drop k (chars (drop i s))) e ∙ ap (λ l. drop (end_width l) l) r

no_lines : (keep : Bool) → split_lines keep [] ≡ []
no_lines true = refl
no_lines false = refl

pub lines_done : (keep : Bool) (L : List ℕ) (list total : List (List ℕ)) → L ≡ [] → list ++ split_lines keep L ≡ total → list ≡ total
lines_done keep L list total e h = sym (append-nil list) ∙ ap (λ r. list ++ r) (sym (ap (split_lines keep) e ∙ no_lines keep)) ∙ h

one_line : (keep : Bool) (L whole line after : List ℕ) → whole_lines L ≡ whole ∷ whole_lines after → line ≡ without_end whole → split_lines keep L ≡ (if keep then whole else line) ∷ split_lines keep after
one_line true L whole line after h e = h
one_line false L whole line after h e = ap (map without_end) h ∙ ap (λ l. l ∷ map without_end (whole_lines after)) (sym e)

-- one line more is in the list
pub lines_more : (keep : Bool) (L whole line after kept : List ℕ) (list longer total : List (List ℕ)) → whole_lines L ≡ whole ∷ whole_lines after → line ≡ without_end whole → kept ≡ (if keep then whole else line) → longer ≡ list ++ kept ∷ [] → list ++ split_lines keep L ≡ total → longer ++ split_lines keep after ≡ total
lines_more keep L whole line after kept list longer total h e k l t =
    ap (λ r. r ++ split_lines keep after) (l ∙ ap (λ r. list ++ r ∷ []) k) ∙ append_assoc list ((if keep then whole else line) ∷ []) (split_lines keep after)
    ∙ ap (λ r. list ++ r) (sym (one_line keep L whole line after h e)) ∙ t

-- the lines, joined
concat_front : (c : ℕ) (ls : List (List ℕ)) → concat (onto_first_line c ls) ≡ c ∷ concat ls
concat_front c [] = refl
concat_front c (l ∷ ls) = refl

line_case : (c : ℕ) (cs : List ℕ) (t : Bool) → closes_line c cs ≡ t → concat (whole_lines cs) ≡ cs → concat (whole_lines (c ∷ cs)) ≡ c ∷ cs
line_case c cs true h more = ap (λ b. concat (if b then (c ∷ []) ∷ whole_lines cs else onto_first_line c (whole_lines cs))) h ∙ ap (λ r. c ∷ r) more
line_case c cs false h more = ap (λ b. concat (if b then (c ∷ []) ∷ whole_lines cs else onto_first_line c (whole_lines cs))) h ∙ concat_front c (whole_lines cs) ∙ ap (λ r. c ∷ r) more

pub lines_joined : (L : List ℕ) → concat (whole_lines L) ≡ L
lines_joined [] = refl
lines_joined (c ∷ cs) = line_case c cs (closes_line c cs) refl (lines_joined cs)
