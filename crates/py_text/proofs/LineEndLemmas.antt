-- Each line has one line end, at its end.
use Rattle.std.specs.Prelude.{◌≡◌, ◌≢◌, ℕ, Bool, true, false, not, ◌&&◌, ◌==◌, if◌then◌else◌, List, [], ◌∷◌, ◌++◌}
use Rattle.std.specs.List.{concat}
use Rattle.std.proofs.Common.{inl, inr, refl, ap, sym, ◌∙◌, subst, eqb-true}
use Rattle.py_base.specs.Chars.Classes.{is_line_end}
use Rattle.py_text.specs.Lines.{starts_with_lf, closes_line, onto_first_line, whole_lines}
use Rattle.py_text.specs.Laws.{IsLine, AreLines, LinesEndOnce}
use Rattle.py_text.proofs.LineLemmas.{and_first, and_second, begun, taken_on, taken_none, lf_first, lines_joined}

not_nil : (c : ℕ) (cs : List ℕ) → c ∷ cs ≢ []
not_nil c cs e = cc

-- a line end that closes its line is a line
closed : (c : ℕ) (cs : List ℕ) → closes_line c cs ≡ true → IsLine (c ∷ []) (concat (whole_lines cs))
closed c cs h =
    let ends : is_line_end c ≡ true = and_first (is_line_end c) (not (c == 0x0D && starts_with_lf cs)) h in
    inl (c ∷ [], ap (λ t. t ++ c ∷ []) (sym (taken_none c [] ends)), inr (c, refl, ap (closes_line c) (lines_joined cs) ∙ h))

-- a line is one with a character before it that is no line end
longer : (c : ℕ) (l rest : List ℕ) → is_line_end c ≡ false → IsLine l rest → IsLine (c ∷ l) rest
longer c l rest h (inl s) = inl (s.0, ap (λ t. c ∷ t) s.1 ∙ ap (λ t. t ++ s.0) (sym (taken_on c l h)), s.2)
longer c l rest h (inr s) = inr (s.0, not_nil c l, taken_on c l h ∙ ap (λ t. c ∷ t) s.2)

onto : (c : ℕ) (ls : List (List ℕ)) → is_line_end c ≡ false → AreLines ls → AreLines (onto_first_line c ls)
onto c [] h more = (inr (refl, not_nil c [], taken_on c [] h), tt)
onto c (l ∷ ls) h more = (longer c l (concat ls) h more.0, more.1)

crlf : (ds : List ℕ) → AreLines (whole_lines (0x0A ∷ ds)) → AreLines (whole_lines (0x0D ∷ 0x0A ∷ ds))
crlf ds more =
    (inl (0x0D ∷ 0x0A ∷ [], ap (λ t. t ++ 0x0D ∷ 0x0A ∷ []) (sym (taken_none 0x0D (0x0A ∷ []) refl)), inl refl), more.1)

not_closed : (a b : Bool) → a ≡ true → (a && not b) ≡ false → b ≡ true
not_closed true true p q = refl
not_closed true false p q = absurd (cc)
not_closed false b p q = absurd (cc)

line_case : (c : ℕ) (cs : List ℕ) (t u : Bool) → closes_line c cs ≡ t → is_line_end c ≡ u → AreLines (whole_lines cs) → AreLines (whole_lines (c ∷ cs))
line_case c cs true u h e more =
    subst AreLines (sym (ap (λ t. if t then (c ∷ []) ∷ whole_lines cs else onto_first_line c (whole_lines cs)) h)) (closed c cs h, more)
line_case c cs false false h e more = subst AreLines (sym (begun c cs e)) (onto c (whole_lines cs) e more)
line_case c cs false true h e more =
    let both : (c == 0x0D && starts_with_lf cs) ≡ true = not_closed (is_line_end c) (c == 0x0D && starts_with_lf cs) e h in
    let cr : c ≡ 0x0D = eqb-true c 0x0D (and_first (c == 0x0D) (starts_with_lf cs) both) in
    let lf = lf_first cs (and_second (c == 0x0D) (starts_with_lf cs) both) in
    let P : List ℕ → Type 0 = λ ds. AreLines (whole_lines ds) → AreLines (whole_lines (c ∷ ds)) in
    let Q : ℕ → Type 0 = λ d. AreLines (whole_lines (0x0A ∷ lf.0)) → AreLines (whole_lines (d ∷ 0x0A ∷ lf.0)) in
    subst P (sym lf.1) (subst Q (sym cr) (crlf lf.0)) more

are_lines : (L : List ℕ) → AreLines (whole_lines L)
are_lines [] = tt
are_lines (c ∷ cs) = line_case c cs (closes_line c cs) (is_line_end c) refl refl (are_lines cs)

pub lines_end_once : LinesEndOnce
lines_end_once = λ L. are_lines L
