-- Literals of a percent template: the longest runs outside specifiers.
use Rattle.std.specs.Prelude.{ℕ, ◌==◌, Bool, not, if◌then◌else◌, List, [], ◌∷◌, take_while}
use Rattle.py_base.specs.Chars.Whitespace.{skip_while}

-- all but `%`, which is 37
abbrev pub is_plain : ℕ → Bool
is_plain c = not (c == 37)

-- the units before the next `%`, and those from it on
abbrev pub plain : List ℕ → List ℕ
plain cs = take_while is_plain cs

abbrev pub after_plain : List ℕ → List ℕ
after_plain cs = skip_while is_plain cs

abbrev pub put_first : ℕ → List ℕ × List ℕ → List ℕ × List ℕ
put_first c r = (c ∷ r.0, r.1)

-- the longest literal at the beginning, in which `%%` is a percent sign, and what is after it:
-- nothing, or a specifier
abbrev pub literal : List ℕ → List ℕ × List ℕ
literal [] = ([], [])
literal (c ∷ []) = if c == 37 then ([], c ∷ []) else (c ∷ [], [])
literal (c ∷ d ∷ cs) =
    if c == 37 then (if d == 37 then put_first 37 (literal cs) else ([], c ∷ d ∷ cs))
    else put_first c (literal (d ∷ cs))
