-- A text filled up to a width in code points.
use Rattle.std.specs.Prelude.{◌≡◌, ℕ, ◌+◌, ◌-◌, ◌/◌, ◌%◌, Bool, ◌&&◌, ◌||◌, ◌==◌, if◌then◌else◌, ℤ, pos, negsuc, List, [], ◌∷◌, ◌++◌, length, Option, Some, None, option_copied, MatchOption}
use Rattle.std.specs.Borrow.{Bor}
use Rattle.py_base.specs.declared.error.PyError.{PyError}
use Rattle.py_base.specs.declared.error.PyError.TheVariants.{NoMemory, FillChar}
use Rattle.py_text.specs.Sums.{copies}

-- the fill: a space where none is given; there is none where the text is not one code point
abbrev pub fill_of : Option (List ℕ) → Option ℕ
fill_of None = Some 0x20
fill_of (Some []) = None
fill_of (Some (c ∷ [])) = Some c
fill_of (Some (_ ∷ _ ∷ _)) = None

-- a width or a size: a negative one is 0
abbrev pub width_of : ℤ → ℕ
width_of (pos n) = n
width_of (negsuc _) = 0

-- n times the character c
abbrev pub run : ℕ → ℕ → List ℕ
run n c = copies n (c ∷ [])

-- how many code points a text is short of a width
abbrev pub short_by : ℕ → List ℕ → ℕ
short_by width cs = width - length cs

-- the text, and what it is short of
abbrev pub ljust : ℕ → List ℕ → ℕ → List ℕ
ljust width cs fill = cs ++ run (short_by width cs) fill

-- what the text is short of, and the text
abbrev pub rjust : ℕ → List ℕ → ℕ → List ℕ
rjust width cs fill = run (short_by width cs) fill ++ cs

-- how much of a fill of k is on the left: the half, and one more where k and the width are both odd
abbrev pub left_part : ℕ → ℕ → ℕ
left_part k width = if k % 2 == 1 && width % 2 == 1 then k / 2 + 1 else k / 2

-- the text between the two parts of what it is short of
abbrev pub center : ℕ → List ℕ → ℕ → List ℕ
center width cs fill =
    let k = short_by width cs in
    run (left_part k width) fill ++ (cs ++ run (k - left_part k width) fill)

-- `+` or `-`
abbrev pub is_sign : ℕ → Bool
is_sign c = c == 43 || c == 45

-- a sign that the text begins with, and the rest
abbrev pub sign_parts : List ℕ → List ℕ × List ℕ
sign_parts [] = ([], [])
sign_parts (c ∷ cs) = if is_sign c then (c ∷ [], cs) else ([], c ∷ cs)

-- the text with n zeros after its sign
abbrev pub after_sign : ℕ → List ℕ → List ℕ
after_sign n cs =
    let parts = sign_parts cs in
    parts.0 ++ (run n 48 ++ parts.1)

-- the text with zeros after its sign, up to a width
abbrev pub zfill : ℕ → List ℕ → List ℕ
zfill width cs = after_sign (short_by width cs) cs

-- the result of a padding: the fill is one code point, and the text is padded with it
abbrev pub IsPadded : Option (Bor (List ℕ)) → (ℕ → List ℕ) → List ℕ → Type 0
IsPadded fill pad made = MatchOption (fill_of (option_copied fill)) ⊥ (λ c. made ≡ pad c)

-- the error of a padding: `FillChar` exactly where the fill is not one code point
abbrev pub IsPadError : Option (Bor (List ℕ)) → PyError → Type 0
IsPadError fill e = MatchOption (fill_of (option_copied fill)) (e ≡ FillChar) (λ _. e ≡ NoMemory)
