-- ASCII whitespace, and bytes without what is at their ends.
use Rattle.std.specs.Prelude.{ℕ, Bool, ◌||◌, ◌==◌, if◌then◌else◌, List, [], ◌∷◌, reverse}
use Rattle.py_base.specs.Chars.Classes.{between}

-- tab to carriage return, and the space
abbrev pub is_ascii_whitespace : ℕ → Bool
is_ascii_whitespace c = between 0x09 0x0D c || c == 0x20

-- the list from its first number on that fails the test
abbrev pub skip_while : (ℕ → Bool) → List ℕ → List ℕ
skip_while test [] = []
skip_while test (c ∷ cs) = if test c then skip_while test cs else c ∷ cs

-- without what passes the test at the start
abbrev pub trim_start : (ℕ → Bool) → List ℕ → List ℕ
trim_start test cs = skip_while test cs

-- without what passes the test at the end
abbrev pub trim_end : (ℕ → Bool) → List ℕ → List ℕ
trim_end test cs = reverse (skip_while test (reverse cs))

-- without what passes the test at both ends
abbrev pub trim : (ℕ → Bool) → List ℕ → List ℕ
trim test cs = trim_end test (trim_start test cs)
