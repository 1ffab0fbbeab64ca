-- The characters at the start of a text that pass a test, by their bytes.
use Rattle.std.specs.Prelude.{◌≡◌, ℕ, Bool, List, ◌++◌, length, chars, take_while, IsUtf8}
use Rattle.py_base.specs.Chars.Whitespace.{skip_while}

-- the first bytes of s, so many, before the rest, are characters that pass q
pub record IsPassed (q : ℕ → Bool) (s rest : List ℕ) (at : ℕ) : Type 0 where
  pub front : List ℕ
  pub parts : s ≡ front ++ rest
  pub front_utf8 : IsUtf8 front
  pub rest_utf8 : IsUtf8 rest
  pub place : length front ≡ at
  pub taken : take_while q (chars s) ≡ chars front ++ take_while q (chars rest)
  pub skipped : skip_while q (chars s) ≡ skip_while q (chars rest)
