-- Which characters are stripped from the ends of a text.
use Rattle.std.specs.Prelude.{ℕ, Bool, ◌==◌, List, Option, Some, None, option_copied}
use Rattle.std.specs.Borrow.{Bor}
use Rattle.std.specs.List.{list_any}
use Rattle.py_base.specs.Chars.Classes.{is_white}

-- one of the characters of a text, or whitespace where no text is given
abbrev pub is_one_of : Option (List ℕ) → ℕ → Bool
is_one_of None c = is_white c
is_one_of (Some cs) c = list_any (λ d. d == c) cs

-- the same of a text that is borrowed
abbrev pub strips : Option (Bor (List ℕ)) → ℕ → Bool
strips named c = is_one_of (option_copied named) c
