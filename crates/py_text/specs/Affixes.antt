-- A list without a prefix or a suffix.
use Rattle.std.specs.Prelude.{ℕ, ◌-◌, Bool, nat_eq, if◌then◌else◌, List, length, take, drop}
use Rattle.std.specs.Cmp.Lexicographic.{pointwise}

-- two lists are the same
abbrev pub same : List ℕ → List ℕ → Bool
same xs ys = pointwise nat_eq xs ys

-- L without the prefix x, where it begins with x
abbrev pub without_prefix : List ℕ → List ℕ → List ℕ
without_prefix x L = if same (take (length x) L) x then drop (length x) L else L

-- L without the suffix x, where it ends with x
abbrev pub without_suffix : List ℕ → List ℕ → List ℕ
without_suffix x L =
    if same (drop (length L - length x) L) x then take (length L - length x) L else L
