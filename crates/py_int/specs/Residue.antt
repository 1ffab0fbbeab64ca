-- Remainders that are not negative.
use Rattle.std.specs.Prelude.{ℕ, ◌-◌, ◌%◌, ◌==◌, ℤ, pos, negsuc, if◌then◌else◌}

-- the r below m that z exceeds by a multiple of m; of m = 0 it says nothing
abbrev pub residue : ℤ → ℕ → ℕ
residue (pos a) m = a % m
residue (negsuc a) m = m - 1 - a % m

-- r, or r - |b| where b is negative and r is not 0
abbrev pub toward : ℕ → ℤ → ℤ
toward r (pos b) = pos r
toward r (negsuc b) = if r == 0 then pos 0 else negsuc (b - r)
