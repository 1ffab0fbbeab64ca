-- Inverses of natural numbers under a modulus.
use Rattle.std.specs.Prelude.{◌≡◌, ◌≢◌, ◌<◌, ◌*◌, ◌%◌, ℕ}

-- i is below m, and a times i leaves by m what 1 leaves
abbrev pub IsInverseBelow : ℕ → ℕ → ℕ → Type 0
IsInverseBelow m a i = (i < m) × ((a * i) % m ≡ 1 % m)

abbrev pub HasNoInverse : ℕ → ℕ → Type 0
HasNoInverse m a = (i : ℕ) → (a * i) % m ≢ 1 % m
