-- The window of a text that a search looks at.
use Rattle.std.specs.Prelude.{ℕ, ◌+◌, ◌-◌, min, ℤ, pos, negsuc, Option, Some, None}

-- a place in n code points; a negative one counts from the end, and is 0 where that is before the
-- beginning
abbrev pub counted_place : ℕ → ℤ → ℕ
counted_place n (pos a) = a
counted_place n (negsuc k) = n - (k + 1)

-- where the window of n code points begins; with no place given, at 0
abbrev pub window_start : ℕ → Option ℤ → ℕ
window_start n None = 0
window_start n (Some a) = counted_place n a

-- where the window of n code points ends; with no place given, or one past n, at n
abbrev pub window_end : ℕ → Option ℤ → ℕ
window_end n None = n
window_end n (Some b) = min (counted_place n b) n
