-- The hash of an integer.
use Rattle.std.specs.Prelude.{ℤ, pos, negsuc, zero, suc, ◌%◌, ◌-◌, ◌^◌, neg_ℤ}

-- the sign of the number times (its magnitude mod 2 ^ 61 - 1)
abbrev pub signed_rest : ℤ → ℤ
signed_rest (pos n) = pos (n % (2 ^ 61 - 1))
signed_rest (negsuc n) = neg_ℤ (pos (suc n % (2 ^ 61 - 1)))

-- -1 means an error in C, so -2 takes its place
abbrev pub never_minus_one : ℤ → ℤ
never_minus_one (negsuc zero) = negsuc 1
never_minus_one h = h

abbrev pub int_hash : ℤ → ℤ
int_hash n = never_minus_one (signed_rest n)
