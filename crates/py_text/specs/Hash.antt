-- The hash of a text.
use Rattle.std.specs.Prelude.{◌≡◌, ℕ, ℤ, ◌*◌, ◌%◌, ◌^◌, bit_xor, List, nat_eq, true, encode_utf8_all, fold}
use Rattle.std.specs.Cmp.Lexicographic.{pointwise, bytes_decides}
use Rattle.std.specs.Hash as fed
use Rattle.std.specs.Int.{cast_signed, w64}
use Rattle.std.proofs.Common.{ap}
use Rattle.py_base.specs.Hash.{never_minus_one}

-- what the hash of Fowler, Noll and Vo (FNV-1a) of 64 bits begins with
abbrev pub fnv_offset_basis : ℕ
fnv_offset_basis = 14_695_981_039_346_656_037

-- and what it multiplies by
abbrev pub fnv_prime : ℕ
fnv_prime = 1_099_511_628_211

-- one byte more
abbrev pub mixed : ℕ → ℕ → ℕ
mixed h b = (bit_xor h b * fnv_prime) % 2 ^ 64

-- the UTF-8 bytes, mixed in one after another
abbrev pub text_hash : ℕ → List ℕ → ℤ
text_hash seed L =
    let hashed = fold mixed (bit_xor seed fnv_offset_basis) (encode_utf8_all L) in
    never_minus_one (cast_signed w64 hashed)

-- equal texts feed a hasher the same
pub alike_texts : (a b : List ℕ) → pointwise nat_eq a b ≡ true
    → fed.str (encode_utf8_all a) ≡ fed.str (encode_utf8_all b)
alike_texts a b h = ap (λ t. fed.str (encode_utf8_all t)) ((bytes_decides a b).0 h)
