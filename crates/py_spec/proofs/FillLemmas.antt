-- Runs of spaces and zeros, and units between spaces.
use Rattle.std.proofs.Common.{◌≡◌, ◌∙◌, ℕ, zero, suc, ◌+◌, ◌-◌, ◌&&◌, nat_lt, Bool, true, false, if◌then◌else◌, List, ◌++◌, length, take, sym, ap, subst, refl, arith, append_assoc, length-append, take_all, chars}
use Rattle.std.specs.Prelude.{replicate}
use Rattle.std.specs.Str.{IsUtf8}
use Rattle.std.proofs.lemmas.List.{length-replicate}
use Rattle.std.proofs.lemmas.Str.{IsUtf8-append, IsUtf8-from_ascii, chars-append, chars-IsAscii}
use Rattle.py_text.specs.Text.{all_ascii}
use Rattle.py_text.proofs.PointLemmas.{is_ascii}
use Rattle.py_spec.specs.declared.percent.parts.CConversionFlags.{CConversionFlags}
use Rattle.py_spec.specs.Percent.Flags.{left_adjust}
use Rattle.py_spec.specs.Percent.Writing.{has, spaces, zeros, sides, between}

-- bytes filled up with copies of one
pub run_put : (old new : List ℕ) (n len count byte : ℕ) → n ≡ length old → len ≡ n + count → new ≡ take len old ++ replicate (len - n) byte → new ≡ old ++ replicate count byte
run_put old new n len count byte o l e =
    e ∙ ap (λ (xs : List ℕ). xs ++ replicate (len - n) byte) (take_all len old (omega (arith, o, l)))
    ∙ ap (λ (k : ℕ). old ++ replicate k byte) {x = len - n} {y = count} (omega (arith, l))

-- the spaces on both sides are all
pub sides_sum : (flags : CConversionFlags) (n : ℕ) → (sides flags n).0 + (sides flags n).1 ≡ n
sides_sum flags n = by_test (has left_adjust flags) where
  by_test : (b : Bool) → (let side : ℕ × ℕ = if b then (0, n) else (n, 0) in side.0 + side.1 ≡ n)
  by_test true = omega arith
  by_test false = omega arith

-- spaces, bytes and spaces, put one after another
pub between_put : (one two three bytes : List ℕ) (before after : ℕ) → one ≡ spaces before → two ≡ one ++ bytes → three ≡ two ++ spaces after → three ≡ spaces before ++ (bytes ++ spaces after)
between_put one two three bytes before after o w h =
    h ∙ ap (λ (xs : List ℕ). xs ++ spaces after) (w ∙ ap (λ (xs : List ℕ). xs ++ bytes) o) ∙ append_assoc (spaces before) bytes (spaces after)

run_ascii : (n c : ℕ) → nat_lt c 128 ≡ true → all_ascii (replicate n c) ≡ true
run_ascii zero c h = refl
run_ascii (suc n) c h = ap (λ (b : Bool). b && all_ascii (replicate n c)) h ∙ run_ascii n c h

pub spaces_ascii : (n : ℕ) → all_ascii (spaces n) ≡ true
spaces_ascii n = run_ascii n 32 refl

pub zeros_ascii : (n : ℕ) → all_ascii (zeros n) ≡ true
zeros_ascii n = run_ascii n 48 refl

spaces_utf8 : (n : ℕ) → IsUtf8 (spaces n)
spaces_utf8 n = IsUtf8-from_ascii (spaces n) (is_ascii (spaces n) (spaces_ascii n))

spaces_chars : (n : ℕ) → chars (spaces n) ≡ spaces n
spaces_chars n = chars-IsAscii (spaces n) (is_ascii (spaces n) (spaces_ascii n))

-- a text between spaces is a text
pub between_utf8 : (made bytes : List ℕ) (side : ℕ × ℕ) → IsUtf8 bytes → made ≡ between side bytes → IsUtf8 made
between_utf8 made bytes side u e =
    subst IsUtf8 (sym e) (IsUtf8-append (spaces side.0) (bytes ++ spaces side.1) (spaces_utf8 side.0) (IsUtf8-append bytes (spaces side.1) u (spaces_utf8 side.1)))

-- and its code points are those of the text between spaces
pub between_chars : (made bytes : List ℕ) (side : ℕ × ℕ) → IsUtf8 bytes → made ≡ between side bytes → chars made ≡ between side (chars bytes)
between_chars made bytes side u e =
    ap chars e ∙ chars-append (spaces side.0) (bytes ++ spaces side.1) (spaces_utf8 side.0)
    ∙ ap (λ (xs : List ℕ). xs ++ chars (bytes ++ spaces side.1)) (spaces_chars side.0)
    ∙ ap (λ (xs : List ℕ). spaces side.0 ++ xs) (chars-append bytes (spaces side.1) u ∙ ap (λ (xs : List ℕ). chars bytes ++ xs) (spaces_chars side.1))

-- how many units are between and in the spaces
pub between_length : (side : ℕ × ℕ) (units : List ℕ) → length (between side units) ≡ side.0 + (length units + side.1)
between_length side units =
    omega (arith, length-append (spaces side.0) (units ++ spaces side.1), length-append units (spaces side.1), length-replicate {A = ℕ} side.0 32, length-replicate {A = ℕ} side.1 32)
