-- What is written of a string and of a number.
use Rattle.std.proofs.Common.{◌≡◌, ◌∙◌, ℕ, ℤ, ◌+◌, ◌-◌, ◌≤◌, Bool, true, false, if◌then◌else◌, List, [], ◌∷◌, ◌++◌, length, sym, ap, refl, arith, append_assoc, length-append, take_all, chars}
use Rattle.std.specs.Prelude.{Some, unsigned_abs}
use Rattle.std.specs.Int.{is_negative}
use Rattle.std.specs.Str.{IsUtf8}
use Rattle.std.proofs.lemmas.List.{length-replicate, replicate-append-replicate}
use Rattle.py_text.specs.Text.{all_ascii}
use Rattle.py_text.proofs.AsciiLemmas.{ascii_append}
use Rattle.py_spec.specs.declared.percent.parts.CConversionFlags.{CConversionFlags}
use Rattle.py_spec.specs.declared.percent.parts.CFormatSpec.{CFormatSpec}
use Rattle.py_spec.specs.declared.percent.parts.CNumberType.{CNumberType}
use Rattle.py_spec.specs.declared.percent.parts.CNumberType.TheVariants.{Decimal, Octal, Hex, HexUpper}
use Rattle.py_spec.specs.Percent.Flags.{alternate_form, blank_sign, sign_char}
use Rattle.py_spec.specs.Percent.Writing.{has, spaces, zeros, width_in, precision_in, short_of, sides, between, filled, cut, sign_text, prefix_of, prefix_text, digits_of, least_digits, at_least, zero_fill, zero_filled, number_after, kind_of, number_text}
use Rattle.py_spec.proofs.FillLemmas.{sides_sum, spaces_ascii, zeros_ascii, between_chars, between_length}
use Rattle.py_spec.proofs.NumeralLemmas.{digits_ascii}

-- a text with spaces up to the width
pub filled_count : (made text : List ℕ) (flags : CConversionFlags) (count short : ℕ) (side : ℕ × ℕ) → side ≡ sides flags short → IsUtf8 text → made ≡ between side text → count ≡ length (chars text) → count + short ≡ length (chars made)
filled_count made text flags count short side s u e c =
    let sum : side.0 + side.1 ≡ short = ap (λ (p : ℕ × ℕ). p.0 + p.1) s ∙ sides_sum flags short in
    omega (arith, ap length (between_chars made text side u e), between_length side (chars text), sum, c)

pub filled_text : (s : CFormatSpec) (result made text : List ℕ) (width count short : ℕ) (side : ℕ × ℕ) → width ≡ width_in s.min_field_width → short ≡ width - count → count ≡ length (chars text) → side ≡ sides s.flags short → IsUtf8 text → made ≡ between side text → result ≡ chars made → result ≡ filled s (chars text)
filled_text s result made text width count short side w h c d u e r =
    let is : short ≡ short_of s (length (chars text)) = omega (arith, w, h, c) in
    r ∙ between_chars made text side u e ∙ ap (λ (p : ℕ × ℕ). between p (chars text)) (d ∙ ap (sides s.flags) is)

-- bytes with spaces up to the width
pub filled_bytes : (s : CFormatSpec) (made kept units : List ℕ) (width short : ℕ) (side : ℕ × ℕ) → kept ≡ units → width ≡ width_in s.min_field_width → short ≡ width - length kept → side ≡ sides s.flags short → made ≡ between side kept → made ≡ filled s units
filled_bytes s made kept units width short side k w h d e =
    let is : short ≡ short_of s (length kept) = omega (arith, w, h) in
    e ∙ ap (λ (p : ℕ × ℕ). between p kept) (d ∙ ap (sides s.flags) is) ∙ ap (filled s) k

-- a cut that keeps all
pub cut_all : (n : ℕ) (units : List ℕ) → length units ≤ n → units ≡ cut (Some n) units
cut_all n units h = sym (take_all n units h)

-- zeros up to the precision, after those up to the width
pub zeros_joined : (fill least : ℕ) (ds : List ℕ) → zeros (fill + least) ++ ds ≡ zeros fill ++ (zeros least ++ ds)
zeros_joined fill least ds = ap (λ (z : List ℕ). z ++ ds) (sym (replicate-append-replicate fill least 48)) ∙ append_assoc (zeros fill) (zeros least) ds

pub zeros_length : (n : ℕ) (ds : List ℕ) → length (zeros n ++ ds) ≡ n + length ds
zeros_length n ds = omega (arith, length-append (zeros n) ds, length-replicate {A = ℕ} n 48)

head_length : (sign prefix ds : List ℕ) (n : ℕ) → length ((sign ++ prefix) ++ (zeros n ++ ds)) ≡ length sign + length prefix + n + length ds
head_length sign prefix ds n = omega (arith, length-append (sign ++ prefix) (zeros n ++ ds), length-append sign prefix, zeros_length n ds)

body_length : (sign prefix ds : List ℕ) (fill n : ℕ) → length ((sign ++ prefix) ++ (zeros fill ++ (zeros n ++ ds))) ≡ length sign + length prefix + fill + n + length ds
body_length sign prefix ds fill n = omega (arith, head_length sign prefix (zeros n ++ ds) fill, zeros_length n ds)

-- the parts of a number, put one after another
parts_put : (m1 m2 m3 m4 head ds : List ℕ) (fill least : ℕ) (side : ℕ × ℕ) → m1 ≡ spaces side.0 → m2 ≡ m1 ++ head → m3 ≡ m2 ++ (zeros (fill + least) ++ ds) → m4 ≡ m3 ++ spaces side.1 → m4 ≡ between side (head ++ (zeros fill ++ (zeros least ++ ds)))
parts_put m1 m2 m3 m4 head ds fill least side a b c d =
    d ∙ ap (λ (m : List ℕ). m ++ spaces side.1) (c ∙ ap (λ (m : List ℕ). m ++ (zeros (fill + least) ++ ds)) (b ∙ ap (λ (m : List ℕ). m ++ head) a) ∙ append_assoc (spaces side.0) head (zeros (fill + least) ++ ds) ∙ ap (λ (z : List ℕ). spaces side.0 ++ (head ++ z)) (zeros_joined fill least ds))
    ∙ append_assoc (spaces side.0) (head ++ (zeros fill ++ (zeros least ++ ds))) (spaces side.1)

-- a number after its sign and prefix
pub number_written : (s : CFormatSpec) (sign prefix ds m1 m2 m3 m4 : List ℕ) (width p least one two three short fill : ℕ) (side : ℕ × ℕ) → width ≡ width_in s.min_field_width → p ≡ least_digits (precision_in s.precision) → least ≡ p - length ds → one ≡ width - length sign → two ≡ one - length prefix → three ≡ two - least → short ≡ three - length ds → fill ≡ zero_fill s.flags short → fill ≤ short → side ≡ sides s.flags (short - fill) → m1 ≡ spaces side.0 → m2 ≡ m1 ++ (sign ++ prefix) → m3 ≡ m2 ++ (zeros (fill + least) ++ ds) → m4 ≡ m3 ++ spaces side.1 → m4 ≡ number_after s (sign ++ prefix) ds
number_written s sign prefix ds m1 m2 m3 m4 width p least one two three short fill side w pe le o t th sh fe few se a b c d =
    let n = least_digits (precision_in s.precision) - length ds in
    let head = sign ++ prefix in
    let same : least ≡ n = le ∙ ap (λ (q : ℕ). q - length ds) pe in
    let is : short ≡ short_of s (length (head ++ (zeros n ++ ds))) = omega (arith, w, o, t, th, sh, same, head_length sign prefix ds n) in
    let fills : fill ≡ zero_fill s.flags (short_of s (length (head ++ (zeros n ++ ds)))) = fe ∙ ap (zero_fill s.flags) is in
    let after : short - fill ≡ short_of s (length (head ++ (zeros fill ++ (zeros n ++ ds)))) = omega (arith, w, o, t, th, sh, same, few, body_length sign prefix ds fill n) in
    parts_put m1 m2 m3 m4 head ds fill least side a b c d
    ∙ ap (λ (k : ℕ). between side (head ++ (zeros fill ++ (zeros k ++ ds)))) same
    ∙ ap (λ (q : ℕ × ℕ). between q (head ++ (zeros fill ++ (zeros n ++ ds)))) (se ∙ ap (sides s.flags) after)
    ∙ ap (λ (f : ℕ). filled s (head ++ (zeros f ++ (zeros n ++ ds)))) fills

-- what is written of a number is ASCII
sign_ascii : (flags : CConversionFlags) (negative : Bool) → all_ascii (sign_text flags negative) ≡ true
sign_ascii flags true = refl
sign_ascii flags false = by_tests (has sign_char flags) (has blank_sign flags) where
  by_tests : (a b : Bool) → all_ascii (if a then 43 ∷ [] else if b then 32 ∷ [] else []) ≡ true
  by_tests true b = refl
  by_tests false true = refl
  by_tests false false = refl

prefix_ascii : (flags : CConversionFlags) (kind : CNumberType) → all_ascii (prefix_text flags kind) ≡ true
prefix_ascii flags kind = by_test (has alternate_form flags) kind where
  by_test : (b : Bool) (kind : CNumberType) → all_ascii (if b then prefix_of kind else []) ≡ true
  by_test false kind = refl
  by_test true Decimal = refl
  by_test true Octal = refl
  by_test true Hex = refl
  by_test true HexUpper = refl

between_ascii : (side : ℕ × ℕ) (units : List ℕ) → all_ascii units ≡ true → all_ascii (between side units) ≡ true
between_ascii side units h = ascii_append (spaces side.0) (units ++ spaces side.1) (spaces_ascii side.0) (ascii_append units (spaces side.1) h (spaces_ascii side.1))

after_ascii : (s : CFormatSpec) (head ds : List ℕ) → all_ascii head ≡ true → all_ascii ds ≡ true → all_ascii (number_after s head ds) ≡ true
after_ascii s head ds h d =
    let n = least_digits (precision_in s.precision) in
    let more = at_least n ds in
    let fill = zero_fill s.flags (short_of s (length (head ++ more))) in
    let long : all_ascii more ≡ true = ascii_append (zeros (n - length ds)) ds (zeros_ascii (n - length ds)) d in
    between_ascii (sides s.flags (short_of s (length (zero_filled s head more)))) (zero_filled s head more)
    (ascii_append head (zeros fill ++ more) h (ascii_append (zeros fill) more (zeros_ascii fill) long))

pub number_ascii : (s : CFormatSpec) (z : ℤ) → all_ascii (number_text s z) ≡ true
number_ascii s z =
    let kind = kind_of s.format_type in
    after_ascii s (sign_text s.flags (is_negative z) ++ prefix_text s.flags kind) (digits_of kind (unsigned_abs z)) (ascii_append (sign_text s.flags (is_negative z)) (prefix_text s.flags kind) (sign_ascii s.flags (is_negative z)) (prefix_ascii s.flags kind)) (digits_ascii kind (unsigned_abs z))

pub bytes_ascii : (s : CFormatSpec) (z : ℤ) (made : List ℕ) → made ≡ number_text s z → all_ascii made ≡ true
bytes_ascii s z made e = ap all_ascii e ∙ number_ascii s z
