-- The parts of a template of bytes, from those of the text whose code points are the bytes.
use Rattle.std.proofs.Common.{◌≡◌, ◌∙◌, ℕ, zero, suc, ◌+◌, ◌<◌, true, List, [], ◌∷◌, ◌++◌, length, take, get_or, sym, ap, refl, arith, chars, encode_utf8, nat_lt}
use Rattle.std.specs.Prelude.{Ok, Err}
use Rattle.std.proofs.lemmas.List.{take_more}
use Rattle.std.proofs.lemmas.Str.{chars_past_char}
use Rattle.std.specs.Char.{IsScalar}
use Rattle.std.specs.Str.{IsUtf8}
use Rattle.std.proofs.lemmas.Bool.{and_parts}
use Rattle.std.proofs.lemmas.Bool.Decides.{nat_tests}
use Rattle.py_base.specs.declared.error.PyError.{PyError}
use Rattle.py_text.proofs.StrideLemmas.{pushed}
use Rattle.py_spec.specs.declared.percent.parts.CFormatPart.{CFormatPart}
use Rattle.py_spec.specs.Percent.ByteParts.{all_bytes, are_byte_parts, as_bytes, byte_parts, is_byte_part, part_bytes, parts_bytes}
use Rattle.py_spec.specs.Percent.Template.{Parts, percent_parts, read_parts}
use Rattle.py_spec.proofs.PartLemmas.{of_parts}
use Rattle.py_spec.proofs.NarrowLemmas.{Narrow, all_parts, cons_narrow, head_narrow, tail_narrow}

-- the fault of the text is that of the bytes
pub bytes_fault : (text bytes : List ℕ) (e : PyError) → text ≡ bytes → percent_parts text ≡ Err e → byte_parts bytes ≡ Err e
bytes_fault text bytes e t f = sym (ap byte_parts t) ∙ ap as_bytes f

-- and its parts, as bytes, are theirs
pub bytes_read : (text bytes : List ℕ) (ps made : Parts) → text ≡ bytes → Ok ps ≡ percent_parts text → made ≡ parts_bytes ps → Ok made ≡ byte_parts bytes
bytes_read text bytes ps made t e m = ap Ok m ∙ ap as_bytes e ∙ ap byte_parts t

pub bytes_narrow : (text : List ℕ) (ps : Parts) → Narrow text → Ok ps ≡ percent_parts text → are_byte_parts ps ≡ true
bytes_narrow text ps n e = of_parts (λ qs. are_byte_parts qs ≡ true) (read_parts (suc (length text)) (length text) text) ps (all_parts (suc (length text)) (length text) text n) (sym e)

-- the part at a place
pub part_narrow : (ps : Parts) (i : ℕ) (p : ℕ × CFormatPart) → i < length ps → are_byte_parts ps ≡ true → is_byte_part (get_or ps i p).1 ≡ true
part_narrow [] i p h n = absurd (omega (arith, h))
part_narrow (q ∷ ps) zero p h n = (and_parts (is_byte_part q.1) (are_byte_parts ps) n).0
part_narrow (q ∷ ps) (suc i) p h n = part_narrow ps i p (omega (arith, h)) (and_parts (is_byte_part q.1) (are_byte_parts ps) n).1

-- one part more
parts_joined : (ps qs : Parts) → parts_bytes (ps ++ qs) ≡ parts_bytes ps ++ parts_bytes qs
parts_joined [] qs = refl
parts_joined (p ∷ ps) qs = ap (λ (l : Parts). (p.0, part_bytes p.1) ∷ l) (parts_joined ps qs)

pub part_put : (ps old new : Parts) (i : ℕ) (p : ℕ × CFormatPart) → take (i + 1) ps ≡ take i ps ++ p ∷ [] → old ≡ parts_bytes (take i ps) → new ≡ old ++ (p.0, part_bytes p.1) ∷ [] → new ≡ parts_bytes (take (i + 1) ps)
part_put ps old new i p t o n =
    n ∙ ap (λ (l : Parts). l ++ (p.0, part_bytes p.1) ∷ []) o ∙ sym (ap parts_bytes t ∙ parts_joined (take i ps) (p ∷ []))

-- a code point of a text of bytes
pub char_narrow : (bs rest : List ℕ) (c : ℕ) → IsUtf8 bs → bs ≡ encode_utf8 c ++ rest → Narrow (chars bs) → (nat_lt c 256 ≡ true) × Narrow (chars rest)
char_narrow bs rest c u e n =
    let whole : Narrow (c ∷ chars rest) = sym (ap all_bytes (chars_past_char bs rest c u e)) ∙ n in
    (head_narrow c (chars rest) whole, tail_narrow c (chars rest) whole)

pub byte_within : (c : ℕ) → nat_lt c 256 ≡ true → c < 256
byte_within c h = grind (arith, nat_tests)

byte_below : (c : ℕ) → c < 256 → nat_lt c 256 ≡ true
byte_below c h = grind (arith, nat_tests)

byte_scalar : (c : ℕ) → c < 256 → IsScalar c
byte_scalar c h = grind (arith, nat_tests)

bytes_joined : (bs : List ℕ) (c : ℕ) → Narrow bs → nat_lt c 256 ≡ true → Narrow (bs ++ c ∷ [])
bytes_joined [] c n h = cons_narrow c [] h refl
bytes_joined (b ∷ bs) c n h = cons_narrow b (bs ++ c ∷ []) (head_narrow b bs n) (bytes_joined bs c (tail_narrow b bs n) h)

-- one byte more, as a code point of a text
pub byte_taken : (old new bytes : List ℕ) (i c : ℕ) → i < length bytes → c ≡ get_or bytes i 0 → get_or bytes i 0 < 256 → IsUtf8 old → new ≡ old ++ encode_utf8 c → chars old ≡ take i bytes → chars new ≡ take (i + 1) bytes
byte_taken old new bytes i c h is small u e s =
    pushed old new c (byte_scalar c (omega (arith, is, small))) u e
    ∙ ap (λ (xs : List ℕ). xs ++ c ∷ []) s ∙ ap (λ (x : ℕ). take i bytes ++ x ∷ []) is ∙ sym (take_more bytes i 0 h)

pub narrow_taken : (bytes : List ℕ) (i : ℕ) → i < length bytes → get_or bytes i 0 < 256 → Narrow (take i bytes) → Narrow (take (i + 1) bytes)
narrow_taken bytes i h small n = ap all_bytes (take_more bytes i 0 h) ∙ bytes_joined (take i bytes) (get_or bytes i 0) n (byte_below (get_or bytes i 0) small)

-- how a template of bytes is read
pub ruleset bytes_parse = (bytes_fault, bytes_read, bytes_narrow)
