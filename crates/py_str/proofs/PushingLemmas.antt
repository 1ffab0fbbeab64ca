-- Code points put one after another.
use Rattle.std.proofs.Common.{◌≡◌, ◌∙◌, ◌+◌, ◌*◌, ◌<◌, ◌≤◌, ℕ, zero, suc, Bool, true, ◌&&◌, nat_lt, List, [], ◌∷◌, ◌++◌, take, length, refl, sym, ap, append_assoc, arith, chars, IsCharBoundary}
use Rattle.std.proofs.lemmas.Bool.Decides.{nat_tests}
use Rattle.py_text.proofs.AsciiLemmas.{ascii_append, ascii_bytes, ascii_take}
use Rattle.py_text.proofs.CursorLemmas.{ascii_boundary}
use Rattle.py_text.specs.Text.{all_ascii}
use Rattle.py_text.proofs.SumLemmas.{copies_more}
use Rattle.py_text.specs.Sums.{copies}
use Rattle.py_str.specs.Pad.{run}

-- two parts, one after the other
pub two_pushed : (old a b mid new : List ℕ) → mid ≡ old ++ a → new ≡ mid ++ b → new ≡ old ++ (a ++ b)
two_pushed old a b mid new e f = f ∙ ap (λ (l : List ℕ). l ++ b) e ∙ append_assoc old a b

-- one more of a run
pub run_more : (old mid new : List ℕ) (n c : ℕ) → mid ≡ old ++ run n c → new ≡ mid ++ c ∷ [] → new ≡ old ++ run (n + 1) c
run_more old mid new n c e f = two_pushed old (run n c) (c ∷ []) mid new e f ∙ ap (λ (l : List ℕ). old ++ l) (copies_more n (c ∷ []))

-- two characters, by what they are
pub digits_pushed : (old mid new : List ℕ) (d e d' e' : ℕ) → mid ≡ old ++ d ∷ [] → new ≡ mid ++ e ∷ [] → d ≡ d' → e ≡ e' → new ≡ old ++ d' ∷ e' ∷ []
digits_pushed old mid new d e d' e' m n p q = two_pushed old (d ∷ []) (e ∷ []) mid new m n ∙ ap (λ (x : ℕ). old ++ x ∷ e ∷ []) p ∙ ap (λ (x : ℕ). old ++ d' ∷ x ∷ []) q

-- a text that was empty, and then had x put at its end
pub made_is : (start new x y made : List ℕ) → start ≡ [] → new ≡ start ++ x → x ≡ y → made ≡ new → made ≡ y
made_is start new x y made s n e m = m ∙ n ∙ ap (λ (l : List ℕ). l ++ x) s ∙ e

pub padded_is : (start one two three made L text r1 r2 : List ℕ) → start ≡ [] → one ≡ start ++ r1 → two ≡ one ++ L → three ≡ two ++ r2 → L ≡ text → made ≡ three → made ≡ r1 ++ (text ++ r2)
padded_is start one two three made L text r1 r2 s o w h l m =
    m ∙ h ∙ ap (λ (x : List ℕ). x ++ r2) (w ∙ ap (λ (x : List ℕ). x ++ L) (o ∙ ap (λ (x : List ℕ). x ++ r1) s)) ∙ append_assoc r1 L r2 ∙ ap (λ (x : List ℕ). r1 ++ (x ++ r2)) l

-- one more copy of a text
pub copy_more : (old mid new L : List ℕ) (n : ℕ) → mid ≡ old ++ copies n L → new ≡ mid ++ L → new ≡ old ++ copies (n + 1) L
copy_more old mid new L n e f = two_pushed old (copies n L) L mid new e f ∙ ap (λ (l : List ℕ). old ++ l) (copies_more n L)

-- two runs are one
run_add : (a b c : ℕ) → run a c ++ run b c ≡ run (a + b) c
run_add zero b c = ap (λ (n : ℕ). run n c) {x = b} {y = zero + b} (omega arith)
run_add (suc a) b c = ap (λ (l : List ℕ). c ∷ l) (run_add a b c) ∙ ap (λ (n : ℕ). run n c) {x = suc (a + b)} {y = suc a + b} (omega arith)

-- so many blocks are a run
blocks_run : (q c : ℕ) → copies q (run 64 c) ≡ run (q * 64) c
blocks_run zero c = ap (λ (n : ℕ). run n c) {x = zero} {y = zero * 64} (omega arith)
blocks_run (suc q) c = ap (λ (l : List ℕ). run 64 c ++ l) (blocks_run q c) ∙ run_add 64 (q * 64) c ∙ ap (λ (n : ℕ). run n c) {x = 64 + q * 64} {y = suc q * 64} (omega arith)

-- blocks, and what is left of the run
pub blocks_pushed : (old mid new block : List ℕ) (c q r count : ℕ) → block ≡ run 64 c → mid ≡ old ++ copies q block → new ≡ mid ++ run r c → q * 64 + r ≡ count → new ≡ old ++ run count c
blocks_pushed old mid new block c q r count b m n s =
    two_pushed old (copies q block) (run r c) mid new m n
    ∙ ap (λ (l : List ℕ). old ++ (copies q l ++ run r c)) b
    ∙ ap (λ (l : List ℕ). old ++ (l ++ run r c)) (blocks_run q c)
    ∙ ap (λ (l : List ℕ). old ++ l) (run_add (q * 64) r c)
    ∙ ap (λ (k : ℕ). old ++ run k c) s

-- runs of ASCII
below_ascii : (c : ℕ) → c < 128 → nat_lt c 128 ≡ true
below_ascii c h = grind (arith, nat_tests)

pub run_ascii : (n c : ℕ) → c < 128 → all_ascii (run n c) ≡ true
run_ascii zero c h = refl
run_ascii (suc n) c h = ap (λ (b : Bool). b && all_ascii (run n c)) (below_ascii c h) ∙ run_ascii n c h

pub block_ascii : (block : List ℕ) (c : ℕ) → block ≡ run 64 c → c < 128 → all_ascii block ≡ true
block_ascii block c e h = ap all_ascii e ∙ run_ascii 64 c h

pub run_size : (n c : ℕ) → length (run n c) ≡ n
run_size zero c = refl
run_size (suc n) c = omega (arith, run_size n c)

run_taken : (n k c : ℕ) → k ≤ n → take k (run n c) ≡ run k c
run_taken n zero c h = refl
run_taken zero (suc k) c h = absurd (omega arith)
run_taken (suc n) (suc k) c h = ap (λ (l : List ℕ). c ∷ l) (run_taken n k c (omega arith))

-- a part of a block
pub part_is : (block : List ℕ) (k c : ℕ) → block ≡ run 64 c → k ≤ 64 → take k block ≡ run k c
part_is block k c e h = ap (take k) e ∙ run_taken 64 k c h

pub part_ascii : (block : List ℕ) (k c : ℕ) → block ≡ run 64 c → c < 128 → k ≤ 64 → all_ascii (take k block) ≡ true
part_ascii block k c e h l = ap all_ascii (part_is block k c e l) ∙ run_ascii k c h

pub part_ends : (block : List ℕ) (k c : ℕ) → block ≡ run 64 c → c < 128 → k ≤ 64 → IsCharBoundary block k
part_ends block k c e h l = ascii_boundary block (run 64 c) k (e ∙ sym (ascii_bytes (run 64 c) (run_ascii 64 c h))) (run_ascii 64 c h) (omega (arith, run_size 64 c))
