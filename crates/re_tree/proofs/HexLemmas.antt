-- Hexadecimal digits are read as the character that they write.
use Rattle.std.proofs.Common.{◌≡◌, refl, sym, ◌∙◌, ap, subst, ℕ, zero, suc, ◌+◌, ◌*◌, Bool, true, false, List, [], ◌∷◌, ◌++◌, length, arith}
use Rattle.std.specs.Prelude.{Option, Some, None, cond}
use Rattle.re_tree.specs.Characters.{hex_digit, with_digit, hex_from, is_character, read_hex}
use Rattle.re_tree.proofs.BoundLemmas.{cond_true}

digit_read : {X Y : Type 0} (o : Option ℕ) (n : ℕ) (f : ℕ → Option X) (g : ℕ → Option Y) (x : X) (y : Y) → ((m : ℕ) → f m ≡ Some x → g m ≡ Some y) → with_digit o n f ≡ Some x → with_digit o n g ≡ Some y
digit_read None n f g x y h e = let k : ⊥ = cc e in absurd k
digit_read (Some d) n f g x y h e = h (16 * n + d) e

pub hex_read : (ds : List ℕ) (k n c : ℕ) (rest : List ℕ) → length ds ≡ k → hex_from n ds ≡ Some c → is_character c ≡ true → read_hex k n (ds ++ rest) ≡ Some (c, rest)
hex_read [] zero n c rest l e h =
    let i : n ≡ c = cc e in
    ap (λ m. read_hex 0 m rest) i ∙ cond_true (is_character c) (Some (c, rest)) None h
hex_read [] (suc k) n c rest l e h = absurd (omega (arith, l))
hex_read (d ∷ ds) zero n c rest l e h = absurd (omega (arith, l))
hex_read (d ∷ ds) (suc k) n c rest l e h =
    digit_read (hex_digit d) n (λ m. hex_from m ds) (λ m. read_hex k m (ds ++ rest)) c (c, rest) (λ m g. hex_read ds k m c rest (omega (arith, l)) g h) e

pub record HexWritten (k n : ℕ) (text : List ℕ) (c : ℕ) (rest : List ℕ) : Type 0 where
  pub digits : List ℕ
  pub is : text ≡ digits ++ rest
  pub count : length digits ≡ k
  pub writes : hex_from n digits ≡ Some c
  pub good : is_character c ≡ true

abbrev pair_of : Option (ℕ × List ℕ) → ℕ × List ℕ
pair_of None = (0, [])
pair_of (Some x) = x

last_digit : (n : ℕ) (cs : List ℕ) (c : ℕ) (rest : List ℕ) (b : Bool) → is_character n ≡ b → cond {A = Option (ℕ × List ℕ)} b (Some (n, cs)) None ≡ Some (c, rest) → HexWritten 0 n cs c rest
last_digit n cs c rest true h e = subst (λ (y : ℕ × List ℕ). HexWritten 0 n cs y.0 y.1) (ap pair_of e) (record { digits = []; is = refl; count = refl; writes = refl; good = h })
last_digit n cs c rest false h e = let k : ⊥ = cc e in absurd k

digit_written : (k n d : ℕ) (cs : List ℕ) (c : ℕ) (rest : List ℕ) (o : Option ℕ) → hex_digit d ≡ o → ((m : ℕ) → read_hex k m cs ≡ Some (c, rest) → HexWritten k m cs c rest)
    → with_digit o n (λ m. read_hex k m cs) ≡ Some (c, rest) → HexWritten (suc k) n (d ∷ cs) c rest
digit_written k n d cs c rest None h ih e = let f : ⊥ = cc e in absurd f
digit_written k n d cs c rest (Some v) h ih e =
    let s : HexWritten k (16 * n + v) cs c rest = ih (16 * n + v) e in
    record {
      digits = d ∷ s.digits;
      is = ap (λ l. d ∷ l) s.is;
      count = omega (arith, s.count);
      writes = ap (λ o. with_digit o n (λ m. hex_from m s.digits)) h ∙ s.writes;
      good = s.good;
    }

pub hex_written : (k n : ℕ) (text : List ℕ) (c : ℕ) (rest : List ℕ) → read_hex k n text ≡ Some (c, rest) → HexWritten k n text c rest
hex_written zero n cs c rest e = last_digit n cs c rest (is_character n) refl e
hex_written (suc k) n [] c rest e = let f : ⊥ = cc e in absurd f
hex_written (suc k) n (d ∷ cs) c rest e = digit_written k n d cs c rest (hex_digit d) refl (λ m. hex_written k m cs c rest) e
