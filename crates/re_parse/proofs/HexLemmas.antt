-- A number past all characters stays past them, however many digits follow.
use Rattle.std.proofs.Common.{◌≡◌, refl, ◌∙◌, ap, ℕ, zero, suc, ◌+◌, ◌-◌, ◌*◌, ◌<◌, Bool, true, false, List, [], ◌∷◌, arith}
use Rattle.std.specs.Prelude.{Option, Some, None, cond, ◌&&◌, ◌||◌, nat_lt}
use Rattle.std.proofs.lemmas.Bool.{le-ltb}
use Rattle.re_tree.specs.Characters.{hex_digit, with_digit, is_character, read_hex}

and_no : (a b : Bool) → b ≡ false → (a && b) ≡ false
and_no true b e = e
and_no false b e = refl

or_no : (a b : Bool) → a ≡ false → b ≡ false → (a || b) ≡ false
or_no true b e f = e
or_no false b e f = f

not_character : (n : ℕ) → 1114111 < n → is_character n ≡ false
not_character n h = or_no (nat_lt n 55296) (nat_lt 57343 n && nat_lt n 1114112) (le-ltb n 55296 (omega (arith, h))) (and_no (nat_lt 57343 n) (nat_lt n 1114112) (le-ltb n 1114112 (omega (arith, h))))

no_digit : (o : Option ℕ) (n : ℕ) (f : ℕ → Option (ℕ × List ℕ)) → ((d : ℕ) → f (16 * n + d) ≡ None) → with_digit o n f ≡ None
no_digit None n f h = refl
no_digit (Some d) n f h = h d

pub past_characters : (k n : ℕ) (text : List ℕ) → 1114111 < n → read_hex k n text ≡ None
past_characters zero n text h = ap (λ b. cond b (Some (n, text)) None) (not_character n h)
past_characters (suc k) n [] h = refl
past_characters (suc k) n (c ∷ cs) h = no_digit (hex_digit c) n (λ m. read_hex k m cs) (λ d. past_characters k (16 * n + d) cs (omega (arith, h)))

-- one digit more
pub one_digit : (count number c d : ℕ) (rest : List ℕ) → (count ≡ 0 → ⊥) → Some d ≡ hex_digit c
    → read_hex (count - 1) (16 * number + d) rest ≡ read_hex count number (c ∷ rest)
one_digit zero number c d rest some e = absurd (some refl)
one_digit (suc count) number c d rest some e =
    ap (λ n. read_hex n (16 * number + d) rest) (omega arith) ∙ ap (λ o. with_digit o number (λ m. read_hex count m rest)) e
