-- A whole text is read as the tree that the grammar gives it, and as no other.
use Rattle.std.proofs.Common.{◌≡◌, refl, sym, ◌∙◌, ap, subst, ℕ, zero, suc, ◌+◌, ◌-◌, ◌≤◌, Bool, true, false, List, [], ◌∷◌, ◌++◌, length, length-append, arith}
use Rattle.std.specs.Prelude.{Option, Some, None, codes}
use Rattle.re_tree.specs.declared.tree.CountMode.{CountMode}
use Rattle.re_tree.specs.PlainText.{PlainTest, dot, dot_all, literal, set, GroupName, numbered, named, PlainText}
use Rattle.re_tree.specs.Tokens.{Opening, capturing, non_capturing, atomic_opening, look_opening, conditional_opening, Token, unit_token, anchor_token, reference_token, count_token, open_token, bar, close, tokens_of}
use Rattle.re_tree.specs.Grammar.{Flags, WritesBounds, by_sign, exactly, between, WritesCharacter, itself, brace, escaped_itself, escaped_letter, hexadecimal, WritesNumber, one, two, WritesOpening, WritesAnchor, line_anchor, letter_anchor, WritesSet, alone, in_brackets, IsToken, AreTokens, ReadsAs}
use Rattle.re_tree.specs.Reading.{Found, first_token, put_token, token_then, all_tokens}
use Rattle.re_tree.specs.Machine.{tree_of_tokens, tree_of_all, read_tree}
use Rattle.re_tree.proofs.TokenReadLemmas.{token_read}
use Rattle.re_tree.proofs.TokenWrittenLemmas.{Written, token_written}
use Rattle.re_tree.proofs.ShiftLemmas.{reads_back}
use Rattle.re_tree.proofs.SpelledLemmas.{Answers, answers}

-- a token is written as at least one character
long : (written : List ℕ) (c : ℕ) (cs : List ℕ) → written ≡ c ∷ cs → 1 ≤ length written
long written c cs e = omega (arith, ap length e)

bounds_long : (least : ℕ) (most : Option ℕ) (written tail : List ℕ) → WritesBounds least most written → 1 ≤ length (written ++ tail)
bounds_long least most written tail (by_sign c f e) = omega (arith, length-append written tail, long written c [] e)
bounds_long least most written tail (exactly d ds h i j e) = omega (arith, length-append written tail, ap length e)
bounds_long least most written tail (between ds es h k i j e) = omega (arith, length-append written tail, ap length e)

opening_long : (opening : Opening) (written rest : List ℕ) → WritesOpening opening written rest → 1 ≤ length written
opening_long (capturing None) written rest h = omega (arith, ap length h.0)
opening_long (capturing (Some name)) written rest h = omega (arith, ap length h.1)
opening_long non_capturing written rest h = omega (arith, ap length h)
opening_long atomic_opening written rest h = omega (arith, ap length h)
opening_long (look_opening true false) written rest h = omega (arith, ap length h)
opening_long (look_opening false false) written rest h = omega (arith, ap length h)
opening_long (look_opening true true) written rest h = omega (arith, ap length h)
opening_long (look_opening false true) written rest h = omega (arith, ap length h)
opening_long (conditional_opening id) written rest h = omega (arith, ap length h.3)

character_long : (c : ℕ) (written rest : List ℕ) → WritesCharacter c written rest → 1 ≤ length written
character_long c written rest (itself n e) = omega (arith, ap length e)
character_long c written rest (brace i e h) = omega (arith, ap length e)
character_long c written rest (escaped_itself m e) = omega (arith, ap length e)
character_long c written rest (escaped_letter l f e) = omega (arith, ap length e)
character_long c written rest (hexadecimal l n ds f m v g e) = omega (arith, ap length e)

set_long : (flags : Flags) (negated : Bool) (items : _) (written rest : List ℕ) → WritesSet flags negated items written rest → 1 ≤ length written
set_long flags negated items written rest (alone l a b f n i e) = omega (arith, ap length e)
set_long flags negated items written rest (in_brackets body h g e) = omega (arith, ap length e)

anchor_long : (flags : Flags) (k : ℕ) (written : List ℕ) → WritesAnchor flags k written → 1 ≤ length written
anchor_long flags k written (line_anchor c a b f i e) = omega (arith, ap length e)
anchor_long flags k written (letter_anchor l a b f i e) = omega (arith, ap length e)

number_long : (n : ℕ) (written rest : List ℕ) → WritesNumber n written rest → 1 ≤ length written
number_long n written rest (one d h k i e) = omega (arith, ap length e)
number_long n written rest (two d f h k o i e) = omega (arith, ap length e)

pub token_long : (flags : Flags) (t : Token) (p : ℕ) (written rest : List ℕ) → IsToken flags t p written rest → 1 ≤ length written
token_long flags (unit_token dot) p written rest h = omega (arith, ap length h.1)
token_long flags (unit_token dot_all) p written rest h = omega (arith, ap length h.1)
token_long flags (unit_token (literal c)) p written rest h = character_long c written rest h
token_long flags (unit_token (set negated items)) p written rest h = set_long flags negated items written rest h
token_long flags (anchor_token k) p written rest h = anchor_long flags k written h
token_long flags (reference_token at (numbered n)) p written rest h = number_long n written rest h.1
token_long flags (reference_token at (named name)) p written rest h = omega (arith, ap length h.2)
token_long flags (count_token at least most mode) p written rest h =
    let k : 1 ≤ length (h.1 ++ h.2) = bounds_long least most h.1 h.2 h.3 in omega (arith, k, ap length h.5)
token_long flags (open_token at opening) p written rest h = opening_long opening written rest h.1
token_long flags bar p written rest h = omega (arith, ap length h)
token_long flags close p written rest h = omega (arith, ap length h)

-- one step of reading all tokens
pub step_at : (flags : Flags) (whole n p : ℕ) (text : List ℕ) (t : Token) (rest : List ℕ) → 1 ≤ length text → p + length text ≡ whole
    → first_token flags p text ≡ Some (t, rest) → all_tokens flags whole (suc n) text ≡ put_token t (all_tokens flags whole n rest)
step_at flags whole n p [] t rest h e f = let x : ⊥ = omega (arith, h) in absurd x
step_at flags whole n p (c ∷ cs) t rest h e f =
    let q : whole - length (c ∷ cs) ≡ p = omega (arith, e) in
    ap (λ o. token_then o (all_tokens flags whole n)) (ap (λ k. first_token flags k (c ∷ cs)) q ∙ f)

all_read : (ts : List Token) (flags : Flags) (whole n p : ℕ) (text : List ℕ) → AreTokens flags p ts text → p + length text ≡ whole → length text ≤ n → all_tokens flags whole n text ≡ Some ts
all_read [] flags whole n p text h e le = ap (all_tokens flags whole n) h
all_read (t ∷ ts) flags whole zero p text h e le =
    let k : 1 ≤ length h.0 = token_long flags t p h.0 h.1 h.3 in
    let x : ⊥ = omega (arith, k, ap length h.2, length-append h.0 h.1, le) in absurd x
all_read (t ∷ ts) flags whole (suc n) p text h e le =
    let k : 1 ≤ length h.0 = token_long flags t p h.0 h.1 h.3 in
    let s : length text ≡ length h.0 + length h.1 = ap length h.2 ∙ length-append h.0 h.1 in
    step_at flags whole n p text t h.1 (omega (arith, k, s)) e (ap (first_token flags p) h.2 ∙ token_read flags t p h.0 h.1 h.3)
    ∙ ap (put_token t) (all_read ts flags whole n (p + length h.0) h.1 h.4 (omega (arith, e, s)) (omega (arith, le, s, k)))

-- and what all tokens are
put_is : (t : Token) (o : Option (List Token)) (ts : List Token) → put_token t o ≡ Some ts → (us : List Token) × (o ≡ Some us) × (t ∷ us ≡ ts)
put_is t None ts e = let f : ⊥ = cc e in absurd f
put_is t (Some us) ts e = (us, refl, cc e)

then_written : (flags : Flags) (whole n p : ℕ) (c : ℕ) (cs : List ℕ) (ts : List Token) (o : Found) → p + length (c ∷ cs) ≡ whole
    → ((q : ℕ) (rest : List ℕ) (us : List Token) → q + length rest ≡ whole → all_tokens flags whole n rest ≡ Some us → AreTokens flags q us rest)
    → first_token flags p (c ∷ cs) ≡ o → token_then o (all_tokens flags whole n) ≡ Some ts → AreTokens flags p ts (c ∷ cs)
then_written flags whole n p c cs ts None e ih f g = let x : ⊥ = cc g in absurd x
then_written flags whole n p c cs ts (Some x) e ih f g =
    let k : Written flags p (c ∷ cs) x.0 x.1 = token_written flags p (c ∷ cs) x.0 x.1 f in
    let u = put_is x.0 (all_tokens flags whole n x.1) ts g in
    let s : length (c ∷ cs) ≡ length k.written + length x.1 = ap length k.is ∙ length-append k.written x.1 in
    subst (λ l. AreTokens flags p l (c ∷ cs)) u.2
    (k.written, x.1, k.is, k.token, ih (p + length k.written) x.1 u.0 (omega (arith, e, s)) u.1)

all_written : (n : ℕ) (flags : Flags) (whole p : ℕ) (text : List ℕ) (ts : List Token) → p + length text ≡ whole → all_tokens flags whole n text ≡ Some ts → AreTokens flags p ts text
all_written zero flags whole p [] ts e f = let i : [] ≡ ts = cc f in subst (λ l. AreTokens flags p l []) i refl
all_written zero flags whole p (c ∷ cs) ts e f = let x : ⊥ = cc f in absurd x
all_written (suc n) flags whole p [] ts e f = let i : [] ≡ ts = cc f in subst (λ l. AreTokens flags p l []) i refl
all_written (suc n) flags whole p (c ∷ cs) ts e f =
    let q : whole - length (c ∷ cs) ≡ p = omega (arith, e) in
    then_written flags whole n p c cs ts (first_token flags p (c ∷ cs)) e (λ r rest us. all_written n flags whole r rest us) refl
    (ap (λ k. token_then (first_token flags k (c ∷ cs)) (all_tokens flags whole n)) (sym q) ∙ f)

-- the grammar and the reader say the same
pub reads : (text : List ℕ) (flags : Flags) (r : PlainText) → ReadsAs text flags r → read_tree flags text ≡ Some r
reads text flags r h =
    ap tree_of_all (all_read (tokens_of r) flags (length text) (length text) 0 text h.tokens (omega arith) (omega arith)) ∙ reads_back r h.shape

from_tokens : (text : List ℕ) (flags : Flags) (r : PlainText) (o : Option (List Token)) → all_tokens flags (length text) (length text) text ≡ o → tree_of_all o ≡ Some r → ReadsAs text flags r
from_tokens text flags r None e f = let x : ⊥ = cc f in absurd x
from_tokens text flags r (Some ts) e f =
    let a : Answers ts r = answers ts r f in
    record { tokens = subst (λ l. AreTokens flags 0 l text) (sym a.tokens) (all_written (length text) flags (length text) 0 text ts (omega arith) e); shape = a.shape }

pub is_read : (text : List ℕ) (flags : Flags) (r : PlainText) → read_tree flags text ≡ Some r → ReadsAs text flags r
is_read text flags r e = from_tokens text flags r (all_tokens flags (length text) (length text) text) refl e

pub one_text : (text : List ℕ) (flags : Flags) (r q : PlainText) → ReadsAs text flags r → ReadsAs text flags q → r ≡ q
one_text text flags r q h k = let f : Some r ≡ Some q = sym (reads text flags r h) ∙ reads text flags q k in cc f
