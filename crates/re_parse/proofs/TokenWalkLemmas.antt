-- Going over the tokens of a pattern, one after another.
use Rattle.std.proofs.Common.{◌≡◌, refl, sym, ◌∙◌, ap, ℕ, zero, suc, ◌+◌, ◌-◌, ◌≤◌, ◌<◌, List, [], ◌∷◌, length, length-append, arith}
use Rattle.std.specs.Prelude.{Option, Some, None}
use Rattle.re_tree.specs.Tokens.{Token}
use Rattle.re_tree.specs.Grammar.{Flags}
use Rattle.re_tree.specs.Reading.{Found, Lexed, lexed, at_end, no_token, lexed_as, next_token, first_token, put_token, token_then, all_tokens}
use denote.Bor.{Bor}
use Rattle.re_parse.specs.declared.token.Lexed.{Lexed as LexedInMemory}
use Rattle.re_parse.specs.declared.token.Lexed.TheVariants.{Token as TokenNext, End, NoToken}
use Rattle.re_parse.specs.declared.token.Token.{Token as TokenInMemory}
use Rattle.re_parse.specs.TokenView.{lexed_of}
use Rattle.re_parse.specs.Walk.{last_state, after_tokens}
use Rattle.re_tree.proofs.TokenWrittenLemmas.{Written, token_written}
use Rattle.re_tree.proofs.TextLemmas.{token_long, step_at}

nothing_after : {S : Type 0} (step : S → Token → Option S) (ts : List Token) → last_state step None ts ≡ None
nothing_after step [] = refl
nothing_after step (t ∷ ts) = nothing_after step ts

-- what is wanted is what this state with the rest gives, for a number of tokens that is enough
pub record Going {S : Type 0} (step : S → Token → Option S) (flags : Flags) (text rest : List ℕ) (s : S) (want : Option S) : Type 0 where
  pub within : length rest ≤ length text
  pub count : ℕ
  pub enough : length rest ≤ count
  pub same : want ≡ after_tokens step s (all_tokens flags (length text) count rest)

pub begins : {S : Type 0} (step : S → Token → Option S) (flags : Flags) (text : List ℕ) (s : S)
    → Going step flags text text s (after_tokens step s (all_tokens flags (length text) (length text) text))
begins step flags text s = record { within = omega arith; count = length text; enough = omega arith; same = refl }

-- what is next in characters that are there
abbrev pub token_in : Lexed → Found
token_in (lexed t rest) = Some (t, rest)
token_in at_end = None
token_in no_token = None

pub no_token_in : (next : LexedInMemory) → ((t : TokenInMemory) (rest : Bor (List ℕ)) → next ≡ TokenNext t rest → ⊥) → token_in (lexed_of next) ≡ None
no_token_in (TokenNext t rest) h = absurd (h t rest refl)
no_token_in End h = refl
no_token_in NoToken h = refl

token_in_as : (o : Found) → token_in (lexed_as o) ≡ o
token_in_as None = refl
token_in_as (Some x) = refl

pub first_token_is : (flags : Flags) (p : ℕ) (text : List ℕ) → 1 ≤ length text → token_in (next_token flags p text) ≡ first_token flags p text
first_token_is flags p [] h = absurd (omega (arith, h))
first_token_is flags p (c ∷ cs) h = token_in_as (first_token flags p (c ∷ cs))

with_none : {S : Type 0} (step : S → Token → Option S) (s : S) (t : Token) (o : Option (List Token)) → step s t ≡ None → after_tokens step s (put_token t o) ≡ None
with_none step s t None e = refl
with_none step s t (Some ts) e = ap (λ z. last_state step z ts) e ∙ nothing_after step ts

with_some : {S : Type 0} (step : S → Token → Option S) (s n : S) (t : Token) (o : Option (List Token)) → step s t ≡ Some n → after_tokens step s (put_token t o) ≡ after_tokens step n o
with_some step s n t None e = refl
with_some step s n t (Some ts) e = ap (λ z. last_state step z ts) e

-- the pattern has one token more
one_more : {S : Type 0} (step : S → Token → Option S) (flags : Flags) (text rest : List ℕ) (s : S) (want : Option S) (t : Token) (behind : List ℕ) → 1 ≤ length rest → Going step flags text rest s want
    → first_token flags (length text - length rest) rest ≡ Some (t, behind)
    → (k : ℕ) × (length behind ≤ k) × (length behind < length rest) × (want ≡ after_tokens step s (put_token t (all_tokens flags (length text) k behind)))
one_more step flags text rest s want t behind some g e = at g.count g.enough g.same
  where
    at : (n : ℕ) → length rest ≤ n → want ≡ after_tokens step s (all_tokens flags (length text) n rest)
        → (k : ℕ) × (length behind ≤ k) × (length behind < length rest) × (want ≡ after_tokens step s (put_token t (all_tokens flags (length text) k behind)))
    at zero le same = absurd (omega (arith, le, some))
    at (suc n) le same =
        let h : Written flags (length text - length rest) rest t behind = token_written flags (length text - length rest) rest t behind e in
        let long : 1 ≤ length h.written = token_long flags t (length text - length rest) h.written behind h.token in
        let l : length rest ≡ length h.written + length behind = ap length h.is ∙ length-append h.written behind in (
          n,
          omega (arith, le, long, l),
          omega (arith, long, l),
          same ∙ ap (after_tokens step s) (step_at flags (length text) n (length text - length rest) rest t behind some (omega (arith, g.within)) e),
        )

pub goes_on : {S : Type 0} (step : S → Token → Option S) (flags : Flags) (text rest : List ℕ) (s n : S) (want : Option S) (t : Token) (behind : List ℕ) → 1 ≤ length rest → Going step flags text rest s want
    → lexed t behind ≡ next_token flags (length text - length rest) rest → step s t ≡ Some n → Going step flags text behind n want × (length behind < length rest)
goes_on step flags text rest s n want t behind some g e f =
    let p : ℕ = length text - length rest in
    let m = one_more step flags text rest s want t behind some g (sym (ap token_in e ∙ first_token_is flags p rest some)) in
    (record { within = omega (arith, m.2, g.within); count = m.0; enough = m.1; same = m.3 ∙ with_some step s n t (all_tokens flags (length text) m.0 behind) f }, m.2)

pub stops_at : {S : Type 0} (step : S → Token → Option S) (flags : Flags) (text rest : List ℕ) (s : S) (want : Option S) (t : Token) (behind : List ℕ) → 1 ≤ length rest → Going step flags text rest s want
    → lexed t behind ≡ next_token flags (length text - length rest) rest → step s t ≡ None → None ≡ want
stops_at step flags text rest s want t behind some g e f =
    let p : ℕ = length text - length rest in
    let m = one_more step flags text rest s want t behind some g (sym (ap token_in e ∙ first_token_is flags p rest some)) in
    sym (m.3 ∙ with_none step s t (all_tokens flags (length text) m.0 behind) f)

no_more : (flags : Flags) (whole n : ℕ) (rest : List ℕ) → 1 ≤ length rest → length rest ≤ n → first_token flags (whole - length rest) rest ≡ None → all_tokens flags whole n rest ≡ None
no_more flags whole n [] some le e = absurd (omega (arith, some))
no_more flags whole zero (c ∷ cs) some le e = refl
no_more flags whole (suc n) (c ∷ cs) some le e = ap (λ o. token_then o (all_tokens flags whole n)) e

-- no token begins with what is left
pub stops_before : {S : Type 0} (step : S → Token → Option S) (flags : Flags) (text rest : List ℕ) (s : S) (want : Option S) (next : Lexed) → 1 ≤ length rest → Going step flags text rest s want
    → next ≡ next_token flags (length text - length rest) rest → token_in next ≡ None → None ≡ want
stops_before step flags text rest s want next some g e f =
    let p : ℕ = length text - length rest in
    let none : first_token flags p rest ≡ None = sym (first_token_is flags p rest some) ∙ ap token_in (sym e) ∙ f in
    sym (g.same ∙ ap (after_tokens step s) (no_more flags (length text) g.count rest some g.enough none))

at_its_end : (flags : Flags) (whole n : ℕ) → all_tokens flags whole n [] ≡ Some []
at_its_end flags whole zero = refl
at_its_end flags whole (suc n) = refl

pub ends : {S : Type 0} (step : S → Token → Option S) (flags : Flags) (text rest : List ℕ) (s : S) (want : Option S) → length rest ≡ 0 → Going step flags text rest s want → after_tokens step s (Some []) ≡ want
ends step flags text [] s want e g = sym (g.same ∙ ap (after_tokens step s) (at_its_end flags (length text) g.count))
ends step flags text (c ∷ cs) s want e g = absurd (omega (arith, e))
