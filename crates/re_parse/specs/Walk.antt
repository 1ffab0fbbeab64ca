-- Going over the tokens of a pattern: from a state to the next, as long as there is one.
use Rattle.std.specs.Prelude.{List, [], ◌∷◌, Option, Some, None}
use Rattle.re_tree.specs.Tokens.{Token}

-- the state after a token, where there is one before it
abbrev pub next_state : {S : Type 0} → (S → Token → Option S) → Option S → Token → Option S
next_state step None t = None
next_state step (Some s) t = step s t

abbrev pub last_state : {S : Type 0} → (S → Token → Option S) → Option S → List Token → Option S
last_state step o [] = o
last_state step o (t ∷ ts) = last_state step (next_state step o t) ts

-- the state after all tokens of a pattern, where it is made of tokens
abbrev pub after_tokens : {S : Type 0} → (S → Token → Option S) → S → Option (List Token) → Option S
after_tokens step s None = None
after_tokens step s (Some ts) = last_state step (Some s) ts
