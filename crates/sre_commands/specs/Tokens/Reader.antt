-- How the next bytes of a request are read: what has to come, and a token.
use Rattle.std.specs.Prelude.{◌==◌, ◌||◌, ℕ, Bool, if◌then◌else◌, List, [], ◌∷◌, length, take, drop, nat_eq, Ok, Err, Result}
use Rattle.std.specs.Cmp.Lexicographic.{pointwise}
use Rattle.py_base.specs.Reading.{◌and_then◌}
use Rattle.sre_commands.specs.Error.{Read, no_request}
use Rattle.sre_commands.specs.declared.error.ParseError.{ParseError}

-- these bytes have to come
abbrev pub read_past : List ℕ → List ℕ → Read (Unit {0})
read_past name bytes =
    if pointwise nat_eq (take (length name) bytes) name
    then Ok (tt, drop (length name) bytes)
    else no_request

-- a token ends at a space (32), at a line feed (10), or at the end
abbrev pub is_end : ℕ → Bool
is_end b = b == 32 || b == 10

abbrev pub read_token : List ℕ → Read (List ℕ)
read_token [] = Ok ([], [])
read_token (b ∷ bytes) =
    if is_end b then Ok ([], b ∷ bytes)
    else (read_token bytes and_then λ token rest. Ok (b ∷ token, rest))

-- a value, and what is left
abbrev pub with_rest : {A : Type 0} → Result A ParseError → List ℕ → Read A
with_rest (Ok a) rest = Ok (a, rest)
with_rest (Err e) rest = Err e

-- a token, of which this makes a value
abbrev pub read_by_token : {A : Type 0} → (List ℕ → Result A ParseError) → List ℕ → Read A
read_by_token value bytes = read_token bytes and_then λ token rest. with_rest (value token) rest
