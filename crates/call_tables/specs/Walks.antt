-- What the calls `reduce` and `iterate` give.
use Rattle.std.specs.Prelude.{ℕ, zero, suc, pos, List, [], ◌∷◌, length, Option, Some, None, Result, Ok, Err}
use Rattle.py_text.specs.Iterator.{Position, rest_of, next_of, after_next, moved_to}
use Rattle.call_tables.specs.declared.fault.Fault.{Fault}
use Rattle.call_tables.specs.declared.fault.Fault.TheVariants.{BadArguments}
use Rattle.call_tables.specs.declared.token.Token.{Token}
use Rattle.call_tables.specs.declared.token.Token.TheVariants.{Text, Bytes, Int, Count, Missing, Order, Next, Hint}

-- an iterator at the beginning of a text
abbrev pub start_of : List ℕ → Option Position
start_of text = Some (record { text = text; place = 0 })

-- where it is after so many steps
abbrev pub after_steps : ℕ → Option Position → Option Position
after_steps zero it = it
after_steps (suc n) it = after_next (after_steps n it)

-- its text and its place
abbrev pub position_tokens : Option Position → List Token
position_tokens None = Missing ∷ []
position_tokens (Some p) = Text p.text ∷ Int (pos p.place) ∷ []

abbrev pub letter_token : Option ℕ → Token
letter_token None = Missing
letter_token (Some c) = Text (c ∷ [])

-- what a step gives, which may be nothing; other words are no steps
abbrev pub given_by : Option Position → Token → Result (Option Token) Fault
given_by it Next = Ok (Some (letter_token (next_of it)))
given_by it Hint = Ok (Some (Int (pos (length (rest_of it)))))
given_by it (Int place) = Ok None
given_by it (Text t) = Err BadArguments
given_by it (Bytes bs) = Err BadArguments
given_by it (Count n) = Err BadArguments
given_by it Missing = Err BadArguments
given_by it (Order o) = Err BadArguments

-- where a step leaves the iterator
abbrev pub after_step : Option Position → Token → Option Position
after_step it Next = after_next it
after_step it Hint = it
after_step it (Int place) = moved_to place it
after_step it (Text t) = it
after_step it (Bytes bs) = it
after_step it (Count n) = it
after_step it Missing = it
after_step it (Order o) = it

-- what is given first, and then the rest
abbrev pub and_rest : Result (Option Token) Fault → Result (List Token) Fault → Result (List Token) Fault
and_rest (Err e) rest = Err e
and_rest (Ok None) rest = rest
and_rest (Ok (Some t)) (Ok ts) = Ok (t ∷ ts)
and_rest (Ok (Some t)) (Err e) = Err e

-- what all steps give, one after the other
abbrev pub walk : Option Position → List Token → Result (List Token) Fault
walk it [] = Ok []
walk it (step ∷ steps) = and_rest (given_by it step) (walk (after_step it step) steps)

-- how many there are, and then each
abbrev pub counted : Result (List Token) Fault → Result (List Token) Fault
counted (Ok ts) = Ok (Count (length ts) ∷ ts)
counted (Err e) = Err e
