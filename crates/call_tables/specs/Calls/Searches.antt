-- What the calls of the table `texts` give.
use Rattle.std.specs.Prelude.{ℕ, pos, List, [], ◌∷◌, codes, length, is_some, ok_or, Result, Ok, Err}
use Rattle.std.specs.Cmp.Lexicographic.{slice_cmp}
use Rattle.std.specs.Ordering.{nat_cmp}
use Rattle.py_base.specs.declared.error.PyError.TheVariants.{SubstringNotFound}
use Rattle.py_text.specs.declared.search.FindArgs.{FindArgs}
use Rattle.py_text.specs.Occurrences.{first_in}
use Rattle.py_text.specs.Search.{find, rfind, place_or_minus_one, count, begins_with, ends_with}
use Rattle.call_tables.specs.declared.fault.Fault.{Fault}
use Rattle.call_tables.specs.declared.fault.Fault.TheVariants.{BadArguments}
use Rattle.call_tables.specs.declared.token.Token.{Token}
use Rattle.call_tables.specs.declared.token.Token.TheVariants.{Text, Bytes, Int}
use Rattle.call_tables.specs.Calls.Arguments.{optional_of, order_number}
use Rattle.call_tables.specs.Results.{told, one, flag_token, length_tokens, by_name, ◌and_with◌}

abbrev pub of_text : List ℕ → List ℕ → Result (List Token) Fault
of_text name text = by_name name ((codes "lengths", Ok (length_tokens text)) ∷ [])

abbrev pub of_two : List ℕ → List ℕ → List ℕ → Result (List Token) Fault
of_two name text other =
    by_name name
    ((codes "contains", Ok (one (flag_token (is_some (first_in other text 0 (length text))))))
    ∷ (codes "compare", Ok (one (Int (order_number (slice_cmp nat_cmp text other)))))
    ∷ [])

abbrev pub of_bytes : List ℕ → List ℕ → Result (List Token) Fault
of_bytes name bytes = by_name name ((codes "bytes_len", Ok (one (Int (pos (length bytes))))) ∷ [])

abbrev pub of_two_bytes : List ℕ → List ℕ → List ℕ → Result (List Token) Fault
of_two_bytes name bytes other =
    by_name name ((codes "compare_bytes", Ok (one (Int (order_number (slice_cmp nat_cmp bytes other))))) ∷ [])

-- a text that is looked for in a window of another
abbrev pub in_window : List ℕ → List ℕ → FindArgs → Result (List Token) Fault
in_window name text args =
    let first = find args.sub text args.start args.end in
    let last = rfind args.sub text args.start args.end in
    by_name name
    ((codes "find", Ok (one (Int (place_or_minus_one first))))
    ∷ (codes "rfind", Ok (one (Int (place_or_minus_one last))))
    ∷ (codes "count", Ok (one (Int (pos (count args.sub text args.start args.end)))))
    ∷ (codes "index", told (λ n. one (Int (pos n))) (ok_or first SubstringNotFound))
    ∷ (codes "rindex", told (λ n. one (Int (pos n))) (ok_or last SubstringNotFound))
    ∷ (codes "startswith", Ok (one (flag_token (begins_with args.sub text args.start args.end))))
    ∷ (codes "endswith", Ok (one (flag_token (ends_with args.sub text args.start args.end))))
    ∷ [])

abbrev pub searched : List ℕ → List Token → Result (List Token) Fault
searched name (Text t ∷ []) = of_text name t
searched name (Text t ∷ Text other ∷ []) = of_two name t other
searched name (Bytes bs ∷ []) = of_bytes name bs
searched name (Bytes bs ∷ Bytes other ∷ []) = of_two_bytes name bs other
searched name (Text t ∷ Text part ∷ start ∷ end ∷ []) =
    optional_of start and_with λ s. optional_of end and_with λ e.
    in_window name t (record { sub = part; start = s; end = e })
searched name _ = Err BadArguments
