-- What the loops of the reader have left to read: code words, and pairs of a template.
use Rattle.std.proofs.Common.{◌≡◌, refl, sym, ap, ◌∙◌, ℕ, suc, ◌<◌, Bool, true, false, if◌then◌else◌, List, [], ◌∷◌, ◌++◌, length, drop, append_assoc, arith, length-append, map, Ok, Err}
use Rattle.std.proofs.lemmas.List.{append-nil, map-append}
use Rattle.std.specs.Fmt.{decimal}
use Rattle.py_base.specs.Reading.{◌and_then◌, is_next}
use Rattle.sre_commands.specs.Error.{Read}
use Rattle.sre_commands.specs.declared.error.ParseError.{ParseError}
use Rattle.sre_commands.specs.Tokens.Number.{read_word, read_words}
use Rattle.sre_commands.specs.Commands.Sub.Template.{read_pair, read_pairs}
use Rattle.py_base.proofs.HoldsLemmas.{next_is}
use Rattle.py_base.proofs.LoopLemmas.{Left, nothing_more, turned, stopped}
use Rattle.sre_commands.proofs.SoundLemmas.{a_word, a_pair, tokens}

shorter : (rest after word : List ℕ) → is_next 32 rest ≡ true → drop 1 rest ≡ word ++ after → length after < length rest
shorter rest after word s e = omega (arith, ap length (next_is 32 rest s), ap length e, length-append word after)

-- code words
abbrev pub WordsLeft : List ℕ → List ℕ → List ℕ → Type 0
WordsLeft bytes words rest = Left (read_words (suc (length bytes)) bytes) read_words (λ more. words ++ more) rest

pub words_none : (bytes : List ℕ) → WordsLeft bytes [] bytes
words_none bytes = record { most = suc (length bytes); enough = omega arith; whole = nothing_more (read_words (suc (length bytes)) bytes) }

abbrev word_or : ℕ → List ℕ → Bool → Read ℕ → Read (List ℕ)
word_or k rest b r = if b then (r and_then λ word x. read_words k x and_then λ words y. Ok (word ∷ words, y)) else Ok ([], rest)

pub word_shorter : (rest after : List ℕ) (word : ℕ) → is_next 32 rest ≡ true → Ok (word, after) ≡ read_word (drop 1 rest) → length after < length rest
word_shorter rest after word s e = shorter rest after (decimal word) s ((a_word (drop 1 rest)).by word after (sym e)).1

pub words_more : (bytes rest after words : List ℕ) (word : ℕ) → is_next 32 rest ≡ true → Ok (word, after) ≡ read_word (drop 1 rest) → WordsLeft bytes words rest → WordsLeft bytes (words ++ word ∷ []) after
words_more bytes rest after words word s e l =
    turned (λ more. (words ++ word ∷ []) ++ more) (λ more. word ∷ more) after (λ k. ap (λ b. word_or k rest b (read_word (drop 1 rest))) s ∙ ap (word_or k rest true) (sym e)) (λ more. sym (append_assoc words (word ∷ []) more)) (word_shorter rest after word s e) l

pub words_error : (bytes rest words : List ℕ) (e : ParseError) → is_next 32 rest ≡ true → read_word (drop 1 rest) ≡ Err e → WordsLeft bytes words rest → read_words (suc (length bytes)) bytes ≡ Err e
words_error bytes rest words e s h l = stopped (Err e) (λ k. ap (λ b. word_or k rest b (read_word (drop 1 rest))) s ∙ ap (word_or k rest true) h) l

pub words_end : (bytes rest words : List ℕ) → is_next 32 rest ≡ false → WordsLeft bytes words rest → Ok (words, rest) ≡ read_words (suc (length bytes)) bytes
words_end bytes rest words s l = sym (stopped (Ok ([], rest)) (λ k. ap (λ b. word_or k rest b (read_word (drop 1 rest))) s) l ∙ ap (λ (ws : List ℕ). Ok (ws, rest)) (append-nil words))

-- pairs
abbrev pub PairsLeft : ℕ → List ℕ → List (ℕ × List ℕ) → List ℕ → Type 0
PairsLeft groups bytes pairs rest = Left (read_pairs groups (suc (length bytes)) bytes) (read_pairs groups) (λ more. pairs ++ more) rest

pub pairs_none : (groups : ℕ) (bytes : List ℕ) → PairsLeft groups bytes [] bytes
pairs_none groups bytes = record { most = suc (length bytes); enough = omega arith; whole = nothing_more (read_pairs groups (suc (length bytes)) bytes) }

abbrev pair_or : ℕ → ℕ → List ℕ → Bool → Read (ℕ × List ℕ) → Read (List (ℕ × List ℕ))
pair_or groups k rest b r = if b then (r and_then λ pair x. read_pairs groups k x and_then λ pairs y. Ok (pair ∷ pairs, y)) else Ok ([], rest)

pub pair_shorter : (groups : ℕ) (rest after : List ℕ) (pair : ℕ × List ℕ) → is_next 32 rest ≡ true → Ok (pair, after) ≡ read_pair groups (drop 1 rest) → length after < length rest
pair_shorter groups rest after pair s e = shorter rest after (tokens pair) s ((a_pair groups (drop 1 rest)).by pair after (sym e)).1

pub pairs_more : (groups : ℕ) (bytes rest after : List ℕ) (pairs : List (ℕ × List ℕ)) (pair : ℕ × List ℕ) → is_next 32 rest ≡ true → Ok (pair, after) ≡ read_pair groups (drop 1 rest) → PairsLeft groups bytes pairs rest → PairsLeft groups bytes (pairs ++ pair ∷ []) after
pairs_more groups bytes rest after pairs pair s e l =
    turned (λ more. (pairs ++ pair ∷ []) ++ more) (λ more. pair ∷ more) after (λ k. ap (λ b. pair_or groups k rest b (read_pair groups (drop 1 rest))) s ∙ ap (pair_or groups k rest true) (sym e)) (λ more. sym (append_assoc pairs (pair ∷ []) more)) (pair_shorter groups rest after pair s e) l

pub pairs_error : (groups : ℕ) (bytes rest : List ℕ) (pairs : List (ℕ × List ℕ)) (e : ParseError) → is_next 32 rest ≡ true → read_pair groups (drop 1 rest) ≡ Err e → PairsLeft groups bytes pairs rest → read_pairs groups (suc (length bytes)) bytes ≡ Err e
pairs_error groups bytes rest pairs e s h l = stopped (Err e) (λ k. ap (λ b. pair_or groups k rest b (read_pair groups (drop 1 rest))) s ∙ ap (pair_or groups k rest true) h) l

pub pairs_end : (groups : ℕ) (bytes rest : List ℕ) (pairs : List (ℕ × List ℕ)) → is_next 32 rest ≡ false → PairsLeft groups bytes pairs rest → Ok (pairs, rest) ≡ read_pairs groups (suc (length bytes)) bytes
pairs_end groups bytes rest pairs s l = sym (stopped (Ok ([], rest)) (λ k. ap (λ b. pair_or groups k rest b (read_pair groups (drop 1 rest))) s) l ∙ ap (λ (ps : List (ℕ × List ℕ)). Ok (ps, rest)) (append-nil pairs))
