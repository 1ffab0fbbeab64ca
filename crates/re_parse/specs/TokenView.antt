-- The plain token that a token in memory stands for.
use Rattle.std.specs.Prelude.{◌≡◌, ℕ, Bool, true, List, length, Option, Some, Result, IfOk, String, chars, string_bytes}
use Rattle.std.specs.Option.{option_map}
use denote.Bor.{Bor}
use Rattle.re_tree.specs.PlainText.{GroupName, numbered, named}
use Rattle.re_tree.specs.TextView.{test_of}
use Rattle.re_tree.specs.Tokens.{Opening, capturing, non_capturing, atomic_opening, look_opening, conditional_opening, Token, unit_token, anchor_token, reference_token, count_token, open_token, bar, close}
use Rattle.re_tree.specs.Grammar.{value, greatest_of}
use Rattle.re_tree.specs.Sets.{items_at}
use Rattle.re_tree.specs.Reading.{Found, Lexed, lexed, at_end, no_token, Bounds, digits_of, after_digits, most_at, with_mode, set_token}
use Rattle.re_tree.specs.Tables.{Letter, is_character_of, digits_follow, categories, anchors}
use Rattle.re_parse.specs.declared.reading.letters.Letter.{Letter as LetterInMemory}
use Rattle.re_parse.specs.declared.reading.letters.Letter.TheVariants.{Character, Digits, Category, Anchor}
use Rattle.re_parse.specs.declared.token.GroupName.{GroupName as NameInMemory}
use Rattle.re_parse.specs.declared.token.GroupName.TheVariants.{Number, Name}
use Rattle.re_parse.specs.declared.token.Opening.{Opening as OpeningInMemory}
use Rattle.re_parse.specs.declared.token.Opening.TheVariants.{Capturing, NonCapturing, Atomic, Look, Conditional}
use Rattle.re_parse.specs.declared.token.Lexed.{Lexed as LexedInMemory}
use Rattle.re_parse.specs.declared.token.Lexed.TheVariants.{Token as TokenNext, End, NoToken}
use Rattle.re_parse.specs.declared.token.Token.{Token as TokenInMemory}
use Rattle.re_parse.specs.declared.token.Token.TheVariants.{Unit as UnitToken, Anchor as AnchorToken, Reference, Count, Open, Bar, Close}

abbrev pub group_named : NameInMemory → GroupName
group_named (Number n) = numbered n
group_named (Name name) = named name

abbrev pub opening_of : OpeningInMemory → Opening
opening_of (Capturing name) = capturing name
opening_of NonCapturing = non_capturing
opening_of Atomic = atomic_opening
opening_of (Look positive behind) = look_opening positive behind
opening_of (Conditional id) = conditional_opening (group_named id)

abbrev pub token_of : TokenInMemory → Token
token_of (UnitToken test) = unit_token (test_of test)
token_of (AnchorToken k) = anchor_token k
token_of (Reference at id) = reference_token at (group_named id)
token_of (Count at least most mode) = count_token at least most mode
token_of (Open at opening) = open_token at (opening_of opening)
token_of Bar = bar
token_of Close = close

-- what is next
abbrev pub lexed_of : LexedInMemory → Lexed
lexed_of (TokenNext token rest) = lexed (token_of token) rest.now
lexed_of End = at_end
lexed_of NoToken = no_token

-- a token and what is left after it, where there is one
abbrev pub found_of : Option (TokenInMemory × Bor (List ℕ)) → Found
found_of found = option_map (λ x. (token_of x.0, x.1.now)) found

-- a token and what is left after it
abbrev pub token_and_rest : TokenInMemory × Bor (List ℕ) → Token × List ℕ
token_and_rest x = (token_of x.0, x.1.now)

-- unless memory runs out this is found, or nothing where this is nothing
abbrev pub Reads : {E : Type 0} → Found → Result (Option (TokenInMemory × Bor (List ℕ))) E → Type 0
Reads want result = IfOk result (λ r. found_of r ≡ want)

-- a count by a sign, whose bounds these digits write
abbrev pub counted_by : ℕ → List ℕ → List ℕ → List ℕ → Found
counted_by at least most rest = Some (with_mode at (value least) (greatest_of most) rest)

-- the bounds after a comma
abbrev pub bounds_after : List ℕ → List ℕ → Bounds
bounds_after least text = most_at (value least) (greatest_of (digits_of text)) (after_digits text)

-- the token of a set after its `[`, and its `^` if it has one
abbrev pub set_at : Bool → Bool → List ℕ → Found
set_at ascii negated text = set_token negated (items_at (length text) ascii true text)

-- the code points of a text in memory
abbrev pub points : {A : Type 0} → String A → List ℕ
points text = chars (string_bytes text)

-- the bounds of a count and what is left after them
abbrev pub bounds_of : Option (ℕ × Option ℕ × Bor (List ℕ)) → Bounds
bounds_of found = option_map (λ x. (x.0, x.1, x.2.now)) found

-- a value and what is left after it
abbrev pub rest_of : {A : Type 0} → Option (A × Bor (List ℕ)) → Option (A × List ℕ)
rest_of found = option_map (λ x. (x.0, x.1.now)) found

-- what the table of letters has
abbrev pub letter_of : LetterInMemory → Letter
letter_of (Character c) = is_character_of c
letter_of (Digits n) = digits_follow n
letter_of (Category k a) = categories k a
letter_of (Anchor k a) = anchors k a
