-- How a pattern is read, a token at a time.
use Rattle.std.specs.Prelude.{ℕ, zero, suc, ◌+◌, ◌-◌, ◌*◌, ◌==◌, ◌&&◌, Bool, true, false, List, [], ◌∷◌, ◌++◌, length, Option, Some, None, cond}
use Rattle.re_tree.specs.declared.tree.CountMode.{CountMode}
use Rattle.re_tree.specs.declared.tree.CountMode.TheVariants.{Greedy, Lazy, Possessive}
use Rattle.re_tree.specs.declared.unit.UnitItem.TheVariants.{Category}
use Rattle.re_tree.specs.PlainText.{PlainTest, dot, dot_all, literal, set, GroupName, numbered, named}
use Rattle.re_tree.specs.Tokens.{Opening, capturing, non_capturing, atomic_opening, look_opening, conditional_opening, Token, unit_token, anchor_token, reference_token, count_token, open_token, bar, close}
use Rattle.py_base.specs.Reading.{find}
use Rattle.re_tree.specs.Tables.{Sign, escapes, dots, lines, counts, braces, brackets, opens, closes, splits, signs, Letter, is_character_of, digits_follow, categories, anchors, letters, Extension, opens_as, looks_behind, has_name, is_conditional, extensions}
use Rattle.re_tree.specs.Sets.{Items, items_at}
use Rattle.re_tree.specs.Characters.{read_hex, if_flag, is_digit, is_octal, is_ascii_non_alphanumeric, first_is}
use Rattle.re_tree.specs.Grammar.{Flags, is_first_digit, value, greatest_of, id_of}

-- a token, and what is left after it
abbrev pub Found : Type 0
Found = Option (Token × List ℕ)

abbrev pub if_dotall : Bool → PlainTest
if_dotall true = dot_all
if_dotall false = dot

-- the digits that the text begins with, and what is left
abbrev pub digits_of : List ℕ → List ℕ
digits_of [] = []
digits_of (c ∷ cs) = cond (is_digit c) (c ∷ digits_of cs) []

abbrev pub after_digits : List ℕ → List ℕ
after_digits [] = []
after_digits (c ∷ cs) = cond (is_digit c) (after_digits cs) (c ∷ cs)

-- a count's bounds, and what is left
abbrev pub Bounds : Type 0
Bounds = Option (ℕ × Option ℕ × List ℕ)

abbrev pub exact_at : List ℕ → List ℕ → Bounds
exact_at [] cs = None
exact_at (d ∷ ds) cs = Some (value (d ∷ ds), Some (value (d ∷ ds)), cs)

abbrev pub most_at : ℕ → Option ℕ → List ℕ → Bounds
most_at least most [] = None
most_at least most (c ∷ cs) = cond (c == 125) (Some (least, most, cs)) None

abbrev pub bounds_at : List ℕ → List ℕ → Bounds
bounds_at ds [] = None
bounds_at ds (c ∷ cs) = cond (c == 125) (exact_at ds cs) (cond (c == 44) (most_at (value ds) (greatest_of (digits_of cs)) (after_digits cs)) None)

-- after a `{`
abbrev pub read_bounds : List ℕ → Bounds
read_bounds cs = bounds_at (digits_of cs) (after_digits cs)

abbrev pub with_mode : ℕ → ℕ → Option ℕ → List ℕ → Token × List ℕ
with_mode p least most [] = (count_token p least most Greedy, [])
with_mode p least most (c ∷ cs) =
    cond (c == 63) (count_token p least most Lazy, cs) (cond (c == 43) (count_token p least most Possessive, cs) (count_token p least most Greedy, c ∷ cs))

abbrev pub brace_token : ℕ → List ℕ → Bounds → Token × List ℕ
brace_token p cs None = (unit_token (literal 123), cs)
brace_token p cs (Some b) = with_mode p b.0 b.1 b.2

-- a name up to the next c, and what is left after that
abbrev pub add_first : ℕ → Option (List ℕ × List ℕ) → Option (List ℕ × List ℕ)
add_first c None = None
add_first c (Some x) = Some (c ∷ x.0, x.1)

abbrev pub up_to : ℕ → List ℕ → Option (List ℕ × List ℕ)
up_to e [] = None
up_to e (c ∷ cs) = cond (c == e) (Some ([], cs)) (add_first c (up_to e cs))

abbrev pub named_opening : ℕ → Option (List ℕ × List ℕ) → Found
named_opening p None = None
named_opening p (Some x) = Some (open_token p (capturing (Some x.0)), x.1)

abbrev pub named_reference : ℕ → Option (List ℕ × List ℕ) → Found
named_reference p None = None
named_reference p (Some x) = Some (reference_token p (named x.0), x.1)

abbrev pub named_conditional : ℕ → Option (List ℕ × List ℕ) → Found
named_conditional p None = None
named_conditional p (Some x) = Some (open_token p (conditional_opening (id_of x.0)), x.1)

-- after `(?P`
abbrev pub name_token : ℕ → List ℕ → Found
name_token p [] = None
name_token p (c ∷ cs) = cond (c == 60) (named_opening p (up_to 62 cs)) (cond (c == 61) (named_reference p (up_to 41 cs)) None)

-- after `(?<`
abbrev pub lookbehind_token : ℕ → List ℕ → Found
lookbehind_token p [] = None
lookbehind_token p (c ∷ cs) = cond (c == 61) (Some (open_token p (look_opening true true), cs)) (cond (c == 33) (Some (open_token p (look_opening false true), cs)) None)

abbrev pub extension_token : Option Extension → ℕ → List ℕ → Found
extension_token None p cs = None
extension_token (Some (opens_as opening)) p cs = Some (open_token p opening, cs)
extension_token (Some looks_behind) p cs = lookbehind_token p cs
extension_token (Some has_name) p cs = name_token p cs
extension_token (Some is_conditional) p cs = named_conditional p (up_to 41 cs)

-- after `(?`
abbrev pub extended : ℕ → List ℕ → Found
extended p [] = None
extended p (c ∷ cs) = extension_token (find extensions c) p cs

-- after `(`
abbrev pub opening_token : ℕ → List ℕ → Found
opening_token p [] = Some (open_token p (capturing None), [])
opening_token p (c ∷ cs) = cond (c == 63) (extended p cs) (Some (open_token p (capturing None), c ∷ cs))

-- a back reference after its first digit
abbrev pub number_token : ℕ → ℕ → List ℕ → Found
number_token p d [] = Some (reference_token p (numbered (d - 48)), [])
number_token p d (e ∷ cs) =
    cond (is_digit e)
    (cond (is_octal d && is_octal e && first_is is_octal cs) None (Some (reference_token p (numbered (10 * (d - 48) + (e - 48))), cs)))
    (Some (reference_token p (numbered (d - 48)), e ∷ cs))

abbrev pub hex_token : Option (ℕ × List ℕ) → Found
hex_token None = None
hex_token (Some x) = Some (unit_token (literal x.0), x.1)

abbrev pub letter_token : Option Letter → Flags → ℕ → ℕ → List ℕ → Found
letter_token None flags p l cs = cond (is_first_digit l) (number_token p l cs) (cond (is_ascii_non_alphanumeric l) (Some (unit_token (literal l), cs)) None)
letter_token (Some (is_character_of c)) flags p l cs = Some (unit_token (literal c), cs)
letter_token (Some (digits_follow n)) flags p l cs = hex_token (read_hex n 0 cs)
letter_token (Some (categories a b)) flags p l cs = Some (unit_token (set false (Category (if_flag (flags.ascii) b a) ∷ [])), cs)
letter_token (Some (anchors a b)) flags p l cs = Some (anchor_token (if_flag (flags.ascii) b a), cs)

-- after a backslash
abbrev pub escape_token : Flags → ℕ → List ℕ → Found
escape_token flags p [] = None
escape_token flags p (l ∷ cs) = letter_token (find letters l) flags p l cs

abbrev pub set_token : Bool → Items → Found
set_token negated None = None
set_token negated (Some x) = Some (unit_token (set negated x.0), x.1)

-- after `[`
abbrev pub bracket_token : Flags → List ℕ → Found
bracket_token flags [] = None
bracket_token flags (c ∷ cs) =
    cond (c == 94) (set_token true (items_at (length cs) (flags.ascii) true cs)) (set_token false (items_at (length (c ∷ cs)) (flags.ascii) true (c ∷ cs)))

abbrev pub sign_token : Option Sign → Flags → ℕ → ℕ → List ℕ → Found
sign_token None flags p c cs = Some (unit_token (literal c), cs)
sign_token (Some escapes) flags p c cs = escape_token flags p cs
sign_token (Some dots) flags p c cs = Some (unit_token (if_dotall (flags.dotall)), cs)
sign_token (Some (lines a b)) flags p c cs = Some (anchor_token (if_flag (flags.multiline) b a), cs)
sign_token (Some (counts least most)) flags p c cs = Some (with_mode p least most cs)
sign_token (Some braces) flags p c cs = Some (brace_token p cs (read_bounds cs))
sign_token (Some brackets) flags p c cs = bracket_token flags cs
sign_token (Some opens) flags p c cs = opening_token p cs
sign_token (Some closes) flags p c cs = Some (close, cs)
sign_token (Some splits) flags p c cs = Some (bar, cs)

-- the token that the text, whose place is p, begins with, where there is one
abbrev pub first_token : Flags → ℕ → List ℕ → Found
first_token flags p [] = None
first_token flags p (c ∷ cs) = sign_token (find signs c) flags p c cs

-- what is next in a pattern
pub data Lexed : Type 0 where
  lexed : (token : Token) (rest : List ℕ) → Lexed
  at_end : Lexed
  no_token : Lexed

abbrev pub lexed_as : Found → Lexed
lexed_as None = no_token
lexed_as (Some x) = lexed x.0 x.1

abbrev pub next_token : Flags → ℕ → List ℕ → Lexed
next_token flags p [] = at_end
next_token flags p (c ∷ cs) = lexed_as (first_token flags p (c ∷ cs))

abbrev pub put_token : Token → Option (List Token) → Option (List Token)
put_token t None = None
put_token t (Some ts) = Some (t ∷ ts)

-- the token, and then what f gives for what is left
abbrev pub token_then : Found → (List ℕ → Option (List Token)) → Option (List Token)
token_then None f = None
token_then (Some x) f = put_token x.0 (f x.1)

-- all tokens of a pattern that has at most n of them, and ends at the place `whole`
abbrev pub all_tokens : Flags → ℕ → ℕ → List ℕ → Option (List Token)
all_tokens flags whole n [] = Some []
all_tokens flags whole zero (c ∷ cs) = None
all_tokens flags whole (suc n) (c ∷ cs) = token_then (first_token flags (whole - length (c ∷ cs)) (c ∷ cs)) (all_tokens flags whole n)
