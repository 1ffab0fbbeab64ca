-- Replacement templates, and their tokens.
use Rattle.std.specs.Prelude.{◌≡◌, ℕ, zero, suc, ◌≤◌, if◌then◌else◌, List, [], ◌∷◌, ◌++◌, All, codes, drop, length, map, true, Ok}
use Rattle.std.specs.List.{flat_map}
use Rattle.std.specs.Str.{all_scalars}
use Rattle.sre_commands.specs.Commands.Sub.Filling.{Replacement}
use Rattle.py_base.specs.Reading.{◌and_then◌, is_next}
use Rattle.sre_commands.specs.Error.{Read, no_request}
use Rattle.sre_commands.specs.Tokens.Number.{group_token, read_group}
use Rattle.sre_commands.specs.Tokens.Reader.{read_past}
use Rattle.sre_commands.specs.Tokens.Text.{token, read_text}
use Rattle.sre_commands.specs.declared.commands.sub.template.Pair.{Pair}
use Rattle.sre_commands.specs.declared.commands.sub.template.Template.{Template}

-- numbers of groups, or 0 for the whole span, and texts
abbrev pub ArePairs : ℕ → List (ℕ × List ℕ) → Type 0
ArePairs groups pairs = All (λ pair. (pair.0 ≤ groups) × (all_scalars pair.1 ≡ true)) pairs

-- a template's literals are texts, and each of its numbers is that of a group, or 0
pub record IsTemplate (groups : ℕ) (template : Replacement) : Type 0 where
  pub head : all_scalars template.head ≡ true
  pub pairs : ArePairs groups template.pairs

-- the tokens of pairs, with a space before each
abbrev pub pair_tokens : List (ℕ × List ℕ) → List ℕ
pair_tokens pairs =
    flat_map (λ pair. codes " " ++ (group_token pair.0 ++ (codes " " ++ token pair.1))) pairs

-- the tokens of a template, with a space before each
abbrev pub template_tokens : Replacement → List ℕ
template_tokens template = codes " " ++ (token template.head ++ pair_tokens template.pairs)

-- the template that a value in memory is
abbrev pub pair_of : Pair → ℕ × List ℕ
pair_of p = (p.group, p.literal)

abbrev pub replacement_of : Template → Replacement
replacement_of t = record { head = t.head; pairs = map pair_of t.pairs.items }

-- a pair: the number of a group or 0, a space, and a literal
abbrev pub read_pair : ℕ → List ℕ → Read (ℕ × List ℕ)
read_pair groups bytes =
    read_group groups bytes and_then λ group rest.
    read_past (codes " ") rest and_then λ _ rest.
    read_text rest and_then λ literal rest.
    Ok ((group, literal), rest)

-- pairs with a space (32) before each, as many as there are: so many spaces at most
abbrev pub read_pairs : ℕ → ℕ → List ℕ → Read (List (ℕ × List ℕ))
read_pairs groups zero bytes = no_request
read_pairs groups (suc n) bytes =
    if is_next 32 bytes
    then (read_pair groups (drop 1 bytes) and_then λ pair rest.
    read_pairs groups n rest and_then λ pairs end. Ok (pair ∷ pairs, end))
    else Ok ([], bytes)

abbrev pub read_template : ℕ → List ℕ → Read Replacement
read_template groups bytes =
    read_past (codes " ") bytes and_then λ _ rest.
    read_text rest and_then λ head rest.
    read_pairs groups (suc (length rest)) rest and_then λ pairs rest.
    Ok (record { head = head; pairs = pairs }, rest)
