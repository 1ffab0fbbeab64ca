-- A template filled from a span's groups, pair by pair.
use Rattle.std.proofs.Common.{◌≡◌, ◌∙◌, ap, sym, ℕ, ◌+◌, ◌<◌, List, ◌∷◌, ◌++◌, length, get_or, map, drop, encode_utf8_all}
use Rattle.std.proofs.lemmas.List.{drop_more}
use Rattle.sre_match.specs.Matches.{Span}
use Rattle.sre_commands.specs.Commands.Sub.Filling.{group_text, fill_pairs}
use Rattle.sre_commands.specs.Commands.Sub.Template.{pair_of}
use Rattle.sre_commands.specs.declared.commands.sub.template.Pair.{Pair}
use Rattle.sre_commands.proofs.PartLemmas.{three_parts}

-- one pair more
pub pair_more : (s : List ℕ) (x : Span) (pairs : List Pair) (i : ℕ) (p : Pair) (was mid new whole : List ℕ)
    → i < length pairs → p ≡ get_or pairs i p
    → mid ≡ was ++ encode_utf8_all (group_text s x p.group) → new ≡ mid ++ encode_utf8_all p.literal
    → was ++ encode_utf8_all (fill_pairs (map pair_of (drop i pairs)) s x) ≡ whole
    → new ++ encode_utf8_all (fill_pairs (map pair_of (drop (i + 1) pairs)) s x) ≡ whole
pair_more s x pairs i p was mid new whole lt is m n e =
    let rest = fill_pairs (map pair_of (drop (i + 1) pairs)) s x in
    let one : fill_pairs (map pair_of (drop i pairs)) s x ≡ group_text s x p.group ++ (p.literal ++ rest) =
    ap (λ (l : List Pair). fill_pairs (map pair_of l) s x) (drop_more pairs i p lt ∙ ap (λ (q : Pair). q ∷ drop (i + 1) pairs) (sym is)) in
    three_parts was (group_text s x p.group) p.literal rest new (n ∙ ap (λ (l : List ℕ). l ++ encode_utf8_all p.literal) m)
    ∙ ap (λ (l : List ℕ). was ++ encode_utf8_all l) (sym one)
    ∙ e
