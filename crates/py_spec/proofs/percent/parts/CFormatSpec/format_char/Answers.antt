use Rattle.std.proofs.Common.{rules, ◌≡◌, ◌∙◌, ◌∷◌, [], List, ℕ, ap, sym, chars, length, encode_utf8}
use Rattle.std.specs.Char.{IsScalar}
use Rattle.py_text.proofs.PointLemmas.{one_scalar}
use Rattle.py_spec.proofs.percent.parts.CFormatSpec.format_char.Goals as goal

one_char : (c : ℕ) (bytes : List ℕ) → IsScalar c → bytes ≡ encode_utf8 c → chars bytes ≡ c ∷ []
one_char c bytes s e = ap chars e ∙ one_scalar c s

pub filled-requires : goal.filled-requires
filled-requires c =
    let scalar : IsScalar c.args.c = search rules in
    sym (ap length (one_char c.args.c c.encode_utf8.result.now scalar c.encode_utf8.ensures.value))

pub returns-clause-ok : goal.returns-clause-ok
returns-clause-ok c =
    let scalar : IsScalar c.args.c = search rules in
    rw (one_char c.args.c c.encode_utf8.result.now scalar c.encode_utf8.ensures.value) at c.filled.ensures.ok
