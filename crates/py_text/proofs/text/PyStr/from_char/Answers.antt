use Rattle.std.proofs.Common.{rules, ◌≡◌, ◌∙◌, ap, sym, chars, length, string_bytes}
use Rattle.std.specs.Char.{encode_utf8}
use Rattle.py_text.proofs.PointLemmas.{one_scalar}
use Rattle.py_text.proofs.text.PyStr.from_char.Goals as goal

pub with_count-requires : goal.with_count-requires
with_count-requires c =
    let e : string_bytes c.push.new.self ≡ encode_utf8 c.args.c = search rules in
    sym (ap length (ap chars e ∙ one_scalar c.args.c (search rules)))

pub returns-clause-ok : goal.returns-clause-ok
returns-clause-ok c =
    let e : string_bytes c.push.new.self ≡ encode_utf8 c.args.c = search rules in
    c.with_count.ensures ∙ ap chars e ∙ one_scalar c.args.c (search rules)
