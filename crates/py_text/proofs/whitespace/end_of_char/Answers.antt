use Rattle.std.proofs.Common.{◌<◌, ◌++◌, ◌∙◌, ap, sym, take, drop, length, chars, arith, IsUtf8}
use Rattle.std.proofs.lemmas.Str.{chars-append, IsUtf8-take}
use Rattle.py_text.proofs.UntilLemmas.{some_chars, take_on}
use Rattle.py_text.proofs.whitespace.end_of_char.Goals as goal

pub offset_of-requires : goal.offset_of-requires
offset_of-requires c =
    let there : 0 < length c.range_from.result.now = omega (arith, c.range_from.ensures.len, c.requires.there) in
    omega (arith, some_chars c.range_from.result.now c.range_from.utf8 there)

pub returns-clause-before : goal.returns-clause-before
returns-clause-before c =
    let before : IsUtf8 (take c.args.at c.args.text.now) = IsUtf8-take c.args.text.now c.args.at c.utf8.text c.requires.boundary in
    ap chars (take_on c.args.at c.offset_of.result c.args.text.now) ∙ chars-append (take c.args.at c.args.text.now) (take c.offset_of.result (drop c.args.at c.args.text.now)) before
    ∙ ap (λ r. chars (take c.args.at c.args.text.now) ++ r) (ap (λ l. chars (take c.offset_of.result l)) (sym c.range_from.ensures.value) ∙ c.offset_of.ensures.before ∙ ap (λ l. take 1 (chars l)) c.range_from.ensures.value)
