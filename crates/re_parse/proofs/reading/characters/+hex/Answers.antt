use Rattle.std.proofs.Common.{◌≡◌, ◌+◌, ◌-◌, ◌*◌, ◌∙◌, sym, ap, ℕ, drop, get_or, arith}
use Rattle.std.specs.Prelude.{Some}
use Rattle.std.proofs.lemmas.List.{drop_more, take_rest, get_or_read}
use Rattle.re_tree.specs.Characters.{hex_digit, read_hex}
use Rattle.re_parse.proofs.HexLemmas.{past_characters, one_digit}
use Rattle.re_parse.proofs.reading.characters.+hex.Goals as goal

pub returns-then-number-gt-LAST_CHARACTER : goal.returns-then-number-gt-LAST_CHARACTER
returns-then-number-gt-LAST_CHARACTER n c = sym (past_characters c.args.count c.args.number c.args.text.now (omega arith))

pub returns-in-Some-hex_digit : goal.returns-in-Some-hex_digit
returns-in-Some-hex_digit n c =
    let text = c.args.text.now in
    let x : ℕ = get_or text 0 0 in
    let q : c.c-item.result ≡ x = get_or_read text 0 c.c-item.result c.in-len1-up.len_at_least c.c-item.is 0 in
    let e : Some c.in-Some-hex_digit.digit ≡ hex_digit x = c.in-Some-hex_digit.ensures.value ∙ ap hex_digit q in
    c.hex.ensures
    ∙ ap (read_hex (c.args.count - 1) (16 * c.args.number + c.in-Some-hex_digit.digit)) (take_rest text 1)
    ∙ one_digit c.args.count c.args.number x c.in-Some-hex_digit.digit (drop 1 text) (λ z. c.if-count-eq0.false z) e
    ∙ ap (read_hex c.args.count c.args.number) (sym (drop_more text 0 0 c.in-len1-up.len_at_least))
