use Rattle.std.proofs.Common.{◌≡◌, ◌∙◌, ◌++◌, sym, ap, chars, length, Ok}
use Rattle.py_value.specs.Printing.{escaped}
use Rattle.py_value.proofs.AsciiLemmas.{all_kept}
use Rattle.py_value.proofs.printing.escapes.escaped.Goals as goal

pub returns-then-kept-byte_len : goal.returns-then-kept-byte_len
returns-then-kept-byte_len c =
    ap Ok (all_kept c.as_str.result.now c.args.text c.kept.result c.as_str.ensures.value (c.if-kept-byte_len.true ∙ c.byte_len.ensures ∙ ap length (sym c.as_str.ensures.bytes)) c.kept.ensures)

pub returns : goal.returns
returns c =
    ap Ok (c.in_ok-put_escaped.ensures.ok
    ∙ ap (λ l. l ++ escaped (chars c.as_str-2.result.now)) c.in_ok-out.ensures.ok
    ∙ ap escaped c.as_str-2.ensures.value)
