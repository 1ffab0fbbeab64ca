use Rattle.std.proofs.Common.{◌≡◌, ◌∙◌, ◌++◌, ◌-◌, ap, slice_range}
use Rattle.py_str.specs.Quote.{text_ascii}
use Rattle.py_value.proofs.AsciiLemmas.{ascii_inner}
use Rattle.py_value.proofs.printing.escapes.put_ascii.Goals as goal

pub returns-clause-ok : goal.returns-clause-ok
returns-clause-ok c =
    let quoted = c.in_ok-quoted.ensures.ok ∙ ap text_ascii c.in_ok-text.ensures.ok in
    c.in_ok-append.ensures.ok
    ∙ ap (λ l. c.args.out.now ++ l) (c.get_chars.ensures ∙ ap (λ n. slice_range c.in_ok-quoted.quoted 1 (n - 1)) c.len.ensures
    ∙ ascii_inner c.args.c c.in_ok-quoted.quoted c.if-c-le126.false quoted)
