use Rattle.std.proofs.Common.{◌∙◌, ap, get_or, length, sym, arith}
use Rattle.std.specs.Prelude.{Some}
use Rattle.py_text.proofs.AsciiLemmas.{ascii_bytes, item_there}
use Rattle.py_text.proofs.text.PyStr.do_get.Goals as goal

pub bounds-as_bytes-index : goal.bounds-as_bytes-index
bounds-as_bytes-index c =
    let same = c.as_bytes.ensures.value ∙ c.as_str.ensures.bytes ∙ ascii_bytes c.args.self.now (sym c.if-is_ascii.ensures) in
    omega (arith, ap length same)

pub returns-then-is_ascii : goal.returns-then-is_ascii
returns-then-is_ascii c =
    let same = c.as_bytes.ensures.value ∙ c.as_str.ensures.bytes ∙ ascii_bytes c.args.self.now (sym c.if-is_ascii.ensures) in
    item_there c.args.self.now c.args.index c.requires ∙ ap Some (sym (c.from.ensures ∙ ap (λ l. get_or l c.args.index 0) same))
