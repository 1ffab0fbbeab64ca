use Rattle.std.proofs.Common.{◌≡◌, ◌∙◌, ap, sym, true}
use Rattle.std.specs.List.{list_all}
use Rattle.py_base.specs.Chars.Classes.{between}
use Rattle.py_text.specs.Text.{all_ascii}
use Rattle.py_text.proofs.AsciiLemmas.{ascii_bytes}
use Rattle.py_str.proofs.AsciiTestLemmas.{printable_same}
use Rattle.py_str.proofs.tests_of.each_printable.Goals as goal

pub returns-then-is_ascii : goal.returns-then-is_ascii
returns-then-is_ascii c =
    let ascii : all_ascii c.args.text.now ≡ true = sym c.is_ascii.ensures ∙ c.if-is_ascii.true in
    c.each_byte_printable.ensures ∙ ap (list_all (between 32 126)) (c.as_bytes.ensures.value ∙ c.as_str.ensures.bytes ∙ ascii_bytes c.args.text.now ascii)
    ∙ printable_same c.args.text.now ascii
