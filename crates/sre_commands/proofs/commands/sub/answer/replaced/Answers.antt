use Rattle.std.proofs.Common.{◌≡◌, ◌∙◌, true, subst, sym}
use Rattle.std.specs.Str.{IsAscii}
use Rattle.py_text.specs.Text.{all_ascii}
use Rattle.sre_commands.proofs.PartLemmas.{is_ascii, ascii_bytes}
use Rattle.sre_commands.proofs.commands.sub.answer.replaced.Goals as goal

pub replaced_over-requires-clause-units : goal.replaced_over-requires-clause-units
replaced_over-requires-clause-units g c =
    let h : all_ascii c.args.asked.now.subject ≡ true = sym c.is_ascii.ensures ∙ c.if-is_ascii.true in
    c.new-view.ensures ∙ ascii_bytes c.args.asked.now.subject c.as_bytes.result.now h (c.as_bytes.ensures.value ∙ c.as_str.ensures.bytes)

pub replaced_over-requires-clause-is_text : goal.replaced_over-requires-clause-is_text
replaced_over-requires-clause-is_text g c =
    let h : all_ascii c.args.asked.now.subject ≡ true = sym c.is_ascii.ensures ∙ c.if-is_ascii.true in
    let units = c.new-view.ensures ∙ ascii_bytes c.args.asked.now.subject c.as_bytes.result.now h (c.as_bytes.ensures.value ∙ c.as_str.ensures.bytes) in
    subst IsAscii (sym units) (is_ascii c.args.asked.now.subject h)
