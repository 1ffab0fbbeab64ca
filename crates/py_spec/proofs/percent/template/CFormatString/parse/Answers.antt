use Rattle.std.proofs.Common.{◌∙◌, ◌<◌, ◌++◌, arith, ap, sym, length}
use Rattle.std.proofs.lemmas.Bool.Decides.{nat_tests}
use Rattle.std.proofs.lemmas.Result.{err_from_is_err_and}
use Rattle.py_base.proofs.LoopLemmas.{handed_on}
use Rattle.py_spec.specs.Percent.Reading.{no_memory, place_of}
use Rattle.py_spec.specs.Percent.Template.{read_turn, turn_parts}
use Rattle.py_spec.proofs.LengthLemmas.{turn_shorter}
use Rattle.py_spec.proofs.PartLemmas.{parts_more, parts_fault}
use Rattle.py_spec.proofs.percent.template.CFormatString.parse.Goals as goal

pub returns-in_err-turn : goal.returns-in_err-turn
returns-in_err-turn c =
    let some : 0 < length c.loop-reader.reader = grind (arith, nat_tests) in
    let p = err_from_is_err_and c.from_residual.result c.from_residual.ensures.1 in
    rw (p.1, p.2) (handed_on (no_memory c.in_err-turn.field-0.0) c.in_err-turn.field-0.0 (λ h. parts_fault c.args.text.now c.loop-reader.reader c.loop-reader.made _ some (ap (λ n. read_turn n c.loop-reader.reader) (sym c.len-whole.ensures) ∙ h) c.loop-reader.invariant) c.in_err-turn.ensures)

pub loop-reader-smaller : goal.loop-reader-smaller
loop-reader-smaller c =
    let some : 0 < length c.loop-reader.reader = grind (arith, nat_tests) in
    turn_shorter c.len-whole.result c.loop-reader.reader c.turn.new.self c.in_ok-turn.turn some c.in_ok-turn.ensures

pub loop-reader-preserved : goal.loop-reader-preserved
loop-reader-preserved c =
    let some : 0 < length c.loop-reader.reader = grind (arith, nat_tests) in
    let put = c.in_ok-put_turn.ensures.ok ∙ ap (λ p. c.loop-reader.made ++ turn_parts p c.in_ok-turn.turn) (c.place-place.ensures ∙ ap (λ n. place_of n c.loop-reader.reader) c.len-whole.ensures) in
    parts_more c.args.text.now c.loop-reader.reader c.turn.new.self c.loop-reader.made c.put_turn.new.self c.in_ok-turn.turn some (c.in_ok-turn.ensures ∙ ap (λ n. read_turn n c.loop-reader.reader) c.len-whole.ensures) put c.loop-reader.invariant
