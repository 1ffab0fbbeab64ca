use Rattle.std.proofs.Common.{rules, ◌∙◌, sym}
use Rattle.std.proofs.lemmas.Str.{chars-nil, IsUtf8-string_bytes}
use Rattle.std.specs.Char.{IsScalar}
use Rattle.std.proofs.lemmas.List.{take_more}
use Rattle.py_text.proofs.StrideLemmas.{pushed}
use Rattle.py_text.proofs.text.PyStr.from_chars.Goals as goal

pub loop-point-init : goal.loop-point-init
loop-point-init c = rw c.in_ok-text.ensures.bytes chars-nil

pub loop-point-preserved : goal.loop-point-preserved
loop-point-preserved c =
    let scalar : IsScalar c.point-item.result = search rules in
    let more = pushed _ _ c.point-item.result scalar (IsUtf8-string_bytes c.loop-point.text) c.in_ok-push.ensures.bytes in
    rw c.loop-point.invariant at more ∙ sym (rw (← c.point-item.is) at (take_more c.args.points.now c.loop-point.point-index c.point-item.result c.loop-point-test.true))
