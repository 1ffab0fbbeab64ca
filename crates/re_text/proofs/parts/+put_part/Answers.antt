use Rattle.std.proofs.Common.{arith}
use Rattle.re_text.proofs.WordLemmas.{parts_more}
use Rattle.re_text.proofs.parts.+put_part.Goals as goal

pub put_parts-loop-i-preserved : goal.put_parts-loop-i-preserved
put_parts-loop-i-preserved t c =
    parts_more c.args.names.now c.args.parts.now c.loop-i.i c.index-parts-i.result c.args.code.now c.loop-i.code c.put_part.new.code (omega (arith, c.loop-i-test.true)) c.loop-i.auto.i c.index-parts-i.is c.in_ok-put_part.ensures c.loop-i.invariant
