use Rattle.std.proofs.Common.{ap, sym, ◌∙◌, arith}
use Rattle.py_int.specs.Literal.{saturated}
use Rattle.py_int.proofs.LiteralLemmas.{reads_digit, reads_underscore, reads_end}
use Rattle.py_int.proofs.literal.digits.Goals as goal
use Rattle.py_int.proofs.literal.digits.Goals.{then-digit-base, else-digit-base+then-after_digit+then-byte-eq95}

pub loop-byte-preserved : goal.loop-byte-preserved
loop-byte-preserved c =
    let ds = c.args.text.now in
    let i = c.loop-byte.byte-index in
    let d = c.digit_of-digit.ensures in
    elim c.if-digit-base.branch [
      | then-digit-base w ↦ record {
        small = omega arith;
        same = c.loop-byte.invariant.same ∙ rw (w.after_digit-is, w.size-is, w.grown-size.ensures, d) (reads_digit c.args.base c.loop-byte.after_digit c.loop-byte.size ds i c.requires.some c.loop-byte-test.true (rw (← d) w.if-digit-base.true));
      }
      | else-digit-base+then-after_digit+then-byte-eq95 w ↦ record {
        small = rw w.size-is c.loop-byte.invariant.small;
        same = c.loop-byte.invariant.same ∙ rw (w.after_digit-is, w.size-is, w.if-after_digit.true) (ap saturated (reads_underscore c.args.base c.loop-byte.size ds i c.loop-byte-test.true (rw (← d) w.if-digit-base.false) w.if-byte-eq95.true));
      }
    ]

pub returns-then-after_digit-2 : goal.returns-then-after_digit-2
returns-then-after_digit-2 c =
    sym (c.loop-byte.invariant.same ∙ rw c.if-after_digit-2.true (reads_end c.args.base c.loop-byte.size c.args.text.now c.loop-byte.byte-index (omega arith) c.loop-byte.invariant.small))
