use Rattle.std.proofs.Common.{◌≡◌, length, vec_len, arith, rules}
use Rattle.sre_commands.specs.Streams.{reading_of}
use Rattle.sre_commands.proofs.StreamLemmas.{more_than, at_most}
use Rattle.sre_commands.proofs.streams.read_all.Goals as goal

pub returns-then-count-len-clause-too_long : goal.returns-then-count-len-clause-too_long
returns-then-count-len-clause-too_long g c =
    let long : vec_len c.loop-bytes.bytes ≡ length c.loop-bytes.bytes.items = search rules in
    λ e. more_than _ c.in_ok-count.count (reading_of g.S.Source.left g.S.Source.faults c.args.source.now c.read.new.self) _ _ c.read.new.into c.loop-bytes.invariant.read c.in_ok-count.ensures.bytes.0 c.in_ok-count.ensures.bound.0
    (omega (arith, long, c.loop-bytes.invariant.within)) (omega (arith, long, c.if-count-len.true, c.len.ensures))

pub returns-in_err-extend_from_slice-clause-within : goal.returns-in_err-extend_from_slice-clause-within
returns-in_err-extend_from_slice-clause-within g c =
    let long : vec_len c.loop-bytes.bytes ≡ length c.loop-bytes.bytes.items = search rules in
    λ e. at_most _ c.in_ok-count.count (reading_of g.S.Source.left g.S.Source.faults c.args.source.now c.read.new.self) _ _ c.read.new.into c.loop-bytes.invariant.read c.in_ok-count.ensures.bytes.0 c.in_ok-count.ensures.bound.0
    (omega (arith, long, c.loop-bytes.invariant.within)) (omega (arith, long, c.if-count-len.false, c.len.ensures))
