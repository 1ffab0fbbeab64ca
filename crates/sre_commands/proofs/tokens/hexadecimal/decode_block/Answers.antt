use Rattle.std.proofs.Common.{ℕ, ◌+◌, ◌*◌, ◌<◌, length, sym, ◌∙◌, arith}
use Rattle.std.proofs.lemmas.List.{length-set}
use Rattle.sre_commands.proofs.DecodeLemmas.{none_read, pair_read, wrong_parts, still_wrong, byte_put}
use Rattle.sre_commands.proofs.tokens.hexadecimal.decode_block.Goals as goal

pub pairs-init : goal.pairs-init
pairs-init c = (λ e. none_read, λ e. cc e, c.told-block, c.fits-block)

pub pairs-preserved : goal.pairs-preserved
pairs-preserved c =
    let inv = c.pairs.invariant in
    let fits : 2 * c.pairs.i + 1 < length c.args.digits.now = omega (arith, c.pairs-test.true) in
    let room : c.pairs.i < length c.pairs.block = omega (arith, inv.2, c.requires.most) in (
      λ h.
          let p = wrong_parts c.pairs.wrong c.is_digit.result c.is_digit-in-pairs.result h in
          let high = sym c.is_digit.ensures ∙ p.1 in
          let low = sym c.is_digit-in-pairs.ensures ∙ p.2 in
          let hs = c.value_of.ensures.small high in
          let ls = c.value_of-in-pairs.ensures.small low in
          pair_read c.args.digits.now c.pairs.block c.pairs.i _ c.value_of.result c.value_of-in-pairs.result fits room (omega (arith, hs, ls)) ls (c.value_of.ensures.digit high) (c.value_of-in-pairs.ensures.digit low) (inv.0 p.0),
      still_wrong c.args.digits.now c.pairs.i c.pairs.wrong c.is_digit.result c.is_digit-in-pairs.result fits c.is_digit.ensures c.is_digit-in-pairs.ensures inv.1,
      length-set _ _ _ ∙ inv.2,
      byte_put _ _ _ inv.3,
    )
