use Rattle.std.proofs.Common.{rules, ℕ, ◌+◌, ◌*◌, ◌/◌, ◌≤◌, length, refl, sym, ap, ◌∙◌, arith}
use Rattle.hex.specs.Hex.{encode_lower}
use Rattle.sre_commands.proofs.DecodeLemmas.{none_read, block_read, any_in_part, not_written, odd_not_written, bytes_none, bytes_more}
use Rattle.sre_commands.proofs.tokens.hexadecimal.decode.Goals as goal

pub returns-then-digits-ne0-clause-none : goal.returns-then-digits-ne0-clause-none
returns-then-digits-ne0-clause-none c = λ bytes are e. odd_not_written c.args.digits.now bytes c.if-digits-ne0.true e

pub parts-init : goal.parts-init
parts-init c = (none_read ∙ ap encode_lower (sym c.in_ok-bytes.ensures.items), omega arith, refl, refl, bytes_none c.in_ok-bytes.bytes.items c.in_ok-bytes.ensures.items)

pub returns-then-not-decode_block-clause-none : goal.returns-then-not-decode_block-clause-none
returns-then-not-decode_block-clause-none c = λ bytes are e.
    let part = c.decode_block.ensures.none c.if-not-decode_block.true in
    not_written c.args.digits.now bytes (any_in_part c.args.digits.now c.parts.place (c.parts.place + 2 * (c.min-count.result / 2)) part) are e

pub parts-preserved : goal.parts-preserved
parts-preserved c =
    let inv = c.parts.invariant in
    let n : ℕ = c.min-count.result / 2 in
    let fits : c.parts.place + 2 * n ≤ length c.args.digits.now = search rules in
    let read = c.decode_block.ensures.read c.if-not-decode_block.false in (
      block_read c.args.digits.now c.parts.bytes.items c.decode_block.new.block c.parts.place n fits inv.0 read
          ∙ ap encode_lower (sym c.in_ok-extend_from_slice.ensures.items),
      fits,
      omega (arith, inv.2),
      search rules,
      bytes_more c.parts.bytes.items c.decode_block.new.block c.extend_from_slice.new.self.items n inv.4 c.decode_block.ensures.bytes c.in_ok-extend_from_slice.ensures.items,
    )
