use Rattle.std.proofs.Common.{rules, refl, arith, ℕ, ◌+◌, ◌≤◌, length}
use Rattle.sre_commands.proofs.EncodeLemmas.{no_digits, block_appended}
use Rattle.sre_commands.proofs.tokens.hexadecimal.append_digits.Goals as goal

pub parts-init : goal.parts-init
parts-init c = (no_digits c.args.line.now.items, omega arith, refl)

pub parts-preserved : goal.parts-preserved
parts-preserved c =
    let inv = c.parts.invariant in
    let fits : c.parts.place + c.min-count.result ≤ length c.args.bytes.now = search rules in
    (block_appended c.parts.line.items c.args.line.now.items c.args.bytes.now c.encode_block.new.block c.extend_from_slice.new.self.items c.parts.place c.min-count.result fits inv.0 c.encode_block.ensures c.in_ok-extend_from_slice.ensures.items, fits, search rules)
