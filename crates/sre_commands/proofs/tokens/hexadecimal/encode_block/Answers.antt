use Rattle.std.proofs.Common.{◌≡◌, ℕ, ◌+◌, ◌*◌, ◌++◌, take, slice_index, slice_set, refl, ap, ◌∙◌, arith}
use Rattle.std.proofs.lemmas.List.{length-set}
use Rattle.std.proofs.lemmas.Nat.{and_mask}
use Rattle.hex.specs.Hex.{lower_digits}
use Rattle.hex.proofs.Pairs.{encode_step}
use Rattle.sre_commands.proofs.EncodeLemmas.{block_done}
use Rattle.sre_commands.proofs.tokens.hexadecimal.encode_block.Goals as goal

pub bytes-init : goal.bytes-init
bytes-init c = (refl, c.told-block)

pub bytes-preserved : goal.bytes-preserved
bytes-preserved c =
    let byte : ℕ = slice_index c.args.bytes.now c.bytes.i in
    let len = c.bytes.invariant.1 in
    let step = encode_step lower_digits c.args.bytes.now c.bytes.block c.bytes.i _ _ (omega arith) (omega (arith, len)) c.digit_of.ensures
    (c.digit_of-in-bytes.ensures ∙ ap (λ (k : ℕ). slice_index lower_digits k) (and_mask byte 4)) c.bytes.invariant.0 in
    (step, length-set (slice_set c.bytes.block (2 * c.bytes.i) c.digit_of.result) (2 * c.bytes.i + 1) c.digit_of-in-bytes.result ∙ length-set c.bytes.block (2 * c.bytes.i) c.digit_of.result ∙ len)

pub returns : goal.returns
returns c = block_done c.args.bytes.now c.bytes.block c.bytes.i (omega arith) (omega arith) c.bytes.invariant.0
