use Rattle.std.proofs.Common.{◌≡◌, ◌*◌, ◌++◌, take, drop, length}
use Rattle.hex.specs.Hex.{encode_lower}
use Rattle.sre_commands.proofs.tokens.hexadecimal.encode_block.Given as goal

abbrev pub invariant-bytes : goal.invariant-bytes
invariant-bytes l =
    (take (2 * l.i) l.block ++ encode_lower (drop l.i l.bytes) ≡ encode_lower l.bytes) × (length l.block ≡ 256)
