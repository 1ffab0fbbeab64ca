use Rattle.std.proofs.Common.{◌≡◌, ◌*◌, take, length, true, false}
use Rattle.std.specs.List.{list_any}
use Rattle.hex.specs.Hex.{encode_lower, IsBytes}
use Rattle.sre_commands.specs.Tokens.Hexadecimal.{is_no_digit}
use Rattle.sre_commands.proofs.tokens.hexadecimal.decode_block.Given as goal

abbrev pub invariant-pairs : goal.invariant-pairs
invariant-pairs l =
    (l.wrong ≡ false → take (2 * l.i) l.digits ≡ encode_lower (take l.i l.block)) × (l.wrong ≡ true → list_any is_no_digit l.digits ≡ true) × (length l.block ≡ 128) × IsBytes l.block
