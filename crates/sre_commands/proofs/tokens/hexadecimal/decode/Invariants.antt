use Rattle.std.proofs.Common.{◌≡◌, ◌≤◌, ◌-◌, ◌%◌, take, length}
use Rattle.hex.specs.Hex.{encode_lower, IsBytes}
use Rattle.sre_commands.proofs.tokens.hexadecimal.decode.Given as goal

abbrev pub invariant-parts : goal.invariant-parts
invariant-parts l =
    (take l.place l.digits ≡ encode_lower l.bytes.items) × (l.place ≤ length l.digits) × (l.place % 2 ≡ 0) × (length l.block ≡ 128) × IsBytes l.bytes.items

abbrev pub decreases-parts : goal.decreases-parts
decreases-parts l = length l.digits - l.place
