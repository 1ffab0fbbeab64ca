use Rattle.std.proofs.Common.{length, ◌-◌, ◌≡◌, ◌≤◌, ◌++◌, take}
use Rattle.hex.specs.Hex.{encode_lower}
use Rattle.sre_commands.proofs.tokens.hexadecimal.append_digits.Given as goal

abbrev pub invariant-parts : goal.invariant-parts
invariant-parts l =
    (l.line.items ≡ l.fn.line.items ++ encode_lower (take l.place l.bytes)) × (l.place ≤ length l.bytes) × (length l.block ≡ 256)

abbrev pub decreases-parts : goal.decreases-parts
decreases-parts l = length l.bytes - l.place
