-- Neither a space nor a line feed is in the token of a text.
use Rattle.std.proofs.Common.{◌≢◌, ℕ, ◌<◌, List, arith, encode_utf8_all}
use Rattle.std.proofs.lemmas.List.Elements.{All-cons}
use Rattle.hex.specs.Hex.{encode_lower}
use Rattle.sre_commands.specs.Tokens.Text.{token}
use Rattle.sre_commands.proofs.LacksLemmas.{Lacks}
use Rattle.sre_commands.proofs.HexadecimalLemmas.{lacks_lower}

pub lacks_token : (byte : ℕ) (text : List ℕ) → 0 < byte → byte < 48 → Lacks byte (token text)
lacks_token byte text some below = All-cons (λ b. b ≢ byte) 116 (encode_lower (encode_utf8_all text)) (omega arith) (lacks_lower byte some below (encode_utf8_all text))
