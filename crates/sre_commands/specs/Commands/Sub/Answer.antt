-- The answer to a request.
use Rattle.std.specs.Prelude.{ℕ, ◌==◌, nat_le, not, ◌&&◌, Bool, if◌then◌else◌, codes, List, ◌++◌, length, Option, None, encode_utf8_all}
use Rattle.std.specs.Fmt.{decimal}
use Rattle.hex.specs.Hex.{encode_lower}
use Rattle.sre_code.specs.PlainTree.{PlainTree}
use Rattle.sre_match.specs.Matches.{Span, spans}
use Rattle.sre_commands.specs.Commands.Sub.Filling.{result_of}
use Rattle.sre_commands.specs.Commands.Sub.Request.{Request}

-- the spans that are replaced
abbrev pub spans_of_request : Request → PlainTree → List Span
spans_of_request r t = spans t r.subject 0 r.limit

-- the line of a text's bytes in UTF-8 and a count: `t`, the bytes in lower-case hexadecimal, a
-- space, the count in decimal, and a line's end
abbrev pub line_of : List ℕ → ℕ → List ℕ
line_of bytes count =
    codes "t" ++ (encode_lower bytes ++ (codes " " ++ (decimal count ++ codes "\n")))

-- the line of the subject with its spans replaced, and how many there were
abbrev pub answer_of : Request → PlainTree → List ℕ
answer_of r t =
    line_of (encode_utf8_all (result_of r.subject (spans_of_request r t) r.template))
    (length (spans_of_request r t))

-- the line that says that the code words spell no tree
abbrev pub invalid_code_line : List ℕ
invalid_code_line = codes "error invalid_code\n"

-- a limit other than 0 is reached
abbrev pub is_reached : ℕ → ℕ → Bool
is_reached limit count = not (limit == 0) && nat_le limit count

-- the next span, up to the limit
abbrev pub up_to : ℕ → ℕ → Option Span → Option Span
up_to limit count next = if is_reached limit count then None else next
