-- Laws of requests.
use Rattle.std.specs.Prelude.{◌≡◌, ◌↔◌, ℕ, List, [], ◌++◌, Ok}
use Rattle.sre_commands.specs.Commands.Sub.Request.{Request, IsRequest, text_of}
use Rattle.sre_commands.specs.Commands.Sub.Reader.{read_request}

-- different requests have different texts
abbrev pub OneRequestForOneText : Type 0
OneRequestForOneText = (r q : Request) → IsRequest r → IsRequest q → text_of r ≡ text_of q → r ≡ q

-- no text of a request is a proper prefix of another
abbrev pub NoTextBeginsAnother : Type 0
NoTextBeginsAnother =
    (r q : Request) (more : List ℕ) → IsRequest r → IsRequest q
    → text_of r ++ more ≡ text_of q → more ≡ []

-- the reader of the definitions gives a request exactly for its text
abbrev pub ReadingIsTheText : Type 0
ReadingIsTheText =
    (bytes : List ℕ) (r : Request)
    → (read_request bytes ≡ Ok r) ↔ (IsRequest r × (bytes ≡ text_of r))
