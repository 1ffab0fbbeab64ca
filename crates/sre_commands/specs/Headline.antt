-- What an answered request means.
use Rattle.std.specs.Prelude.{ℕ, List}
use Rattle.sre_code.specs.PlainTree.{PlainTree}
use Rattle.sre_code.specs.Spelling.{Spells}
use Rattle.sre_commands.specs.Commands.Sub.Request.{Request, IsRequest, text_of}
use Rattle.sre_commands.specs.Commands.Sub.Answer.{answer_of}
use Rattle.sre_commands.specs.Streams.{Reading, Writing, ReadWhole, Wrote}

-- The source was read to its end as one request, and its code words spell one tree. What was
-- written is the request's answer by that tree: the subject with its spans replaced by the filled
-- replacement template, all else kept, and how many spans there were. Each span is at the least
-- place from the end of the one before that has an allowed outcome, and is the first allowed
-- outcome there, until none is left or a limit other than 0 is reached.
pub record IsAnswered (reading : Reading) (writing : Writing) : Type 0 where
  pub request : Request
  pub is_request : IsRequest request
  pub read : ReadWhole reading (text_of request)
  pub tree : PlainTree
  pub spells : Spells request.words request.groups tree
  pub written : Wrote writing (answer_of request tree)
