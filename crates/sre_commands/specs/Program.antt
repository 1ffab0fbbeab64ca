-- Why a run ends as it does.
use Rattle.std.specs.Prelude.{◌≡◌, ◌≢◌, ℕ, ◌≤◌, codes, List, [], ◌∷◌, length, Option, Some, ◌⊎◌}
use Rattle.sre_code.specs.PlainTree.{PlainTree}
use Rattle.sre_code.specs.Spelling.{Spells, SpellsNothing}
use Rattle.sre_commands.specs.declared.ending.Ending.{Ending}
use Rattle.sre_commands.specs.declared.ending.Ending.TheVariants.{Answered, InvalidCode, NoCommand, NoRequest, SourceFailed, SinkFailed, NoMemory, TooLong}
use Rattle.sre_commands.specs.declared.program.Reply.{Reply}
use Rattle.sre_commands.specs.declared.program.Reply.TheVariants.{Answer, InvalidCode as InvalidCodeReply}
use Rattle.sre_commands.specs.Commands.Sub.Request.{Request, IsRequest, text_of}
use Rattle.sre_commands.specs.Commands.Sub.Answer.{answer_of, invalid_code_line}
use Rattle.sre_commands.specs.Streams.{Reading, Writing, ReadFailed, WriteFailed, ReadWhole, TookAtMost, TookMoreThan, Wrote, WroteLess}
use Rattle.sre_commands.specs.Headline.{IsAnswered}

-- the arguments are the one word of the command
abbrev pub IsSub : List (List ℕ) → Type 0
IsSub arguments = arguments ≡ codes "sub" ∷ []

-- the line is a request's answer by the tree that its code words spell
pub record Answers (r : Request) (line : List ℕ) : Type 0 where
  pub tree : PlainTree
  pub spells : Spells r.words r.groups tree
  pub line_is : line ≡ answer_of r tree

-- the line says that a request's code words spell no tree
pub record SaysInvalidCode (r : Request) (line : List ℕ) : Type 0 where
  pub none : SpellsNothing r.words r.groups
  pub line_is : line ≡ invalid_code_line

abbrev pub RepliesTo : Request → Reply → Type 0
RepliesTo r (Answer line) = Answers r line.items
RepliesTo r InvalidCodeReply = SpellsNothing r.words r.groups

-- The source was read to its end as one request whose code words spell no tree, and the line that
-- says so was written.
pub record IsInvalidCode (reading : Reading) (writing : Writing) : Type 0 where
  pub request : Request
  pub is_request : IsRequest request
  pub read : ReadWhole reading (text_of request)
  pub none : SpellsNothing request.words request.groups
  pub written : Wrote writing invalid_code_line

-- The source was read to its end, and its bytes are the text of no request.
pub record IsNoRequest (reading : Reading) : Type 0 where
  pub bytes : List ℕ
  pub read : ReadWhole reading bytes
  pub none : (r : Request) → IsRequest r → bytes ≢ text_of r

-- The source was read to its end as one request. The sink failed, and its line was written in part.
pub record IsCutShort (reading : Reading) (writing : Writing) : Type 0 where
  pub request : Request
  pub is_request : IsRequest request
  pub read : ReadWhole reading (text_of request)
  pub failed : WriteFailed writing
  pub line : List ℕ
  pub replies : Answers request line ⊎ SaysInvalidCode request line
  pub written : WroteLess writing line

-- why there is no request
abbrev pub EndsReading : Ending → ℕ → Reading → Type 0
EndsReading NoRequest most r = TookAtMost most r × IsNoRequest r
EndsReading SourceFailed most r = TookAtMost most r × ReadFailed r
EndsReading NoMemory most r = TookAtMost most r
EndsReading TooLong most r = TookMoreThan most r
EndsReading Answered most r = ⊥
EndsReading InvalidCode most r = ⊥
EndsReading NoCommand most r = ⊥
EndsReading SinkFailed most r = ⊥

-- what each ending means
abbrev pub Ends : Ending → List (List ℕ) → ℕ → Reading → Writing → Type 0
Ends Answered arguments most r w = IsSub arguments × TookAtMost most r × IsAnswered r w
Ends InvalidCode arguments most r w = IsSub arguments × TookAtMost most r × IsInvalidCode r w
Ends NoCommand arguments most r w = (IsSub arguments → ⊥) × TookAtMost most r
Ends NoRequest arguments most r w = IsSub arguments × TookAtMost most r × IsNoRequest r
Ends SourceFailed arguments most r w = IsSub arguments × TookAtMost most r × ReadFailed r
Ends SinkFailed arguments most r w = IsSub arguments × TookAtMost most r × IsCutShort r w
Ends NoMemory arguments most r w = IsSub arguments × TookAtMost most r
Ends TooLong arguments most r w = IsSub arguments × TookMoreThan most r

-- the arguments are those of the command, and these bytes are left
pub record Asks (arguments : List (List ℕ)) (left : Option (List ℕ)) (bytes : List ℕ) : Type 0 where
  pub command : IsSub arguments
  pub told : left ≡ Some bytes
