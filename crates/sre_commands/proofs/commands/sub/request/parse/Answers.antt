use Rattle.std.proofs.Common.{◌≡◌, sym, Ok, Err, Result, IfOk, List, ℕ}
use Rattle.sre_commands.specs.declared.error.ParseError.{ParseError}
use Rattle.sre_commands.specs.declared.error.ParseError.TheVariants.{NoMemory, NoRequest}
use Rattle.sre_commands.specs.declared.commands.sub.request.Substitution.{Substitution}
use Rattle.sre_commands.specs.Error.{Meets}
use Rattle.sre_commands.specs.Commands.Sub.Request.{Request, IsRequest, text_of, request_of}
use Rattle.sre_commands.specs.Commands.Sub.Reader.{read_request, result_as}
use Rattle.sre_commands.proofs.SoundLemmas.{request_is}
use Rattle.sre_commands.proofs.AgainLemmas.{request_again}
use Rattle.sre_commands.proofs.commands.sub.request.parse.Goals as goal

is_spelled : (bytes : List ℕ) (r : Result Substitution ParseError) → Meets (read_request bytes) (result_as request_of r) → IfOk r (λ a. bytes ≡ text_of (request_of a))
is_spelled bytes (Ok a) m = (request_is bytes (request_of a) (sym m)).1
is_spelled bytes (Err e) m = tt

is_request : (bytes : List ℕ) (r : Result Substitution ParseError) → Meets (read_request bytes) (result_as request_of r) → IfOk r (λ a. IsRequest (request_of a))
is_request bytes (Ok a) m = (request_is bytes (request_of a) (sym m)).0
is_request bytes (Err e) m = tt

is_none : (bytes : List ℕ) (r : Result Substitution ParseError) → Meets (read_request bytes) (result_as request_of r) → r ≡ Err NoRequest → (q : Request) → IsRequest q → bytes ≡ text_of q → ⊥
is_none bytes (Ok a) m e q h is = cc e
is_none bytes (Err NoMemory) m e q h is = cc e
is_none bytes (Err NoRequest) m e q h is = let again = request_again bytes q h is in cc (m, again)

pub returns-clause-spelled : goal.returns-clause-spelled
returns-clause-spelled c = is_spelled c.args.bytes.now c.read_request.result c.read_request.ensures

pub returns-clause-request : goal.returns-clause-request
returns-clause-request c = is_request c.args.bytes.now c.read_request.result c.read_request.ensures

pub returns-clause-no_request : goal.returns-clause-no_request
returns-clause-no_request c = is_none c.args.bytes.now c.read_request.result c.read_request.ensures
