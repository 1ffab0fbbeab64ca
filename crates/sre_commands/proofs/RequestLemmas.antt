-- Different requests have different texts, since each text is read in one way.
use Rattle.std.proofs.Common.{◌≡◌, ℕ, List, [], ◌++◌, Result, Ok, sym, ap, ◌∙◌, codes, append_assoc, append-nil}
use Rattle.std.specs.Fmt.{decimal}
use Rattle.std.specs.Result.{result_unwrap_or}
use Rattle.sre_commands.specs.Error.{Read}
use Rattle.sre_commands.specs.Tokens.Number.{numbers}
use Rattle.sre_commands.specs.Tokens.Text.{token}
use Rattle.sre_commands.specs.Commands.Sub.Template.{template_tokens}
use Rattle.sre_commands.specs.Commands.Sub.Request.{Request, IsRequest, line, text_of}
use Rattle.sre_commands.specs.Commands.Sub.Reader.{read_lines}
use Rattle.sre_commands.proofs.SoundLemmas.{text_before, ended}
use Rattle.sre_commands.proofs.AgainLemmas.{some_lines}

-- the text, and more after it
before_is : (r : Request) (more : List ℕ) → text_of r ++ more ≡ text_before r more
before_is r more =
    let pattern = line (codes "pattern ") (token r.pattern) in
    let words = line (codes "code") (numbers r.words) in
    let groups = line (codes "groups ") (decimal r.groups) in
    let limit = line (codes "limit ") (decimal r.limit) in
    let template = line (codes "list") (template_tokens r.template) in
    let subject = line (codes "subject ") (token r.subject) in
    append_assoc pattern (words ++ (groups ++ (limit ++ (template ++ subject)))) more
    ∙ ap (λ (l : List ℕ). pattern ++ l) (append_assoc words (groups ++ (limit ++ (template ++ subject))) more
    ∙ ap (λ (l : List ℕ). words ++ l) (append_assoc groups (limit ++ (template ++ subject)) more
    ∙ ap (λ (l : List ℕ). groups ++ l) (append_assoc limit (template ++ subject) more
    ∙ ap (λ (l : List ℕ). limit ++ l) (append_assoc template subject more))))

-- the text of one, and more, is the text of the other: they are one, and there is no more
pub one_text : (r q : Request) (more : List ℕ) → IsRequest r → IsRequest q → text_of r ++ more ≡ text_of q → (r ≡ q) × (more ≡ [])
one_text r q more h k e =
    let first : read_lines (text_before r more) ≡ Ok (r, more) = (some_lines r more h).is in
    let other : read_lines (text_before q []) ≡ Ok (q, []) = (some_lines q [] k).is in
    let same : text_before r more ≡ text_before q [] = sym (before_is r more) ∙ e ∙ sym (ended q) in
    let one : Ok (r, more) ≡ Ok (q, []) = sym first ∙ ap read_lines same ∙ other in
    (ap (λ (o : Read Request). (result_unwrap_or o (r, more)).0) one, ap (λ (o : Read Request). (result_unwrap_or o (r, more)).1) one)

pub one_request : (r q : Request) → IsRequest r → IsRequest q → text_of r ≡ text_of q → r ≡ q
one_request r q h k e = (one_text r q [] h k (append-nil (text_of r) ∙ e)).0
