-- A request of substitution, and its text.
use Rattle.std.specs.Prelude.{◌≡◌, ℕ, ◌<◌, ◌^◌, List, ◌++◌, All, codes, true}
use Rattle.std.specs.Fmt.{decimal}
use Rattle.std.specs.Str.{all_scalars}
use Rattle.sre_commands.specs.Commands.Sub.Filling.{Replacement}
use Rattle.sre_commands.specs.Tokens.Number.{numbers}
use Rattle.sre_commands.specs.Tokens.Text.{token}
use Rattle.sre_commands.specs.Commands.Sub.Template.{IsTemplate, template_tokens, replacement_of}
use Rattle.sre_commands.specs.declared.commands.sub.reader.Code.{Code}
use Rattle.sre_commands.specs.declared.commands.sub.request.Substitution.{Substitution}

-- a pattern, the code words that it was compiled to, how many groups it has, how many spans are
-- replaced at most (0 is no limit), the template that is filled for each, and the subject; texts
-- are lists of code points
pub record Request : Type 0 where
  pub pattern : List ℕ
  pub words : List ℕ
  pub groups : ℕ
  pub limit : ℕ
  pub template : Replacement
  pub subject : List ℕ

-- what may be in a request
pub record IsRequest (r : Request) : Type 0 where
  pub pattern : all_scalars r.pattern ≡ true
  pub words : All (λ w. w < 2 ^ 32) r.words
  pub groups : r.groups < 2 ^ 64
  pub limit : r.limit < 2 ^ 64
  pub template : IsTemplate r.groups r.template
  pub subject : all_scalars r.subject ≡ true

-- a line: a name, and what is after it
abbrev pub line : List ℕ → List ℕ → List ℕ
line name rest = name ++ (rest ++ codes "\n")

-- the lines of a request, in order
abbrev pub text_of : Request → List ℕ
text_of r =
    line (codes "pattern ") (token r.pattern)
    ++ (line (codes "code") (numbers r.words)
    ++ (line (codes "groups ") (decimal r.groups)
    ++ (line (codes "limit ") (decimal r.limit)
    ++ (line (codes "list") (template_tokens r.template)
    ++ line (codes "subject ") (token r.subject)))))

-- the request that a value in memory is
abbrev pub request_of : Substitution → Request
request_of a = record {
  pattern = a.pattern;
  words = a.words.items;
  groups = a.groups;
  limit = a.limit;
  template = replacement_of a.template;
  subject = a.subject;
}

-- the lines of the code: the pattern, the code words, and how many groups it has
pub record PlainCode : Type 0 where
  pub pattern : List ℕ
  pub words : List ℕ
  pub groups : ℕ

abbrev pub code_of : Code → PlainCode
code_of c = record { pattern = c.pattern; words = c.words.items; groups = c.groups }
