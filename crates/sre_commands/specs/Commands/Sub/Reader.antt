-- How a request is read.
use Rattle.std.specs.Prelude.{◌==◌, ℕ, suc, if◌then◌else◌, List, ◌++◌, codes, length, Result, Ok, Err}
use Rattle.sre_commands.specs.Commands.Sub.Filling.{Replacement}
use Rattle.py_base.specs.Reading.{◌and_then◌}
use Rattle.sre_commands.specs.Error.{Read, no_request}
use Rattle.sre_commands.specs.declared.error.ParseError.{ParseError}
use Rattle.sre_commands.specs.Tokens.Reader.{read_past}
use Rattle.sre_commands.specs.Tokens.Number.{read_number, read_words}
use Rattle.sre_commands.specs.Tokens.Text.{read_text}
use Rattle.sre_commands.specs.Commands.Sub.Template.{read_template}
use Rattle.sre_commands.specs.Commands.Sub.Request.{Request, PlainCode}

-- a line: a name, what is after it, and a line feed
abbrev pub read_line : {A : Type 0} → List ℕ → (List ℕ → Read A) → List ℕ → Read A
read_line name read bytes =
    read_past name bytes and_then λ _ rest.
    read rest and_then λ value rest.
    read_past (codes "\n") rest and_then λ _ rest.
    Ok (value, rest)

abbrev pub read_all_words : List ℕ → Read (List ℕ)
read_all_words bytes = read_words (suc (length bytes)) bytes

abbrev pub read_code : List ℕ → Read PlainCode
read_code bytes =
    read_line (codes "pattern ") read_text bytes and_then λ pattern rest.
    read_line (codes "code") read_all_words rest and_then λ words rest.
    read_line (codes "groups ") read_number rest and_then λ groups rest.
    Ok (record { pattern = pattern; words = words; groups = groups }, rest)

-- the lines of a request, and the rest
abbrev pub read_lines : List ℕ → Read Request
read_lines bytes =
    read_code bytes and_then λ code rest.
    read_line (codes "limit ") read_number rest and_then λ limit rest.
    read_line (codes "list") (read_template code.groups) rest and_then λ template rest.
    read_line (codes "subject ") read_text rest and_then λ subject rest.
    Ok (
      record {
        pattern = code.pattern;
        words = code.words;
        groups = code.groups;
        limit = limit;
        template = template;
        subject = subject;
      },
      rest,
    )

-- all of the bytes
abbrev pub whole : {A : Type 0} → Read A → Result A ParseError
whole (Ok r) = if length r.1 == 0 then Ok r.0 else no_request
whole (Err e) = Err e

abbrev pub read_request : List ℕ → Result Request ParseError
read_request bytes = whole (read_lines bytes)

-- what a call answers, its value seen through f
abbrev pub result_as : {A B : Type 0} → (A → B) → Result A ParseError → Result B ParseError
result_as f (Ok a) = Ok (f a)
result_as f (Err e) = Err e
