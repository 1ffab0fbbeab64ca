use Rattle.std.proofs.Common.{rules, ◌∙◌, ap, chars, string_bytes, ◌++◌}
use Rattle.std.specs.Char.{encode_utf8}
use Rattle.std.proofs.lemmas.Str.{IsUtf8-string_bytes}
use Rattle.py_text.proofs.PointLemmas.{appended, one_scalar}
use Rattle.re_parse.proofs.reading.names.push.Goals as goal

pub returns : goal.returns
returns c =
    appended (string_bytes c.args.text.now) (encode_utf8 c.args.c) (string_bytes c.push.new.self) (IsUtf8-string_bytes c.args.text.now) c.in_ok-push.ensures.bytes
    ∙ ap (λ l. chars (string_bytes c.args.text.now) ++ l) (one_scalar c.args.c (search rules))
