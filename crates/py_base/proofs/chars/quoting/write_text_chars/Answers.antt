use Rattle.std.proofs.Common.{◌++◌, encode_utf8_all, rules}
use Rattle.std.proofs.Output.{has_written_append, has_written_of_eq}
use Rattle.std.proofs.lemmas.Str.{IsUtf8-past_char}
use Rattle.std.specs.Str.Iter.{chars_rest}
use Rattle.py_base.specs.Chars.Classes.{is_printable}
use Rattle.py_base.specs.Chars.Quoting.{quoted_char}
use Rattle.py_base.proofs.Quotes.{quoted_on, quoted_end}
use Rattle.py_base.proofs.chars.quoting.write_text_chars.Goals as goal

pub chars-preserved : goal.chars-preserved
chars-preserved g c =
    let (utf8, written) = c.chars.invariant in
    let ch = c.in-Some.c in
    let front = c.in-Some.ensures.steps.0 in (
      IsUtf8-past_char _ _ ch utf8 front,
      λ plain.
          let sofar = written plain in (
            sofar.0 ++ encode_utf8_all (quoted_char c.args.quote (is_printable ch) ch),
            has_written_append _ _ _ _ _ _ sofar.1 (search rules),
            quoted_on c.args.quote is_printable ch _ _ sofar.0 _ utf8 front sofar.2,
          ),
    )

pub returns : goal.returns
returns g c = λ plain _.
    let sofar = c.chars.invariant.1 plain in
    let none = (rw c.in_default.is at c.next.ensures.steps.0).0 in
    has_written_of_eq _ _ _ _ _ (quoted_end c.args.quote is_printable (chars_rest c.chars.rest) sofar.0 _ none sofar.2) sofar.1
