use Rattle.std.proofs.Common.{refl}
use Rattle.py_str.specs.Quote.{plain_of}
use Rattle.py_str.proofs.QuoteLemmas.{quoted_is}
use Rattle.py_str.proofs.quote.quoted.Goals as goal

pub returns-clause-ok : goal.returns-clause-ok
returns-clause-ok c =
    quoted_is (plain_of c.args.ascii) _ _ c.in_ok-out.out _ _ _ _ _ c.in_ok-out.ensures.ok c.in_ok-append_char.ensures.ok c.in_ok-push_chars.ensures.ok c.in_ok-append_char-2.ensures.ok c.text_quote-quote.ensures c.as_str-chars.ensures.value refl
