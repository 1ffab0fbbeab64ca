use Rattle.std.proofs.Common.{refl}
use Rattle.py_base.specs.Chars.Quoting.{is_plain_byte}
use Rattle.py_str.proofs.QuoteLemmas.{bytes_are}
use Rattle.py_str.proofs.quote.bytes_repr.Goals as goal

pub returns-clause-ok : goal.returns-clause-ok
returns-clause-ok c =
    bytes_are is_plain_byte _ _ c.in_ok-out.out _ _ _ _ _ _ c.in_ok-out.ensures.ok c.in_ok-append_char.ensures.ok c.in_ok-append_char-2.ensures.ok c.in_ok-push_bytes.ensures.ok c.in_ok-append_char-3.ensures.ok c.bytes_quote-quote.ensures c.as_bytes-whole.ensures refl
