use Rattle.std.proofs.Common.{Err, ap}
use Rattle.std.proofs.lemmas.Result.{err_from_is_err_and}
use Rattle.sre_commands.proofs.ReaderLemmas.{text_read, no_text}
use Rattle.sre_commands.proofs.tokens.text.read_text.Goals as goal

pub returns-in_err-text : goal.returns-in_err-text
returns-in_err-text c =
    let p = err_from_is_err_and c.from_residual.result c.from_residual.ensures.1 in
    rw (p.1, p.2) (no_text c.args.bytes.now _ _ c.in_err-text.field-0.0 c.read_token.ensures (λ e. c.in_err-text.ensures.no_request (ap Err e)))

pub returns : goal.returns
returns c = text_read c.args.bytes.now _ _ c.in_ok-text.text c.read_token.ensures c.in_ok-text.ensures.scalars c.in_ok-text.ensures.found
