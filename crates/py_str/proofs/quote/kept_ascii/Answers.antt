use Rattle.std.proofs.Common.{◌≡◌, ◌∙◌, ◌<◌, ◌&&◌, rules, arith, sym, ap, length, get_or}
use Rattle.py_base.specs.Chars.Classes.{between}
use Rattle.py_str.specs.Quote.{is_kept}
use Rattle.py_str.proofs.PassingLemmas.{passed_none}
use Rattle.py_str.proofs.KeptLemmas.{kept_more}
use Rattle.py_str.proofs.quote.kept_ascii.Goals as goal

pub bytes-init : goal.bytes-init
bytes-init c = λ ascii. passed_none _ _ c.utf8.text

pub bytes-preserved : goal.bytes-preserved
bytes-preserved c = λ ascii.
    let l : c.bytes.at < length c.as_bytes-bytes.result.now = search rules in
    kept_more c.args.quote ascii c.args.text.now c.as_bytes-bytes.result.now c.bytes.at (get_or c.as_bytes-bytes.result.now c.bytes.at 0) c.as_bytes-bytes.ensures.value l (λ _. get_or c.as_bytes-bytes.result.now c.bytes.at 0)
    (sym c.is_kept_byte.ensures ∙ c.if-not-is_kept_byte.false) (c.bytes.invariant ascii)
