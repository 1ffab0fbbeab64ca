use Rattle.std.proofs.Common.{◌≡◌, ◌∙◌, ◌++◌, ap, sym, append-nil, append_assoc, arith, rules, get_or, take}
use Rattle.py_base.specs.Chars.Quoting.{is_plain_byte, quoted_char, quoted_chars}
use Rattle.py_str.proofs.QuoteLemmas.{quoted_more}
use Rattle.py_str.proofs.quote.push_bytes.Goals as goal

pub bytes-init : goal.bytes-init
bytes-init c = sym (append-nil c.args.out.now)

pub bytes-preserved : goal.bytes-preserved
bytes-preserved c =
    let b = get_or c.args.bytes.now c.bytes.byte-index 0 in
    let e : c.push_quoted.new.out ≡ c.bytes.out ++ quoted_char c.args.quote (is_plain_byte (get_or c.args.bytes.now c.bytes.byte-index 0)) (get_or c.args.bytes.now c.bytes.byte-index 0) = search rules in
    e ∙ ap (λ l. l ++ quoted_char c.args.quote (is_plain_byte b) b) c.bytes.invariant
    ∙ append_assoc c.args.out.now (quoted_chars c.args.quote is_plain_byte (take c.bytes.byte-index c.args.bytes.now)) (quoted_char c.args.quote (is_plain_byte b) b)
    ∙ ap (λ l. c.args.out.now ++ l) (quoted_more c.args.quote is_plain_byte c.args.bytes.now c.bytes.byte-index (omega arith))
