use Rattle.std.proofs.Common.{rules, ◌≡◌, ◌∙◌, ap, length, chars, string_bytes}
use Rattle.std.proofs.lemmas.Str.{IsUtf8-from_ascii}
use Rattle.py_text.proofs.PointLemmas.{is_ascii, chars_ascii, ascii_marked}
use Rattle.py_text.proofs.text.PyStr.new_ascii_unchecked.Goals as goal

pub from_utf8_unchecked-text-requires : goal.from_utf8_unchecked-text-requires
from_utf8_unchecked-text-requires c = IsUtf8-from_ascii c.args.bytes.items (is_ascii c.args.bytes.items c.requires)

pub invariant_of-result : goal.invariant_of-result
invariant_of-result c =
    let e : string_bytes c.from_utf8_unchecked-text.result ≡ c.args.bytes.items = search rules in
    let n : c.len-count.result ≡ length c.args.bytes.items = search rules in
    ascii_marked (string_bytes c.from_utf8_unchecked-text.result) c.args.bytes.items c.len-count.result e c.requires n

pub returns : goal.returns
returns c =
    let e : string_bytes c.from_utf8_unchecked-text.result ≡ c.args.bytes.items = search rules in
    ap chars e ∙ chars_ascii c.args.bytes.items c.requires
