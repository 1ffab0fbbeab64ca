use Rattle.std.proofs.Common.{◌≡◌, ◌<◌, ◌≤◌, rules, arith, length, get_or}
use Rattle.py_str.proofs.PassingLemmas.{passed_none}
use Rattle.py_value.proofs.AsciiLemmas.{passed_byte}
use Rattle.py_value.proofs.printing.escapes.kept.Goals as goal

pub bytes-init : goal.bytes-init
bytes-init c = passed_none _ _ c.utf8.text

pub bytes-preserved : goal.bytes-preserved
bytes-preserved c =
    let l : c.bytes.at < length c.as_bytes-bytes.result.now = search rules in
    let le : get_or c.as_bytes-bytes.result.now c.bytes.at 0 ≤ 126 = omega arith in
    passed_byte c.args.text.now c.as_bytes-bytes.result.now c.bytes.at c.as_bytes-bytes.ensures.value l le c.bytes.invariant
