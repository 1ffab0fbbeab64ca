use Rattle.std.proofs.Common.{string_bytes}
use Rattle.std.proofs.lemmas.Str.{IsUtf8-string_bytes}
use Rattle.py_text.proofs.PointLemmas.{marked_by}
use Rattle.py_text.proofs.text.PyStr.with_count.Goals as goal

pub invariant_of-result : goal.invariant_of-result
invariant_of-result c =
    let b = string_bytes c.args.text in
    record { marked = rw (c.requires, c.as_str.ensures.value) (marked_by b (IsUtf8-string_bytes c.args.text)); counted = c.requires }
