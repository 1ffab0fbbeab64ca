use Rattle.std.proofs.Common.{rules, ◌<◌, ◌^◌, arith, length, string_bytes}
use Rattle.std.proofs.lemmas.Str.{IsUtf8-string_bytes}
use Rattle.py_text.proofs.PointLemmas.{points_at_most}
use Rattle.py_text.proofs.text.PyStr.place_count.Goals as goal

pub overflow_add-result : goal.overflow_add-result
overflow_add-result c =
    let small : length (string_bytes c.self.inside.text) < 2 ^ 63 = search rules in
    omega (arith, small, c.self.invariant.counted, points_at_most (string_bytes c.self.inside.text) (IsUtf8-string_bytes c.self.inside.text))
