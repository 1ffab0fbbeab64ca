use Rattle.std.proofs.Common.{rules, ◌≡◌, ◌+◌, ◌<◌, ◌^◌, length, chars, string_bytes}
use Rattle.std.proofs.lemmas.Str.{IsUtf8-string_bytes}
use Rattle.py_text.proofs.PointLemmas.{appended, appended_count, marked_by, points_at_most}
use Rattle.py_text.proofs.text.PyStr.append_counted.Goals as goal

pub overflow_add-self : goal.overflow_add-self
overflow_add-self c =
    let e : c.self.inside.count + c.args.count ≡ length (chars (string_bytes c.push_str.new.self)) =
    appended_count (string_bytes c.self.inside.text) c.args.more.now (string_bytes c.push_str.new.self) c.self.inside.count c.args.count (IsUtf8-string_bytes c.self.inside.text) c.in-Ok.ensures.bytes c.self.invariant.counted c.requires in
    let f : length (string_bytes c.push_str.new.self) < 2 ^ 64 = search rules in
    rw e (search (rules, points_at_most (string_bytes c.push_str.new.self) (IsUtf8-string_bytes c.push_str.new.self), f))

pub invariant_of-self-2 : goal.invariant_of-self-2
invariant_of-self-2 c =
    let e : c.self.inside.count + c.args.count ≡ length (chars (string_bytes c.push_str.new.self)) =
    appended_count (string_bytes c.self.inside.text) c.args.more.now (string_bytes c.push_str.new.self) c.self.inside.count c.args.count (IsUtf8-string_bytes c.self.inside.text) c.in-Ok.ensures.bytes c.self.invariant.counted c.requires in
    record { marked = rw (e, c.as_str.ensures.value) (marked_by (string_bytes c.push_str.new.self) (IsUtf8-string_bytes c.push_str.new.self)); counted = e }

pub returns-clause-ok : goal.returns-clause-ok
returns-clause-ok c = rw (← c.self.view_is) (appended (string_bytes c.self.inside.text) c.args.more.now (string_bytes c.push_str.new.self) (IsUtf8-string_bytes c.self.inside.text) c.in-Ok.ensures.bytes)
