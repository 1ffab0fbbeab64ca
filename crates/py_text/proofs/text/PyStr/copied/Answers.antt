use Rattle.std.proofs.Common.{rules, ◌≡◌, ◌∙◌, ◌<◌, ◌^◌, ◌+◌, [], ap, sym, length, chars, string_bytes}
use Rattle.std.proofs.lemmas.Str.{IsUtf8-string_bytes, chars-nil}
use Rattle.py_text.proofs.PointLemmas.{appended_count, points_at_most}
use Rattle.py_text.proofs.SumLemmas.{copies_pushed}
use Rattle.py_text.proofs.text.PyStr.copied.Goals as goal

pub loop-n-init : goal.loop-n-init
loop-n-init c =
    let e : string_bytes c.in_ok-text.text ≡ [] = search rules in
    record { text = ap chars e ∙ chars-nil; count = sym (ap length (ap chars e ∙ chars-nil)) }

pub overflow_add-points : goal.overflow_add-points
overflow_add-points c =
    let e : c.loop-n.points + c.len-points.result ≡ length (chars (string_bytes c.push_str.new.self)) =
    appended_count (string_bytes c.loop-n.text) c.as_str.result.now (string_bytes c.push_str.new.self) c.loop-n.points c.len-points.result (IsUtf8-string_bytes c.loop-n.text) c.in_ok-push_str.ensures.bytes c.loop-n.invariant.count (c.len-points.ensures ∙ ap length (sym c.as_str.ensures.value)) in
    let f : length (string_bytes c.push_str.new.self) < 2 ^ 64 = search rules in
    rw e (search (rules, points_at_most (string_bytes c.push_str.new.self) (IsUtf8-string_bytes c.push_str.new.self), f))

pub loop-n-preserved : goal.loop-n-preserved
loop-n-preserved c = record {
  text = copies_pushed c.loop-n._n c.args.self.now (string_bytes c.loop-n.text) c.as_str.result.now (string_bytes c.push_str.new.self) (IsUtf8-string_bytes c.loop-n.text) c.in_ok-push_str.ensures.bytes c.as_str.ensures.value c.loop-n.invariant.text;
  count = appended_count (string_bytes c.loop-n.text) c.as_str.result.now (string_bytes c.push_str.new.self) c.loop-n.points c.len-points.result (IsUtf8-string_bytes c.loop-n.text) c.in_ok-push_str.ensures.bytes c.loop-n.invariant.count (c.len-points.ensures ∙ ap length (sym c.as_str.ensures.value));
}

pub with_count-requires : goal.with_count-requires
with_count-requires c = c.loop-n.invariant.count
