use Rattle.std.proofs.Common.{rules, ◌≡◌, ◌∙◌, ◌+◌, ◌<◌, ◌^◌, ◌++◌, ap, sym, List, ℕ, length, chars, string_bytes}
use Rattle.std.proofs.lemmas.Str.{chars-append, IsUtf8-string_bytes}
use Rattle.py_text.proofs.PointLemmas.{appended_count, points_at_most}
use Rattle.py_text.proofs.text.PyStr.add_counted.Goals as goal

pub overflow_add-len : goal.overflow_add-len
overflow_add-len c =
    let e : string_bytes c.push_str-2.new.self ≡ c.as_str.result.now ++ c.args.other.now = search rules in
    let n : c.len.result + c.args.count ≡ length (chars (string_bytes c.push_str-2.new.self)) =
    appended_count c.as_str.result.now c.args.other.now (string_bytes c.push_str-2.new.self) c.len.result c.args.count c.as_str.utf8 e (c.len.ensures ∙ ap length (sym c.as_str.ensures.value)) c.requires in
    let f : length (string_bytes c.push_str-2.new.self) < 2 ^ 64 = search rules in
    rw n (search (rules, points_at_most (string_bytes c.push_str-2.new.self) (IsUtf8-string_bytes c.push_str-2.new.self), f))

pub with_count-requires : goal.with_count-requires
with_count-requires c =
    let e : string_bytes c.push_str-2.new.self ≡ c.as_str.result.now ++ c.args.other.now = search rules in
    appended_count c.as_str.result.now c.args.other.now (string_bytes c.push_str-2.new.self) c.len.result c.args.count c.as_str.utf8 e (c.len.ensures ∙ ap length (sym c.as_str.ensures.value)) c.requires

pub returns-clause-ok : goal.returns-clause-ok
returns-clause-ok c =
    let e : string_bytes c.push_str-2.new.self ≡ c.as_str.result.now ++ c.args.other.now = search rules in
    c.with_count.ensures ∙ ap chars e ∙ chars-append _ _ c.as_str.utf8 ∙ ap (λ (l : List ℕ). l ++ chars c.args.other.now) c.as_str.ensures.value
