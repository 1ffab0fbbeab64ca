use Rattle.std.proofs.Common.{◌∙◌, ◌<◌, ◌^◌, length, arith, rules, ap, sym, encode_utf8_all}
use Rattle.std.specs.Str.Iter.{chars_rest}
use Rattle.py_text.proofs.PointLemmas.{bytes_at_least}
use Rattle.py_text.proofs.CursorLemmas.{cursor_on, item_at_cursor, inside_cursor}
use Rattle.py_text.proofs.iterator.Cursor.next.Goals as goal

pub overflow_add-self-2 : goal.overflow_add-self-2
overflow_add-self-2 c =
    let bytes = c.as_str.ensures.bytes ∙ ap encode_utf8_all c.as_pystr.ensures in
    let inside = inside_cursor c.self.inside.text c.as_str.result.now c.range_from-rest.result.now (chars_rest c.next.new.self) c.self.inside.place c.self.inside.offset c.in_ok-c.c c.self.invariant bytes c.range_from-rest.ensures.value c.range_from-rest.utf8 (sym c.chars.ensures.rest ∙ c.in_ok-c.ensures.steps.0) in
    let few : length c.as_str.result.now < 2 ^ 64 = search rules in
    omega (arith, bytes_at_least c.self.inside.text, ap length bytes)

pub invariant_of-self : goal.invariant_of-self
invariant_of-self c =
    let bytes = c.as_str.ensures.bytes ∙ ap encode_utf8_all c.as_pystr.ensures in
    rw c.len_utf8.ensures.value (cursor_on c.self.inside.text c.as_str.result.now c.range_from-rest.result.now (chars_rest c.next.new.self) c.self.inside.place c.self.inside.offset c.in_ok-c.c c.self.invariant bytes c.range_from-rest.ensures.value c.range_from-rest.utf8 (sym c.chars.ensures.rest ∙ c.in_ok-c.ensures.steps.0))

pub returns-clause-item : goal.returns-clause-item
returns-clause-item c =
    let bytes = c.as_str.ensures.bytes ∙ ap encode_utf8_all c.as_pystr.ensures in
    sym (rw (← c.self.view_is) (item_at_cursor c.self.inside.text c.as_str.result.now c.range_from-rest.result.now (chars_rest c.next.new.self) c.self.inside.place c.self.inside.offset c.in_ok-c.c c.self.invariant bytes c.range_from-rest.ensures.value c.range_from-rest.utf8 (sym c.chars.ensures.rest ∙ c.in_ok-c.ensures.steps.0)))
