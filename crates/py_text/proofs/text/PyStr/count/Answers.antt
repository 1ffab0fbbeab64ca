use Rattle.std.proofs.Common.{◌<◌, chars, length, sym, ◌∙◌, eqb-true}
use Rattle.std.proofs.lemmas.List.{nil_from_length}
use Rattle.py_text.specs.Window.{window_start, window_end}
use Rattle.py_text.proofs.WindowLemmas.{is_window}
use Rattle.py_text.proofs.OccurrenceLemmas.{window_count, window_count_empty, window_count_none}
use Rattle.py_text.proofs.text.PyStr.count.Goals as goal

pub returns-then-is_empty : goal.returns-then-is_empty
returns-then-is_empty c =
    let w = is_window c.args.self.now (chars c.between-part.result.now) c.args.args.now.start c.args.args.now.end c.len.result c.in-Some.from c.in-Some.to c.len.ensures c.in-Some.ensures c.between-part.ensures.part in
    window_count_empty c.args.args.now.sub _ _ _ _ _ _ w (nil_from_length c.args.args.now.sub (eqb-true (length c.args.args.now.sub) 0 (sym c.is_empty.ensures ∙ c.if-is_empty.true)))

pub returns-else-is_empty : goal.returns-else-is_empty
returns-else-is_empty c =
    let w = is_window c.args.self.now (chars c.between-part.result.now) c.args.args.now.start c.args.args.now.end c.len.result c.in-Some.from c.in-Some.to c.len.ensures c.in-Some.ensures c.between-part.ensures.part in
    window_count c.args.args.now.sub (chars c.as_str.result.now) _ _ _ _ _ _ c.parts_in.result w c.as_str.ensures.value c.parts_in.ensures

pub returns-in-None : goal.returns-in-None
returns-in-None c =
    let closed : window_end (length c.args.self.now) c.args.args.now.end < window_start (length c.args.self.now) c.args.args.now.start = rw c.len.ensures at c.in-None.ensures in
    window_count_none c.args.args.now.sub c.args.self.now c.args.args.now.start c.args.args.now.end closed
