use Rattle.std.proofs.Common.{chars}
use Rattle.py_text.proofs.WindowLemmas.{is_window}
use Rattle.py_text.proofs.EndLemmas.{prefix_is, window_begins}
use Rattle.py_text.proofs.text.PyStr.startswith.Goals as goal

pub returns-in-Some : goal.returns-in-Some
returns-in-Some c =
    let w = is_window c.args.self.now (chars c.between.result.now) c.args.start c.args.end c.len.result c.in-Some.from c.in-Some.to c.len.ensures c.in-Some.ensures c.between.ensures.part in
    window_begins c.args.affix.now (chars c.as_str.result.now) _ _ _ _ _ _ c.starts_with.result w c.as_str.ensures.value (prefix_is _ _ _ c.as_str.utf8 c.between.utf8 c.starts_with.ensures.cases)
