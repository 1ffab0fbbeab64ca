use Rattle.std.proofs.Common.{◌∙◌, ◌-◌, ap, arith, length}
use Rattle.py_str.specs.Tabs.{gap}
use Rattle.py_str.proofs.TabsLemmas.{tab_more, end_more}
use Rattle.py_str.proofs.tabs.push_stop.Goals as goal

pub returns-then-c-eq9-clause-ok : goal.returns-then-c-eq9-clause-ok
returns-then-c-eq9-clause-ok c = λ back.
    tab_more c.args.size c.args.begins c.gap.result c.args.c _ _ back c.if-c-eq9.true c.requires.bound (c.gap.ensures ∙ ap (λ n. gap c.args.size (n - c.args.begins)) c.len.ensures) c.in_ok-push_spaces.ensures.ok

pub returns-clause-ok : goal.returns-clause-ok
returns-clause-ok c = λ back. end_more c.args.size c.args.begins _ c.args.c _ _ back c.requires.stop c.if-c-eq9.false c.in_ok-append_char.ensures.ok c.len-2.ensures
