use Rattle.std.proofs.Common.{◌∙◌, ap, sym}
use Rattle.re_tree.specs.PlainText.{counted}
use Rattle.re_tree.specs.TextView.{texts_of}
use Rattle.re_tree.specs.Machine.{snoc}
use Rattle.re_parse.proofs.BranchLemmas.{counted_push, counted_none}
use Rattle.re_parse.proofs.branches.count_last_part.Goals as goal

pub returns-then-not-is_countable : goal.returns-then-not-is_countable
returns-then-not-is_countable c =
    let count = c.args.count.now in
    counted_none (counted count.at count.least count.most count.mode) c.args.parts.items c.pop.new.self.items c.in-Some.last c.in-Some.ensures.items (sym c.if-not-is_countable.ensures)

pub returns : goal.returns
returns c =
    let count = c.args.count.now in
    counted_push (counted count.at count.least count.most count.mode) c.args.parts.items c.pop.new.self.items c.in_ok-push.field-0.items c.in-Some.last
    c.in-Some.ensures.items (sym c.if-not-is_countable.ensures)
    (c.in_ok-push.ensures ∙ ap (snoc (texts_of c.pop.new.self.items)) c.in_ok-counted_part.ensures)
