use Rattle.std.proofs.Common.{◌≡◌, sym, ap, ◌∙◌, true, false}
use Rattle.std.specs.Prelude.{◌||◌, not}
use Rattle.re_tree.proofs.SetLemmas.{item_shorter}
use Rattle.re_parse.specs.TokenView.{rest_of}
use Rattle.re_parse.proofs.ItemLemmas.{ends, no_item, one_more, ended}
use Rattle.re_parse.proofs.reading.sets.items.Goals as goal

pub returns-in-None : goal.returns-in-None
returns-in-None c =
    let go : (c.turns.first || not (ends c.turns.rest.now)) ≡ true = cc (c.goes_on.ensures, c.turns-test.true) in
    no_item c.args.text.now c.args.ascii c.turns.items.items c.turns.first c.turns.rest.now go (sym c.item.ensures ∙ ap rest_of c.in-None.is) c.turns.invariant

pub turns-smaller : goal.turns-smaller
turns-smaller c = item_shorter c.args.ascii c.turns.first c.turns.rest.now c.in-Some.item c.in-Some.after.now (sym c.in-Some.ensures)

pub turns-preserved : goal.turns-preserved
turns-preserved c =
    let go : (c.turns.first || not (ends c.turns.rest.now)) ≡ true = cc (c.goes_on.ensures, c.turns-test.true) in
    rw c.in_ok-push-in-Some.ensures.items
    (one_more c.args.text.now c.args.ascii c.turns.items.items c.turns.first c.turns.rest.now c.in-Some.after.now c.in-Some.item
    (item_shorter c.args.ascii c.turns.first c.turns.rest.now c.in-Some.item c.in-Some.after.now (sym c.in-Some.ensures)) go (sym c.in-Some.ensures) c.turns.invariant)

pub returns : goal.returns
returns c =
    let stop : (c.turns.first || not (ends c.turns.rest.now)) ≡ false = cc (c.goes_on.ensures, c.turns-test.false) in
    rw (c.from_vec.ensures, c.after_next.ensures) (ended c.args.text.now c.args.ascii c.turns.items.items c.turns.first c.turns.rest.now stop c.turns.invariant)
