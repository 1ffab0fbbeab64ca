use Rattle.std.proofs.Common.{◌≡◌, true, false, Ok, Err, drop, [], ◌∷◌, sym, ap, ◌∙◌, map}
use Rattle.std.proofs.lemmas.Result.{err_from_is_err_and}
use Rattle.std.proofs.lemmas.List.{map-append}
use Rattle.sre_commands.specs.Commands.Sub.Template.{pair_of}
use Rattle.py_base.specs.Reading.{is_next}
use Rattle.sre_commands.specs.Error.{no_memory}
use Rattle.sre_commands.specs.Commands.Sub.Template.{read_pair}
use Rattle.py_base.proofs.LoopLemmas.{handed_on}
use Rattle.sre_commands.proofs.LeftLemmas.{pairs_none, pair_shorter, pairs_more, pairs_error, pairs_end}
use Rattle.sre_commands.proofs.commands.sub.template.read_pairs.Goals as goal

pub loop-alloc-init : goal.loop-alloc-init
loop-alloc-init c = rw c.new-pairs.ensures.items (pairs_none c.args.groups c.args.bytes.now)

pub loop-alloc-smaller : goal.loop-alloc-smaller
loop-alloc-smaller c =
    let go : is_next 32 c.loop-alloc.rest.now ≡ true = cc (c.is_next.ensures, c.loop-alloc-test.true) in
    pair_shorter c.args.groups c.loop-alloc.rest.now c.in_ok-pair.after.now (pair_of c.in_ok-pair.pair) go (c.in_ok-pair.ensures ∙ ap (read_pair c.args.groups) c.after_next.ensures)

pub loop-alloc-preserved : goal.loop-alloc-preserved
loop-alloc-preserved c =
    let go : is_next 32 c.loop-alloc.rest.now ≡ true = cc (c.is_next.ensures, c.loop-alloc-test.true) in
    rw (c.in_ok-push.ensures.items, map-append pair_of c.loop-alloc.pairs.items (c.in_ok-pair.pair ∷ []))
    (pairs_more c.args.groups c.args.bytes.now c.loop-alloc.rest.now c.in_ok-pair.after.now (map pair_of c.loop-alloc.pairs.items) (pair_of c.in_ok-pair.pair) go (c.in_ok-pair.ensures ∙ ap (read_pair c.args.groups) c.after_next.ensures) c.loop-alloc.invariant)

pub returns-in_err-pair : goal.returns-in_err-pair
returns-in_err-pair c =
    let go : is_next 32 c.loop-alloc.rest.now ≡ true = cc (c.is_next.ensures, c.loop-alloc-test.true) in
    let p = err_from_is_err_and c.from_residual.result c.from_residual.ensures.1 in
    rw (p.1, p.2) (handed_on (no_memory c.in_err-pair.field-0.0) c.in_err-pair.field-0.0 (λ h. pairs_error c.args.groups c.args.bytes.now c.loop-alloc.rest.now (map pair_of c.loop-alloc.pairs.items) _ go (sym (ap (read_pair c.args.groups) c.after_next.ensures) ∙ h) c.loop-alloc.invariant) c.in_err-pair.ensures)

pub returns : goal.returns
returns c =
    let stop : is_next 32 c.loop-alloc.rest.now ≡ false = cc (c.is_next.ensures, c.loop-alloc-test.false) in
    pairs_end c.args.groups c.args.bytes.now c.loop-alloc.rest.now (map pair_of c.loop-alloc.pairs.items) stop c.loop-alloc.invariant
