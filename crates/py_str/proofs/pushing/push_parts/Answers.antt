use Rattle.std.proofs.Common.{◌≡◌, ◌∙◌, ◌++◌, ◌/◌, ◌%◌, sym, ap, append-nil, arith, take, slice_range}
use Rattle.py_text.specs.Text.{all_ascii}
use Rattle.py_str.proofs.PushingLemmas.{blocks_pushed, block_ascii, copy_more, part_ascii, part_ends, part_is}
use Rattle.py_str.proofs.pushing.push_parts.Goals as goal

pub loop-n-init : goal.loop-n-init
loop-n-init c = sym (append-nil c.args.out.now)

pub append_ascii-requires : goal.append_ascii-requires
append_ascii-requires c = block_ascii c.args.block.now c.args.c c.requires.block c.requires.ascii

pub loop-n-preserved : goal.loop-n-preserved
loop-n-preserved c = copy_more c.args.out.now c.loop-n.out c.append_ascii.new.self c.args.block.now c.loop-n._n c.loop-n.invariant c.in_ok-append_ascii.ensures.ok

pub range-requires-clause-end_boundary : goal.range-requires-clause-end_boundary
range-requires-clause-end_boundary c = part_ends c.args.block.now (c.args.count % 64) c.args.c c.requires.block c.requires.ascii (omega arith)

pub append_ascii-requires-2 : goal.append_ascii-requires-2
append_ascii-requires-2 c =
    let t : slice_range c.args.block.now 0 (c.args.count % 64) ≡ take (c.args.count % 64) c.args.block.now = grind arith in
    ap all_ascii (c.range.ensures.value ∙ t) ∙ part_ascii c.args.block.now (c.args.count % 64) c.args.c c.requires.block c.requires.ascii (omega arith)

pub returns-clause-ok : goal.returns-clause-ok
returns-clause-ok c =
    let t : slice_range c.args.block.now 0 (c.args.count % 64) ≡ take (c.args.count % 64) c.args.block.now = grind arith in
    blocks_pushed c.args.out.now c.loop-n.out _ c.args.block.now c.args.c c.loop-n._n (c.args.count % 64) c.args.count c.requires.block c.loop-n.invariant
    (c.in_ok-append_ascii-2.ensures.ok ∙ ap (λ l. c.loop-n.out ++ l) (c.range.ensures.value ∙ t ∙ part_is c.args.block.now (c.args.count % 64) c.args.c c.requires.block (omega arith)))
    (omega arith)
