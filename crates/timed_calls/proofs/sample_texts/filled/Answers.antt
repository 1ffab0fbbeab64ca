use Rattle.std.proofs.Common.{rules, ◌≡◌, ◌+◌, ◌/◌, ◌<◌, ◌≤◌, length, chars}
use Rattle.std.proofs.lemmas.List.{length-take-le}
use Rattle.py_text.specs.Sums.{copies}
use Rattle.py_text.proofs.UntilLemmas.{some_chars}
use Rattle.timed_calls.proofs.Lengths.{enough_copies}
use Rattle.timed_calls.proofs.sample_texts.filled.Goals as goal

pub nonzero_div-count : goal.nonzero_div-count
nonzero_div-count c =
    let h : 0 < length (chars c.args.block.now) = some_chars c.args.block.now c.utf8.block c.requires.some in
    search (rules, h)

pub do_slice-requires-clause-inside : goal.do_slice-requires-clause-inside
do_slice-requires-clause-inside c =
    let h : 0 < length (chars c.args.block.now) = some_chars c.args.block.now c.utf8.block c.requires.some in
    let e : c.in_ok-whole.whole ≡ copies (c.args.size / length (chars c.args.block.now) + 1) (chars c.args.block.now) = search rules in
    rw e (enough_copies c.args.size (chars c.args.block.now) h)

pub returns-clause-size : goal.returns-clause-size
returns-clause-size c =
    let h : 0 < length (chars c.args.block.now) = some_chars c.args.block.now c.utf8.block c.requires.some in
    let e : c.in_ok-whole.whole ≡ copies (c.args.size / length (chars c.args.block.now) + 1) (chars c.args.block.now) = search rules in
    let b : c.args.size ≤ length c.in_ok-whole.whole = rw e (enough_copies c.args.size (chars c.args.block.now) h) in
    search (rules, length-take-le c.args.size c.in_ok-whole.whole b)
