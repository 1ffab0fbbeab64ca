use Rattle.std.proofs.Common.{rules, ◌^◌, ◌-◌, arith}
use Rattle.py_text.proofs.SliceLemmas.{slice_down}
use Rattle.py_text.proofs.text.PyStr.taken_back.Goals as goal

pub returns-clause-ok : goal.returns-clause-ok
returns-clause-ok c =
    let whole = slice_down c.args.self.now c.args.start c.args.stop c.args.step (2 ^ 64 - 1) c.back_end-from.result c.back_end-to.result c.requires (search rules) (omega arith)
    (rw (c.len.ensures, c.len-2.ensures) at c.back_end-from.ensures.place) (rw c.len-3.ensures at c.back_end-to.ensures.place) (search rules) in
    rw (← whole, ← c.stride.ensures, ← c.min.ensures) c.do_stepped_slice_reverse.ensures.ok
