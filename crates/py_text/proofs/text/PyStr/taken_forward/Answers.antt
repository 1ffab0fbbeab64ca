use Rattle.std.proofs.Common.{rules, ◌^◌, ◌-◌, arith}
use Rattle.py_text.proofs.SliceLemmas.{slice_up}
use Rattle.py_text.proofs.text.PyStr.taken_forward.Goals as goal

pub returns-clause-ok : goal.returns-clause-ok
returns-clause-ok c =
    let whole = slice_up c.args.self.now c.args.start c.args.stop c.args.step (2 ^ 64 - 1) c.forward_end-from.result c.forward_end-to.result c.requires (search rules) (omega arith)
    (rw c.len.ensures at c.forward_end-from.ensures.place) (rw (c.len-2.ensures, c.len-3.ensures) at c.forward_end-to.ensures.place) (search rules) in
    rw (← whole, ← c.stride.ensures, ← c.min.ensures) c.do_stepped_slice.ensures.ok
