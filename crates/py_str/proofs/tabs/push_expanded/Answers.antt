use Rattle.std.proofs.Common.{◌-◌, ◌++◌, ℕ, ap, arith, length, length-append, chars}
use Rattle.py_str.specs.Tabs.{expanded_at}
use Rattle.py_str.proofs.TabsLemmas.{line_more, expanding_ends}
use Rattle.py_str.proofs.tabs.push_expanded.Goals as goal

pub runs-init : goal.runs-init
runs-init c = record {
  utf8 = c.utf8.text;
  bound = omega (arith, c.len-begins.ensures);
  whole = ap (λ (k : ℕ). c.args.out.now ++ expanded_at c.args.size k (chars c.args.text.now)) (omega (arith, c.len-begins.ensures));
}

pub push_stop-requires-clause-bound : goal.push_stop-requires-clause-bound
push_stop-requires-clause-bound c = omega (arith, ap length c.in_ok-append.ensures.ok, length-append c.runs.out (chars c.in-Some.before.now), c.runs.invariant.bound)

pub runs-preserved : goal.runs-preserved
runs-preserved c = record {
  utf8 = c.in-Some.ensures.text;
  bound = c.in_ok-begins.ensures.bound;
  whole = line_more c.args.size c.runs.begins _ c.in-Some.c (chars c.runs.rest.now) (chars c.in-Some.before.now) (chars c.in-Some.after.now) _ _ _ _ c.in-Some.ensures.before c.in-Some.ensures.rest c.in_ok-append.ensures.ok c.runs.invariant.bound
      (c.in_ok-begins.ensures.ok (chars c.in-Some.after.now)) c.runs.invariant.whole;
}

pub returns-clause-ok : goal.returns-clause-ok
returns-clause-ok c = expanding_ends c.args.size (length c.runs.out - c.runs.begins) _ _ _ _ c.in_default.ensures.before c.in_default.ensures.rest c.in_ok-append-2.ensures.ok c.runs.invariant.whole
