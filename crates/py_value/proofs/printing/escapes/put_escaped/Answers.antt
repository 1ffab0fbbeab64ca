use Rattle.std.proofs.Common.{refl, chars}
use Rattle.py_value.proofs.AsciiLemmas.{escaping_more, escaping_ends}
use Rattle.py_value.proofs.printing.escapes.put_escaped.Goals as goal

pub runs-init : goal.runs-init
runs-init c = record { utf8 = c.utf8.text; whole = refl }

pub runs-preserved : goal.runs-preserved
runs-preserved c = record {
  utf8 = c.in-Some.ensures.text;
  whole = escaping_more (chars c.runs.rest.now) (chars c.in-Some.front.now) (chars c.in-Some.back.now) _ _ _ _ c.in-Some.c c.in-Some.ensures.parts c.in_ok-append.ensures.ok c.in_ok-put_ascii.ensures.ok c.runs.invariant.whole;
}

pub returns-clause-ok : goal.returns-clause-ok
returns-clause-ok c = escaping_ends (chars c.runs.rest.now) _ _ _ c.in_default.ensures.parts c.in_ok-append-2.ensures.ok c.runs.invariant.whole
