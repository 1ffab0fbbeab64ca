use Rattle.std.proofs.Common.{refl, ◌∙◌, ◌++◌, ap}
use Rattle.py_base.specs.Chars.Quoting.{quoted_char}
use Rattle.py_str.proofs.QuoteLemmas.{quoting_more, quoting_ends}
use Rattle.py_str.specs.Quote.{plain_of}
use Rattle.py_str.proofs.quote.push_chars.Goals as goal

pub runs-init : goal.runs-init
runs-init c = record { utf8 = c.utf8.text; whole = refl }

pub runs-preserved : goal.runs-preserved
runs-preserved c = record {
  utf8 = c.in-Some.ensures.text;
  whole = quoting_more c.args.quote (plain_of c.args.ascii) _ _ _ _ _ _ _ c.in-Some.c c.in-Some.ensures.before c.in-Some.ensures.rest c.in_ok-append.ensures.ok
      (c.in_ok-push_quoted.ensures.ok ∙ ap (λ b. c.append.new.self ++ quoted_char c.args.quote b c.in-Some.c) c.is_plain.ensures) c.runs.invariant.whole;
}

pub returns-clause-ok : goal.returns-clause-ok
returns-clause-ok c = quoting_ends c.args.quote (plain_of c.args.ascii) _ _ _ _ c.in_default.ensures.before c.in_default.ensures.rest c.in_ok-append-2.ensures.ok c.runs.invariant.whole
