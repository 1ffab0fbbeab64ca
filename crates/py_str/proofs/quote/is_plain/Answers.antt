use Rattle.std.proofs.Common.{◌∙◌, sym, ap}
use Rattle.py_str.specs.Quote.{plain_of}
use Rattle.py_str.proofs.PrintableLemmas.{plain_yes, plain_no}
use Rattle.py_str.proofs.quote.is_plain.Goals as goal

pub returns-then-is_plain_ascii : goal.returns-then-is_plain_ascii
returns-then-is_plain_ascii c = plain_yes c.args.ascii c.args.c (sym c.is_plain_ascii.ensures ∙ c.if-is_plain_ascii.true)

pub returns-then-ascii : goal.returns-then-ascii
returns-then-ascii c = plain_no c.args.c (sym c.is_plain_ascii.ensures ∙ c.if-is_plain_ascii.false) ∙ ap (λ b. plain_of b c.args.c) (sym c.if-ascii.true)
