use Rattle.std.proofs.Common.{sym}
use Rattle.py_spec.specs.Percent.Literals.{literal}
use Rattle.py_spec.proofs.LiteralLemmas.{begun, stopped, two_shorter, percent_taken, literal_ends}
use Rattle.py_spec.proofs.percent.reader.Reader.literal.Goals as goal

pub percents-init : goal.percents-init
percents-init c = record {
  sofar = begun c.args.self.now c.plain.new.text c.new-text.result c.plain.new.self c.new-text.ensures c.in_ok-plain.ensures.text c.in_ok-plain.ensures.rest;
  stopped = stopped c.args.self.now c.plain.new.self c.in_ok-plain.ensures.rest;
}

pub percents-smaller : goal.percents-smaller
percents-smaller c = two_shorter c.percents.self c.takes_two.new.self c.plain-in-percents.new.self (sym c.percents-test.ensures.next) c.percents-test.ensures.rest c.in_ok-plain-2.ensures.rest

pub percents-preserved : goal.percents-preserved
percents-preserved c = record {
  sofar = percent_taken (literal c.args.self.now) c.percents.text c.append_char.new.self c.plain-in-percents.new.text c.percents.self c.takes_two.new.self c.plain-in-percents.new.self (sym c.percents-test.ensures.next) c.percents-test.ensures.rest c.in_ok-append_char.ensures.ok c.in_ok-plain-2.ensures.text c.in_ok-plain-2.ensures.rest c.percents.invariant.sofar;
  stopped = stopped c.takes_two.new.self c.plain-in-percents.new.self c.in_ok-plain-2.ensures.rest;
}

pub returns-clause-ok : goal.returns-clause-ok
returns-clause-ok c = literal_ends (literal c.args.self.now) c.percents.text c.percents.self c.takes_two.new.self c.percents.invariant.stopped (sym c.percents-test.ensures.next) c.percents-test.ensures.rest c.percents.invariant.sofar
