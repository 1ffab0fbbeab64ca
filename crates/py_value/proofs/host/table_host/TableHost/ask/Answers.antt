use Rattle.py_value.specs.ValueView.{plain_of}
use Rattle.py_value.proofs.HostLemmas.{failed_tells}
use Rattle.py_value.proofs.host.table_host.TableHost.ask.Goals as goal

pub returns-then-count_call-clause-tells : goal.returns-then-count_call-clause-tells
returns-then-count_call-clause-tells c =
    failed_tells c.args.handle c.args.method (plain_of c.args.key.now) c.args.self.now c.count_call.new.self c.count_call.ensures.after c.count_call.ensures.later (c.count_call.ensures.rose c.if-count_call.true)
