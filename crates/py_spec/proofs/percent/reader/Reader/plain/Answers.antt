use Rattle.py_spec.proofs.ReaderLemmas.{left_after}
use Rattle.py_spec.proofs.percent.reader.Reader.plain.Goals as goal

pub invariant_of-self : goal.invariant_of-self
invariant_of-self c = left_after c.self.inside.rest.now c.split_at.result.0.now c.split_at.result.1.now c.plain_len.result c.self.inside.left c.len-before.result c.len.result c.args.text.now c.append.new.self c.self.invariant c.split_at.ensures.front c.split_at.ensures.back c.plain_len.ensures.plain c.plain_len.ensures.rest c.len-before.ensures c.len.ensures c.in_ok-append.ensures.ok
