use Rattle.call_tables.proofs.NameLemmas.{is_name}
use Rattle.call_tables.proofs.reading.call_of.Goals as goal

pub returns-clause-name : goal.returns-clause-name
returns-clause-name c =
    is_name c.args.text.now c.in-Some.name c.in-Some.words c.is_empty.result c.in-Some.ensures.cases c.is_empty.ensures c.if-is_empty.false
