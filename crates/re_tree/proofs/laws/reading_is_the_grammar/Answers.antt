use Rattle.re_tree.proofs.TextLemmas.{reads, is_read}
use Rattle.re_tree.proofs.laws.reading_is_the_grammar.Goals as goal

pub returns : goal.returns
returns c = λ text flags r. (reads text flags r, is_read text flags r)
