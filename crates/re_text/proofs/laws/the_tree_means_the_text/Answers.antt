use Rattle.re_text.proofs.MeaningLemmas.{means}
use Rattle.re_text.proofs.laws.the_tree_means_the_text.Goals as goal

pub returns : goal.returns
returns c = λ names groups r fits n p s m within enough. means names groups r fits n s enough p m within
