use Rattle.std.proofs.Common.{◌∙◌, ap}
use Rattle.py_text.specs.Points as spec
use Rattle.py_text.proofs.StartLemmas.{starts_are_points}
use Rattle.py_text.proofs.points.count_points.Goals as goal

pub returns : goal.returns
returns c = c.starts_in.ensures ∙ ap spec.starts_in c.as_bytes.ensures.value ∙ starts_are_points c.args.text.now c.utf8.text
