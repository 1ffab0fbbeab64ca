use Rattle.std.proofs.Common.{◌∙◌, string_bytes}
use Rattle.std.proofs.lemmas.Str.{IsUtf8-string_bytes}
use Rattle.py_base.proofs.Points.{same_by_points}
use Rattle.py_base.proofs.error.key.BaseTextPartialEq.eq.Goals as goal

pub returns : goal.returns
returns c =
    rw (← c.self.view_is, ← c.other.view_is)
    (c.eq.ensures ∙ same_by_points (string_bytes c.self.inside.text) (string_bytes c.other.inside.text) (IsUtf8-string_bytes c.self.inside.text) (IsUtf8-string_bytes c.other.inside.text))
