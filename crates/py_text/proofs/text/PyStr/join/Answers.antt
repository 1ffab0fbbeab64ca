use Rattle.std.proofs.Common.{rules, ◌≡◌, ◌∙◌, [], ap, chars, string_bytes}
use Rattle.std.proofs.lemmas.Str.{chars-nil}
use Rattle.py_text.proofs.text.PyStr.join.Goals as goal

pub loop-i-init : goal.loop-i-init
loop-i-init c = let e : string_bytes c.in_ok-text.text ≡ [] = search rules in c.from-out.ensures ∙ ap chars e ∙ chars-nil
