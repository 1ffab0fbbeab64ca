use Rattle.std.proofs.Common.{rules, ◌≡◌, ◌++◌, ◌∙◌, [], List, ℕ, ap, chars, length, string_bytes}
use Rattle.std.proofs.lemmas.Str.{chars-nil}
use Rattle.py_text.specs.Replacing.{replace, limit_or_all}
use Rattle.py_text.proofs.text.PyStr.replace.Goals as goal

replaced : (k m : ℕ) (x y L M out new : List ℕ) → k ≡ m → M ≡ L → out ≡ [] → new ≡ out ++ replace k x y M → new ≡ replace m x y L
replaced k m x y L M out new e f g h = h ∙ ap (λ o. o ++ replace k x y M) g ∙ ap (λ n. replace n x y M) e ∙ ap (replace m x y) f

pub returns-clause-ok : goal.returns-clause-ok
returns-clause-ok c =
    let empty : string_bytes c.in_ok-room.room ≡ [] = search rules in
    replaced c.limit_or_all_of-limit.result (limit_or_all (length c.args.self.now) c.args.count) c.args.old.now c.args.new.now c.args.self.now (chars c.as_str-text.result.now) c.from-out.result _
    c.limit_or_all_of-limit.ensures c.as_str-text.ensures.value (c.from-out.ensures ∙ ap chars empty ∙ chars-nil) c.in_ok-put.ensures.ok
