use Rattle.std.proofs.Common.{rules, ◌≡◌, ◌∙◌, ◌+◌, ◌<◌, ◌^◌, ◌++◌, ◌∷◌, [], ap, arith, List, ℕ, length, length-append, chars, string_bytes}
use Rattle.std.specs.Char.{IsScalar}
use Rattle.std.proofs.lemmas.Str.{IsUtf8-string_bytes}
use Rattle.py_text.proofs.PointLemmas.{marked_by, points_at_most}
use Rattle.py_text.proofs.StrideLemmas.{pushed}
use Rattle.py_text.proofs.text.PyStr.append_char.Goals as goal

pub overflow_add-self : goal.overflow_add-self
overflow_add-self c =
    let scalar : IsScalar c.args.c = search rules in
    let more : chars (string_bytes c.push.new.self) ≡ chars (string_bytes c.self.inside.text) ++ c.args.c ∷ [] = pushed _ _ c.args.c scalar (IsUtf8-string_bytes c.self.inside.text) c.in-Ok.ensures.bytes in
    let f : length (string_bytes c.push.new.self) < 2 ^ 64 = search rules in
    omega (arith, f, ap length more, length-append (chars (string_bytes c.self.inside.text)) (c.args.c ∷ []), c.self.invariant.counted, points_at_most (string_bytes c.push.new.self) (IsUtf8-string_bytes c.push.new.self))

pub invariant_of-self-2 : goal.invariant_of-self-2
invariant_of-self-2 c =
    let scalar : IsScalar c.args.c = search rules in
    let more : chars (string_bytes c.push.new.self) ≡ chars (string_bytes c.self.inside.text) ++ c.args.c ∷ [] = pushed _ _ c.args.c scalar (IsUtf8-string_bytes c.self.inside.text) c.in-Ok.ensures.bytes in
    let e : c.self.inside.count + 1 ≡ length (chars (string_bytes c.push.new.self)) = omega (arith, ap length more, length-append (chars (string_bytes c.self.inside.text)) (c.args.c ∷ []), c.self.invariant.counted) in
    record { marked = rw (e, c.as_str-bytes.ensures.value) (marked_by (string_bytes c.push.new.self) (IsUtf8-string_bytes c.push.new.self)); counted = e }

pub returns-clause-ok : goal.returns-clause-ok
returns-clause-ok c =
    let scalar : IsScalar c.args.c = search rules in
    pushed _ _ c.args.c scalar (IsUtf8-string_bytes c.self.inside.text) c.in-Ok.ensures.bytes ∙ ap (λ (l : List ℕ). l ++ c.args.c ∷ []) c.self.view_is
