use Rattle.std.proofs.Common.{rules, ◌≡◌, ◌∙◌, ◌++◌, ◌-◌, sym, ap, IsUtf8, encode_utf8}
use Rattle.py_spec.proofs.ReaderLemmas.{one_less, first_skipped}
use Rattle.py_spec.proofs.percent.reader.Reader.skip.Goals as goal

pub invariant_of-self : goal.invariant_of-self
invariant_of-self c =
    let text : IsUtf8 c.self.inside.rest.now = search rules in
    let split : c.self.inside.rest.now ≡ encode_utf8 c.in-Some.field-0 ++ c.as_str-self-inside.result.now =
    sym c.chars-rest.ensures.rest ∙ c.in-Some.ensures.steps.0 ∙ ap (λ r. encode_utf8 c.in-Some.field-0 ++ r) (sym c.as_str-self-inside.ensures) in
    ap (λ n. n - 1) c.self.invariant ∙ one_less c.self.inside.rest.now c.as_str-self-inside.result.now c.in-Some.field-0 text split

pub returns-in-Some : goal.returns-in-Some
returns-in-Some c =
    let text : IsUtf8 c.self.inside.rest.now = search rules in
    let split : c.self.inside.rest.now ≡ encode_utf8 c.in-Some.field-0 ++ c.as_str-self-inside.result.now =
    sym c.chars-rest.ensures.rest ∙ c.in-Some.ensures.steps.0 ∙ ap (λ r. encode_utf8 c.in-Some.field-0 ++ r) (sym c.as_str-self-inside.ensures) in
    rw (← c.self.view_is) (first_skipped c.self.inside.rest.now c.as_str-self-inside.result.now c.in-Some.field-0 text split)
