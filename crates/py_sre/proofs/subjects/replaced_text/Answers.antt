use Rattle.std.proofs.Common.{◌≡◌, ◌∙◌, true, List, ℕ, subst, sym, IfOk}
use Rattle.py_text.specs.Text.{all_ascii}
use Rattle.py_sre.specs.Pieces.{replacement_of}
use Rattle.py_sre.specs.Replacing.{substituted, substitutions}
use Rattle.py_sre.proofs.AsciiLemmas.{bytes_are_text}
use Rattle.py_sre.proofs.subjects.replaced_text.Goals as goal

pub replaced_over-requires-clause-taken : goal.replaced_over-requires-clause-taken
replaced_over-requires-clause-taken g c =
    let h : all_ascii c.args.subject.now ≡ true = sym c.is_ascii.ensures ∙ c.if-is_ascii.true in
    let units = c.new-view.ensures ∙ bytes_are_text c.args.subject.now c.as_bytes.result.now h (c.as_bytes.ensures.value ∙ c.as_str.ensures.bytes) in
    subst (λ (l : List ℕ). all_ascii l ≡ true) (sym units) h

pub returns-then-is_ascii-clause-ok : goal.returns-then-is_ascii-clause-ok
returns-then-is_ascii-clause-ok g c =
    let h : all_ascii c.args.subject.now ≡ true = sym c.is_ascii.ensures ∙ c.if-is_ascii.true in
    let units = c.new-view.ensures ∙ bytes_are_text c.args.subject.now c.as_bytes.result.now h (c.as_bytes.ensures.value ∙ c.as_str.ensures.bytes) in
    subst (λ (l : List ℕ). IfOk c.replaced_over.result (λ x. x.0 ≡ substituted c.args.code.now.tree l c.args.limit (replacement_of (λ (text : List ℕ). text) c.args.pieces.now c.args.unset.now))) units c.replaced_over.ensures.ok

pub returns-then-is_ascii-clause-count : goal.returns-then-is_ascii-clause-count
returns-then-is_ascii-clause-count g c =
    let h : all_ascii c.args.subject.now ≡ true = sym c.is_ascii.ensures ∙ c.if-is_ascii.true in
    let units = c.new-view.ensures ∙ bytes_are_text c.args.subject.now c.as_bytes.result.now h (c.as_bytes.ensures.value ∙ c.as_str.ensures.bytes) in
    subst (λ (l : List ℕ). IfOk c.replaced_over.result (λ x. x.1 ≡ substitutions c.args.code.now.tree l c.args.limit)) units c.replaced_over.ensures.count
