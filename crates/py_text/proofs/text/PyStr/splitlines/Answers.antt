use Rattle.std.proofs.Common.{◌≡◌, ◌∙◌, refl, ap, sym, Bool, true, false, if◌then◌else◌, List, ℕ, chars, Bor}
use Rattle.py_text.proofs.AsciiLineLemmas.{ascii_line, ascii_lines_after}
use Rattle.py_text.proofs.LineLemmas.{lines_done, lines_more}
use Rattle.py_text.proofs.text.PyStr.splitlines.Goals as goal
use Rattle.py_text.proofs.text.PyStr.splitlines.Goals.{then-keepends, else-keepends}

chosen : (keep b : Bool) (kept part whole line : List ℕ) → keep ≡ b → kept ≡ part → part ≡ (if b then whole else line) → kept ≡ (if keep then whole else line)
chosen keep b kept part whole line k p q = p ∙ q ∙ ap (λ t. if t then whole else line) (sym k)

pub push_copy-requires : goal.push_copy-requires
push_copy-requires c =
    let kept : chars c.if-keepends.kept.now ≡ (if c.args.keepends then chars c.in-Some.whole.now else chars c.in-Some.line.now) =
    elim c.if-keepends.branch [
      | then-keepends w ↦ chosen c.args.keepends true _ (chars c.in-Some.whole.now) _ _ w.if-keepends.true (ap (λ (b : Bor (List ℕ)). chars b.now) w.kept-is) refl
      | else-keepends w ↦ chosen c.args.keepends false _ (chars c.in-Some.line.now) _ _ w.if-keepends.false (ap (λ (b : Bor (List ℕ)). chars b.now) w.kept-is) refl
    ] in
    λ h. ascii_line c.args.keepends (chars c.loop-whole.rest.now) (chars c.in-Some.whole.now) (chars c.in-Some.line.now) (chars c.in-Some.after.now) (chars c.if-keepends.kept.now) c.in-Some.ensures.lines c.in-Some.ensures.body kept (c.loop-whole.invariant.ascii h)

pub loop-whole-preserved : goal.loop-whole-preserved
loop-whole-preserved c =
    let kept : chars c.if-keepends.kept.now ≡ (if c.args.keepends then chars c.in-Some.whole.now else chars c.in-Some.line.now) =
    elim c.if-keepends.branch [
      | then-keepends w ↦ chosen c.args.keepends true _ (chars c.in-Some.whole.now) _ _ w.if-keepends.true (ap (λ (b : Bor (List ℕ)). chars b.now) w.kept-is) refl
      | else-keepends w ↦ chosen c.args.keepends false _ (chars c.in-Some.line.now) _ _ w.if-keepends.false (ap (λ (b : Bor (List ℕ)). chars b.now) w.kept-is) refl
    ] in
    record {
      utf8 = c.in-Some.ensures.text;
      ascii = λ h. ascii_lines_after (chars c.loop-whole.rest.now) (chars c.in-Some.whole.now) (chars c.in-Some.after.now) c.in-Some.ensures.lines (c.loop-whole.invariant.ascii h);
      lines = lines_more c.args.keepends (chars c.loop-whole.rest.now) (chars c.in-Some.whole.now) (chars c.in-Some.line.now) (chars c.in-Some.after.now) (chars c.if-keepends.kept.now) c.loop-whole.list _ _
          c.in-Some.ensures.lines c.in-Some.ensures.body kept c.in_ok-push_copy.ensures.ok c.loop-whole.invariant.lines;
    }

pub returns-clause-ok : goal.returns-clause-ok
returns-clause-ok c = lines_done c.args.keepends (chars c.loop-whole.rest.now) c.loop-whole.list _ c.in_default.ensures.lines c.loop-whole.invariant.lines
