use Rattle.std.proofs.Common.{◌≡◌, ◌∙◌, ◌-◌, List, ℕ, ap, sym, subst, arith, chars, IfOk}
use Rattle.py_text.specs.Text.{all_ascii}
use Rattle.py_text.proofs.AsciiLemmas.{ascii_before, ascii_after}
use Rattle.py_text.proofs.PieceLemmas.{cutting_none, cutting_more, cutting_stops, cutting_ends}
use Rattle.py_text.proofs.pieces.split_at.Goals as goal

pub loop-left-init : goal.loop-left-init
loop-left-init c = record {
  utf8 = c.as_str-rest.utf8;
  ascii = λ h. ap all_ascii c.as_str-rest.ensures.value ∙ sym c.is_ascii-ascii.ensures ∙ h;
  cutting = rw (c.new-list.ensures, c.as_str-rest.ensures.value) (cutting_none _ _ _);
}

pub push_copy-requires : goal.push_copy-requires
push_copy-requires c = λ h. ascii_before _ _ _ _ _ c.in-Some.ensures.around (c.loop-left.invariant.ascii h)

pub loop-left-preserved : goal.loop-left-preserved
loop-left-preserved c = record {
  utf8 = c.in-Some.ensures.text.2;
  ascii = λ h. ascii_after _ _ _ _ _ c.in-Some.ensures.around (c.loop-left.invariant.ascii h);
  cutting = cutting_more _ _ _ (chars c.in-Some.front.now) _ c.loop-left.list _ _ c.loop-left.left (c.loop-left.left - 1) c.requires (omega arith)
      c.in_ok-push_copy-in-Some.ensures.ok c.in-Some.ensures.around c.loop-left.invariant.cutting;
}

pub returns-in-None-clause-ok : goal.returns-in-None-clause-ok
returns-in-None-clause-ok c =
    let P : List (List ℕ) → Type 0 = λ l. IfOk c.finished.result (λ pieces. pieces ≡ l) in
    subst P (cutting_stops _ _ _ _ _ _ c.in-None.ensures.around c.loop-left.invariant.cutting) c.finished.ensures.ok

pub returns-clause-ok : goal.returns-clause-ok
returns-clause-ok c =
    let P : List (List ℕ) → Type 0 = λ l. IfOk c.finished-2.result (λ pieces. pieces ≡ l) in
    subst P (cutting_ends _ _ _ _ _ _ (omega arith) c.loop-left.invariant.cutting) c.finished-2.ensures.ok
