-- A count after the last of parts.
use Rattle.std.proofs.Common.{◌≡◌, ap, true, false}
use Rattle.std.specs.Prelude.{Some, None}
use Rattle.re_tree.specs.PlainText.{PlainText, PlainTexts, done, ◌also◌}
use Rattle.re_tree.specs.Grammar.{is_countable}
use Rattle.re_tree.specs.Machine.{snoc, one_if, put_first, count_last}

-- a count at the last part, where it may have one
pub count_at_last : (f : PlainText → PlainText) (ps : PlainTexts) (r : PlainText) → is_countable r ≡ true → count_last f (snoc ps r) ≡ Some (snoc ps (f r))
count_at_last f done r h = ap (λ b. one_if b (f r)) h
count_at_last f (p also done) r h = ap (put_first p) (count_at_last f done r h)
count_at_last f (p also q also ps) r h = ap (put_first p) (count_at_last f (q also ps) r h)

pub no_count_at_last : (f : PlainText → PlainText) (ps : PlainTexts) (r : PlainText) → is_countable r ≡ false → count_last f (snoc ps r) ≡ None
no_count_at_last f done r h = ap (λ b. one_if b (f r)) h
no_count_at_last f (p also done) r h = ap (put_first p) (no_count_at_last f done r h)
no_count_at_last f (p also q also ps) r h = ap (put_first p) (no_count_at_last f (q also ps) r h)
