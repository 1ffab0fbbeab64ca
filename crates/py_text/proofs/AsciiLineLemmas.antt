-- The lines of an ASCII text.
use Rattle.std.proofs.Common.{◌≡◌, ◌∙◌, ℕ, Bool, true, false, not, if◌then◌else◌, List, ◌∷◌, ◌++◌, length, take, drop, sym, ap}
use Rattle.std.specs.List.{concat}
use Rattle.std.proofs.Math.Seq.{take-append_seam, drop-append_seam}
use Rattle.py_base.specs.Chars.Classes.{is_line_end}
use Rattle.py_text.specs.Text.{all_ascii}
use Rattle.py_text.specs.Lines.{whole_lines, without_end}
use Rattle.py_text.proofs.AsciiLemmas.{ascii_take, ascii_drop, ascii_kept}
use Rattle.py_text.proofs.LineLemmas.{lines_joined}

-- the first line and what is after it
parted : (L whole after : List ℕ) → whole_lines L ≡ whole ∷ whole_lines after → L ≡ whole ++ after
parted L whole after e = sym (lines_joined L) ∙ ap concat e ∙ ap (λ r. whole ++ r) (lines_joined after)

ascii_whole : (L whole after : List ℕ) → whole_lines L ≡ whole ∷ whole_lines after → all_ascii L ≡ true → all_ascii whole ≡ true
ascii_whole L whole after e h = ap all_ascii (sym (take-append_seam whole after) ∙ ap (take (length whole)) (sym (parted L whole after e))) ∙ ascii_take (length whole) L h

pub ascii_lines_after : (L whole after : List ℕ) → whole_lines L ≡ whole ∷ whole_lines after → all_ascii L ≡ true → all_ascii after ≡ true
ascii_lines_after L whole after e h = ap all_ascii (sym (drop-append_seam whole after) ∙ ap (drop (length whole)) (sym (parted L whole after e))) ∙ ascii_drop (length whole) L h

-- the first line, with its end or without
pub ascii_line : (keep : Bool) (L whole line after kept : List ℕ) → whole_lines L ≡ whole ∷ whole_lines after → line ≡ without_end whole → kept ≡ (if keep then whole else line) → all_ascii L ≡ true → all_ascii kept ≡ true
ascii_line true L whole line after kept e w k h = ap all_ascii k ∙ ascii_whole L whole after e h
ascii_line false L whole line after kept e w k h = ap all_ascii (k ∙ w) ∙ ascii_kept (λ c. not (is_line_end c)) whole (ascii_whole L whole after e h)
