-- The widths of parts, from the last one on.
use Rattle.std.proofs.Common.{◌≡◌, ◌∙◌, ap, sym, ℕ, zero, suc, ◌+◌, ◌-◌, ◌<◌, ◌≤◌, max, List, [], ◌∷◌, drop, length, get_or, arith, Option, Some, None}
use Rattle.std.proofs.lemmas.List.{at_drop_more, drop_all, length-drop}
use Rattle.re_tree.specs.declared.tree.TextTree.{TextTree}
use Rattle.re_tree.specs.PlainText.{PlainText}
use Rattle.re_tree.specs.TextView.{text_of, texts_of, height, heights}
use Rattle.re_tree.specs.Widths.{width, plus, common, sum_of_widths, common_width}

-- how high a body is, where there is one
abbrev pub body_height : Option PlainText → ℕ
body_height None = 0
body_height (Some r) = height r

-- no part is higher than all
pub part_height : (xs : List TextTree) (i : ℕ) (d : TextTree) → i < length xs → height (text_of (get_or xs i d)) ≤ heights (texts_of xs)
part_height [] i d lt = absurd (omega arith)
part_height (x ∷ xs) zero d lt = omega arith
part_height (x ∷ xs) (suc i) d lt = let more = part_height xs i d (omega arith) in omega (arith, more)

-- one part more
pub sum_more : (xs : List TextTree) (i : ℕ) (x : TextTree) (w v : Option ℕ) → 0 < i → i ≤ length xs → x ≡ get_or xs (i - 1) x → w ≡ width (text_of x) → v ≡ sum_of_widths (texts_of (drop i xs)) → plus w v ≡ sum_of_widths (texts_of (drop (i - 1) xs))
sum_more xs i x w v some le is e f =
    let on : i - 1 + 1 ≡ i = omega arith in
    let one = at_drop_more (λ l. sum_of_widths (texts_of l)) xs (i - 1) x (omega arith) in
    (λ k. plus (e k) (f k))
    ∙ sym (one ∙ ap (λ y. plus (width (text_of y)) (sum_of_widths (texts_of (drop (i - 1 + 1) xs)))) (sym is) ∙ ap (λ n. plus (width (text_of x)) (sum_of_widths (texts_of (drop n xs)))) on)

-- one branch more, before another one
common_before : (x : TextTree) (l : List TextTree) → 0 < length l → common_width (texts_of (x ∷ l)) ≡ common (width (text_of x)) (common_width (texts_of l))
common_before x [] some = absurd (omega arith)
common_before x (y ∷ ys) some = λ _. common_width (texts_of (x ∷ y ∷ ys))

pub common_more : (xs : List TextTree) (i : ℕ) (x : TextTree) (w v : Option ℕ) → 0 < i → i < length xs → x ≡ get_or xs (i - 1) x → w ≡ width (text_of x) → v ≡ common_width (texts_of (drop i xs)) → common w v ≡ common_width (texts_of (drop (i - 1) xs))
common_more xs i x w v some lt is e f =
    let on : i - 1 + 1 ≡ i = omega arith in
    let one = at_drop_more (λ l. common_width (texts_of l)) xs (i - 1) x (omega arith) in
    (λ k. common (e k) (f k))
    ∙ sym (one ∙ ap (λ y. common_width (texts_of (y ∷ drop (i - 1 + 1) xs))) (sym is) ∙ ap (λ n. common_width (texts_of (x ∷ drop n xs))) on ∙ common_before x (drop i xs) (omega (arith, length-drop i xs)))

-- the last branch alone
pub common_last : (xs : List TextTree) (x : TextTree) → 0 < length xs → x ≡ get_or xs (length xs - 1) x → common_width (texts_of (drop (length xs - 1) xs)) ≡ width (text_of x)
common_last xs x some is =
    at_drop_more (λ l. common_width (texts_of l)) xs (length xs - 1) x (omega arith)
    ∙ ap (λ y. common_width (texts_of (y ∷ drop (length xs - 1 + 1) xs))) (sym is)
    ∙ ap (λ l. common_width (texts_of (x ∷ l))) (drop_all (length xs - 1 + 1) xs (omega arith))
