-- The words of a pattern, written from the last one to the first.
use Rattle.std.proofs.Common.{◌≡◌, ◌∙◌, refl, ap, sym, ℕ, zero, suc, ◌+◌, ◌*◌, ◌-◌, ◌<◌, ◌≤◌, Bool, true, false, if◌then◌else◌, List, [], ◌∷◌, ◌++◌, drop, length, get_or, arith, append_assoc, append-nil, length-append, Option, Some, None}
use Rattle.std.proofs.lemmas.List.{at_drop_more}
use Rattle.sre_code.specs.PlainTree.{PlainNode, PlainTree, branch, one_of, group, exists, exists_else, repeat, atomic, look, nothing, ◌then◌}
use Rattle.sre_code.specs.Spelling.{spell, node_words, item_words, items_words, set_words, alternatives_words, repeat_word, until_word, look_word, repeat_skip}
use Rattle.sre_code.specs.declared.tree.RepeatKind.{RepeatKind}
use Rattle.re_tree.specs.declared.tree.TextTree.{TextTree}
use Rattle.re_tree.specs.declared.unit.UnitItem.{UnitItem}
use Rattle.re_tree.specs.TextView.{text_of, texts_of, height, heights}
use Rattle.re_tree.specs.PlainText.{PlainText, PlainTexts, done, ◌also◌, Names, names_of, all_names}
use Rattle.re_text.specs.Trees.{set_item, set_items, join, tree_of_text, tree_of_parts, trees_of_branches}
use Rattle.re_text.specs.Words.{words_of, words_of_parts, no_alternative, alternative, alternatives}

-- how high a body is, where there is one
abbrev pub body_height : Option PlainText → ℕ
body_height None = 0
body_height (Some r) = height r

-- no part is higher than all
pub part_height : (xs : List TextTree) (i : ℕ) (d : TextTree) → i < length xs → height (text_of (get_or xs i d)) ≤ heights (texts_of xs)
part_height [] i d lt = absurd (omega arith)
part_height (x ∷ xs) zero d lt = omega arith
part_height (x ∷ xs) (suc i) d lt = let more = part_height xs i d (omega arith) in omega (arith, more)

-- the names of one part more
pub names_more : (xs : List TextTree) (i : ℕ) (x : TextTree) (was longer : Names) → i < length xs → x ≡ get_or xs i x → longer ≡ was ++ names_of (text_of x) → longer ++ all_names (texts_of (drop (i + 1) xs)) ≡ was ++ all_names (texts_of (drop i xs))
names_more xs i x was longer lt is e =
    ap (λ l. l ++ all_names (texts_of (drop (i + 1) xs))) e
    ∙ append_assoc was (names_of (text_of x)) (all_names (texts_of (drop (i + 1) xs)))
    ∙ sym (ap (λ l. was ++ l) (at_drop_more (λ l. all_names (texts_of l)) xs i x lt ∙ ap (λ y. names_of (text_of y) ++ all_names (texts_of (drop (i + 1) xs))) (sym is)))

-- what is put since there were so many words
put_since : (words was : List ℕ) (before more : ℕ) → before ≡ length was → length (words ++ was) - before + more ≡ length words + more
put_since words was before more is = omega (arith, is, length-append words was)

-- three lists, one after another
pub names_then : (was first both second longer : Names) → both ≡ was ++ first → longer ≡ both ++ second → longer ≡ was ++ (first ++ second)
names_then was first both second longer e f = f ∙ ap (λ l. l ++ second) e ∙ append_assoc was first second

-- the words of items
pub items_more : (xs : List UnitItem) (i : ℕ) (x : UnitItem) (old was new : List ℕ) → 0 < i → i ≤ length xs → x ≡ get_or xs (i - 1) x → new ≡ item_words (set_item x) ++ was → was ≡ items_words (set_items (drop i xs)) ++ old → new ≡ items_words (set_items (drop (i - 1) xs)) ++ old
items_more xs i x old was new some le is e f =
    let on : i - 1 + 1 ≡ i = omega arith in
    let one = at_drop_more (λ l. items_words (set_items l)) xs (i - 1) x (omega arith) ∙ ap (λ y. item_words (set_item y) ++ items_words (set_items (drop (i - 1 + 1) xs))) (sym is) ∙ ap (λ n. item_words (set_item x) ++ items_words (set_items (drop n xs))) on in
    e ∙ ap (λ l. item_words (set_item x) ++ l) f ∙ sym (append_assoc (item_words (set_item x)) (items_words (set_items (drop i xs))) old) ∙ ap (λ l. l ++ old) (sym one)

pub set_is : (negated : Bool) (items : List UnitItem) (before : ℕ) (old c0 c1 c2 c3 : List ℕ) → c0 ≡ 0 ∷ old → before ≡ length c0 → c1 ≡ set_words negated (set_items items) ++ c0 → c2 ≡ (length c1 - before + 2) ∷ c1 → c3 ≡ 13 ∷ c2 → c3 ≡ node_words (one_of negated (set_items items)) ++ old
set_is negated items before old c0 c1 c2 c3 e0 is e1 e2 e3 =
    let words = set_words negated (set_items items) in
    e3 ∙ ap (λ l. 13 ∷ l) (e2 ∙ ap (λ l. (length l - before + 2) ∷ l) e1 ∙ ap (λ k. k ∷ (words ++ c0)) (put_since words c0 before 2 is))
    ∙ ap (λ l. 13 ∷ (length words + 2) ∷ l) (ap (λ l. words ++ l) e0 ∙ sym (append_assoc words (0 ∷ []) old))

-- the words of nodes and of parts
pub spell_join : (t u : PlainTree) → spell (join t u) ≡ spell t ++ spell u
spell_join nothing u = refl
spell_join (n then t) u = ap (λ l. node_words n ++ l) (spell_join t u) ∙ sym (append_assoc (node_words n) (spell t) (spell u))

pub one_node : (n : PlainNode) (old new : List ℕ) → new ≡ node_words n ++ old → new ≡ spell (n then nothing) ++ old
one_node n old new e = e ∙ ap (λ l. l ++ old) (sym (append-nil (node_words n)))

pub parts_more : (names : Names) (xs : List TextTree) (i : ℕ) (x : TextTree) (old was new : List ℕ) → 0 < i → i ≤ length xs → x ≡ get_or xs (i - 1) x → new ≡ words_of names (text_of x) ++ was → was ≡ words_of_parts names (texts_of (drop i xs)) ++ old → new ≡ words_of_parts names (texts_of (drop (i - 1) xs)) ++ old
parts_more names xs i x old was new some le is e f =
    let on : i - 1 + 1 ≡ i = omega arith in
    let one = at_drop_more (λ l. words_of_parts names (texts_of l)) xs (i - 1) x (omega arith) ∙ ap (λ y. words_of_parts names (text_of y also texts_of (drop (i - 1 + 1) xs))) (sym is) ∙ ap (λ n. words_of_parts names (text_of x also texts_of (drop n xs))) on
    ∙ spell_join (tree_of_text names (text_of x)) (tree_of_parts names (texts_of (drop i xs))) in
    e ∙ ap (λ l. words_of names (text_of x) ++ l) f ∙ sym (append_assoc (words_of names (text_of x)) (words_of_parts names (texts_of (drop i xs))) old) ∙ ap (λ l. l ++ old) (sym one)

pub capture_words : (g mark : ℕ) (b : PlainTree) (old c1 c2 c3 c4 c5 : List ℕ) → mark ≡ (g - 1) * 2 → c1 ≡ (mark + 1) ∷ old → c2 ≡ 17 ∷ c1 → c3 ≡ spell b ++ c2 → c4 ≡ mark ∷ c3 → c5 ≡ 17 ∷ c4 → c5 ≡ node_words (group g b) ++ old
capture_words g mark b old c1 c2 c3 c4 c5 is e1 e2 e3 e4 e5 =
    let twice : mark ≡ 2 * (g - 1) = omega (arith, is) in
    e5 ∙ ap (λ l. 17 ∷ l) e4 ∙ ap (λ l. 17 ∷ mark ∷ l) (e3 ∙ ap (λ l. spell b ++ l) (e2 ∙ ap (λ l. 17 ∷ l) e1) ∙ sym (append_assoc (spell b) (17 ∷ (mark + 1) ∷ []) old))
    ∙ ap (λ m. 17 ∷ m ∷ ((spell b ++ 17 ∷ (m + 1) ∷ []) ++ old)) twice

pub conditional_words : (g before : ℕ) (y : PlainTree) (old c1 c2 c3 c4 : List ℕ) → before ≡ length old → c1 ≡ spell y ++ old → c2 ≡ (length c1 - before + 2) ∷ c1 → c3 ≡ (g - 1) ∷ c2 → c4 ≡ 12 ∷ c3 → c4 ≡ node_words (exists g y) ++ old
conditional_words g before y old c1 c2 c3 c4 is e1 e2 e3 e4 =
    e4 ∙ ap (λ l. 12 ∷ l) e3 ∙ ap (λ l. 12 ∷ (g - 1) ∷ l) (e2 ∙ ap (λ l. (length l - before + 2) ∷ l) e1 ∙ ap (λ n. n ∷ (spell y ++ old)) (put_since (spell y) old before 2 is))

pub other_words : (before : ℕ) (body old c1 c2 c3 : List ℕ) → before ≡ length old → c1 ≡ body ++ old → c2 ≡ (length c1 - before + 1) ∷ c1 → c3 ≡ 15 ∷ c2 → c3 ≡ 15 ∷ (length body + 1) ∷ (body ++ old)
other_words before body old c1 c2 c3 is e1 e2 e3 =
    e3 ∙ ap (λ l. 15 ∷ l) (e2 ∙ ap (λ l. (length l - before + 1) ∷ l) e1 ∙ ap (λ n. n ∷ (body ++ old)) (put_since body old before 1 is))

pub conditional_else_words : (g before : ℕ) (y n : PlainTree) (old c0 c1 c2 c3 c4 : List ℕ) → c0 ≡ 15 ∷ (length (spell n) + 1) ∷ (spell n ++ old) → before ≡ length c0 → c1 ≡ spell y ++ c0 → c2 ≡ (length c1 - before + 4) ∷ c1 → c3 ≡ (g - 1) ∷ c2 → c4 ≡ 12 ∷ c3 → c4 ≡ node_words (exists_else g y n) ++ old
conditional_else_words g before y n old c0 c1 c2 c3 c4 e0 is e1 e2 e3 e4 =
    e4 ∙ ap (λ l. 12 ∷ l) e3 ∙ ap (λ l. 12 ∷ (g - 1) ∷ l) (e2 ∙ ap (λ l. (length l - before + 4) ∷ l) e1 ∙ ap (λ k. k ∷ (spell y ++ c0)) (put_since (spell y) c0 before 4 is))
    ∙ ap (λ l. 12 ∷ (g - 1) ∷ (length (spell y) + 4) ∷ l) (ap (λ l. spell y ++ l) e0 ∙ sym (append_assoc (spell y) (15 ∷ (length (spell n) + 1) ∷ spell n) old))

pub counted_words : (kind : RepeatKind) (one_wide : Bool) (lo hi before more : ℕ) (b : PlainTree) (old c0 c1 c2 c3 c4 c5 : List ℕ) → more ≡ (if one_wide then 2 else 1) → c0 ≡ until_word kind one_wide ∷ old → before ≡ length c0 → c1 ≡ spell b ++ c0 → c2 ≡ hi ∷ c1 → c3 ≡ lo ∷ c2 → c4 ≡ (length c3 - before + more) ∷ c3 → c5 ≡ repeat_word kind one_wide ∷ c4 → c5 ≡ node_words (repeat kind one_wide lo hi b) ++ old
counted_words kind one_wide lo hi before more b old c0 c1 c2 c3 c4 c5 m e0 is e1 e2 e3 e4 e5 =
    let whole : c3 ≡ lo ∷ hi ∷ (spell b ++ c0) = e3 ∙ ap (λ l. lo ∷ l) (e2 ∙ ap (λ l. hi ∷ l) e1) in
    let skip : length c3 - before + more ≡ repeat_skip one_wide (length (spell b)) = skip_by one_wide m (omega (arith, is, ap length whole, length-append (spell b) c0)) in
    e5 ∙ ap (λ l. repeat_word kind one_wide ∷ l) (e4 ∙ (λ j. skip j ∷ whole j) ∙ ap (λ l. repeat_skip one_wide (length (spell b)) ∷ lo ∷ hi ∷ l) (ap (λ l. spell b ++ l) e0 ∙ sym (append_assoc (spell b) (until_word kind one_wide ∷ []) old)))
  where
    skip_by : (w : Bool) → more ≡ (if w then 2 else 1) → length c3 - before ≡ length (spell b) + 2 → length c3 - before + more ≡ repeat_skip w (length (spell b))
    skip_by true m e = omega (arith, m, e)
    skip_by false m e = omega (arith, m, e)

pub atomic_words : (before : ℕ) (b : PlainTree) (old c0 c1 c2 c3 : List ℕ) → c0 ≡ 1 ∷ old → before ≡ length c0 → c1 ≡ spell b ++ c0 → c2 ≡ (length c1 - before + 2) ∷ c1 → c3 ≡ 27 ∷ c2 → c3 ≡ node_words (atomic b) ++ old
atomic_words before b old c0 c1 c2 c3 e0 is e1 e2 e3 =
    e3 ∙ ap (λ l. 27 ∷ l) (e2 ∙ ap (λ l. (length l - before + 2) ∷ l) e1 ∙ ap (λ k. k ∷ (spell b ++ c0)) (put_since (spell b) c0 before 2 is))
    ∙ ap (λ l. 27 ∷ (length (spell b) + 2) ∷ l) (ap (λ l. spell b ++ l) e0 ∙ sym (append_assoc (spell b) (1 ∷ []) old))

pub look_words : (positive : Bool) (units before word : ℕ) (b : PlainTree) (old c0 c1 c2 c3 c4 : List ℕ) → word ≡ look_word positive → c0 ≡ 1 ∷ old → before ≡ length c0 → c1 ≡ spell b ++ c0 → c2 ≡ units ∷ c1 → c3 ≡ (length c2 - before + 2) ∷ c2 → c4 ≡ word ∷ c3 → c4 ≡ node_words (look positive units b) ++ old
look_words positive units before word b old c0 c1 c2 c3 c4 w e0 is e1 e2 e3 e4 =
    let whole : c2 ≡ units ∷ (spell b ++ c0) = e2 ∙ ap (λ l. units ∷ l) e1 in
    let skip : length c2 - before + 2 ≡ length (spell b) + 3 = omega (arith, is, ap length whole, length-append (spell b) c0) in
    e4 ∙ (λ j. w j ∷ c3) ∙ ap (λ l. look_word positive ∷ l) (e3 ∙ (λ j. skip j ∷ whole j))
    ∙ ap (λ l. look_word positive ∷ (length (spell b) + 3) ∷ units ∷ l) (ap (λ l. spell b ++ l) e0 ∙ sym (append_assoc (spell b) (1 ∷ []) old))

pub alternative_words : (end before : ℕ) (body old c1 c2 c3 c4 : List ℕ) → c1 ≡ (length old - end + 1) ∷ old → c2 ≡ 15 ∷ c1 → before ≡ length c2 → c3 ≡ body ++ c2 → c4 ≡ (length c3 - before + 3) ∷ c3 → c4 ≡ alternative body (length old - end) ++ old
alternative_words end before body old c1 c2 c3 c4 e1 e2 is e3 e4 =
    e4 ∙ ap (λ l. (length l - before + 3) ∷ l) e3 ∙ ap (λ k. k ∷ (body ++ c2)) (put_since body c2 before 3 is)
    ∙ ap (λ l. (length body + 3) ∷ l) (ap (λ l. body ++ l) (e2 ∙ ap (λ l. 15 ∷ l) e1) ∙ sym (append_assoc body (15 ∷ (length old - end + 1) ∷ []) old))

pub end_within : (words old code : List ℕ) (end : ℕ) → code ≡ words ++ old → end ≡ length old → end ≤ length code
end_within words old code end e is = omega (arith, is, ap length e, length-append words old)

pub alternatives_more : (names : Names) (xs : List TextTree) (i end : ℕ) (x : TextTree) (old was new : List ℕ) → 0 < i → i ≤ length xs → x ≡ get_or xs (i - 1) x → end ≡ length old → new ≡ alternative (words_of names (text_of x)) (length was - end) ++ was → was ≡ alternatives names (texts_of (drop i xs)) ++ old → new ≡ alternatives names (texts_of (drop (i - 1) xs)) ++ old
alternatives_more names xs i end x old was new some le is at e f =
    let on : i - 1 + 1 ≡ i = omega arith in
    let rest = alternatives names (texts_of (drop i xs)) in
    let n : length was - end ≡ length rest = omega (arith, at, ap length f, length-append rest old) in
    let one : alternatives names (texts_of (drop (i - 1) xs)) ≡ alternative (words_of names (text_of x)) (length rest) ++ rest = at_drop_more (λ l. alternatives names (texts_of l)) xs (i - 1) x (omega arith) ∙ ap (λ y. alternatives names (text_of y also texts_of (drop (i - 1 + 1) xs))) (sym is)
    ∙ ap (λ k. alternatives names (text_of x also texts_of (drop k xs))) on in
    e ∙ (λ j. alternative (words_of names (text_of x)) (n j) ++ f j) ∙ sym (append_assoc (alternative (words_of names (text_of x)) (length rest)) rest old) ∙ ap (λ l. l ++ old) (sym one)

-- alternatives, one or more, are spelled as the branch has them
spelled_one : (names : Names) (r : PlainText) → alternatives names (r also done) ≡ alternatives_words (trees_of_branches names (r also done))
spelled_one names r = ap (λ l. (length (words_of names r) + 3) ∷ l) (append_assoc (words_of names r) (15 ∷ 2 ∷ []) (0 ∷ []))

spelled : (names : Names) (r : PlainText) (rs : PlainTexts) → alternatives names (r also rs) ≡ alternatives_words (trees_of_branches names (r also rs))
spelled names r done = spelled_one names r
spelled names r (q also rs) =
    let rest = alternatives names (q also rs) in
    ap (λ l. (length (words_of names r) + 3) ∷ l) (append_assoc (words_of names r) (15 ∷ (length rest + 1) ∷ []) rest)
    ∙ ap (λ l. (length (words_of names r) + 3) ∷ (words_of names r ++ 15 ∷ (length l + 1) ∷ l)) (spelled names q rs)

pub branch_none : (names : Names) (xs : List TextTree) (old new : List ℕ) → length xs ≡ 0 → new ≡ node_words (branch no_alternative) ++ old → new ≡ node_words (branch (trees_of_branches names (texts_of xs))) ++ old
branch_none names [] old new none e = e
branch_none names (x ∷ xs) old new none e = absurd (omega arith)

pub branch_words : (names : Names) (xs : List TextTree) (old c0 c1 : List ℕ) → 0 < length xs → c0 ≡ alternatives names (texts_of xs) ++ old → c1 ≡ 7 ∷ c0 → c1 ≡ node_words (branch (trees_of_branches names (texts_of xs))) ++ old
branch_words names [] old c0 c1 some e0 e1 = absurd (omega arith)
branch_words names (x ∷ xs) old c0 c1 some e0 e1 = e1 ∙ ap (λ l. 7 ∷ l) (e0 ∙ ap (λ l. l ++ old) (spelled names (text_of x) (texts_of xs)))
