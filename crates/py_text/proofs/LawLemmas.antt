-- Cut texts, joined again, and limits that take all.
use Rattle.std.proofs.Common.{◌≡◌, ◌≢◌, ℕ, ◌+◌, ◌-◌, ◌<◌, ◌≤◌, not, max, Bool, true, false, if◌then◌else◌, List, [], ◌∷◌, ◌++◌, map, reverse, length, take, drop, slice_range, suc, zero, refl, ap, sym, ◌∙◌, arith, subst, Option, Some, None, append_assoc, append-nil, take-append-drop, drop-drop}
use Rattle.std.proofs.lemmas.List.{length-reverse, reverse-append, reverse-reverse, nil_from_length, drop_at}
use Rattle.py_base.specs.Chars.Whitespace.{is_ascii_whitespace, skip_while}
use Rattle.py_text.specs.Whitespace.{from_whitespace, until_whitespace, split_whitespace}
use Rattle.py_text.specs.Occurrences.{occurrences, first_in, last_in}
use Rattle.py_text.specs.Pieces.{pieces, split, limit}
use Rattle.py_text.specs.Replacing.{join}
use Rattle.py_text.specs.Mirror.{mirrored}
use Rattle.py_text.specs.Partitions.{partition, rpartition, parted_at}
use Rattle.py_text.specs.Laws.{NoMoreOccurrences, NoMoreReplaced, NoMoreWhitespacePieces, LinesAreTheText, PiecesAreTheText, PiecesFromRightAreTheText, PartsAreTheText}
use Rattle.py_text.proofs.OccursLemmas.{OccursAt}
use Rattle.py_text.proofs.WindowLemmas.{first_means, last_means, first_outside}
use Rattle.py_text.proofs.OccurrenceLemmas.{cuts_some, cuts_none, max_one}
use Rattle.py_text.proofs.ReplacingLemmas.{joined_on}
use Rattle.py_text.proofs.LineLemmas.{skip_le, lines_joined}

pub lines_are : LinesAreTheText
lines_are = λ L. lines_joined L

-- pieces
joined_pieces : (x p : List ℕ) (L : List ℕ) (n q : ℕ) (places : List ℕ) → join x (p ∷ pieces L n q places) ≡ p ++ (x ++ join x (pieces L n q places))
joined_pieces x p L n q [] = refl
joined_pieces x p L n q (a ∷ more) = refl

-- L from p on is what is before a place, x, and the rest
round_place : (x L : List ℕ) (p a : ℕ) → OccursAt x L p (length L) a → slice_range L p a ++ (x ++ drop (a + length x) L) ≡ drop p L
round_place x L p a s =
    let at : p + (a - p) ≡ a = omega (arith, s.from) in
    let there : drop a L ≡ x ++ s.there.0 = s.there.1 in
    let rest : drop (a + length x) L ≡ s.there.0 = sym (drop-drop (length x) a L) ∙ ap (drop (length x)) there ∙ drop_at x s.there.0 (length x) refl in
    ap (λ r. slice_range L p a ++ r) (ap (λ r. x ++ r) rest ∙ sym there ∙ sym (drop-drop (a - p) p L ∙ ap (λ n. drop n L) at)) ∙ take-append-drop (a - p) (drop p L)

pieces_case : (k : ℕ) (x L : List ℕ) (p : ℕ) (o : Option ℕ) → 0 < length x → first_in x L p (length L) ≡ o → ((q : ℕ) → join x (pieces L (length x) q (occurrences k x L q (length L))) ≡ drop q L) → join x (pieces L (length x) p (occurrences (suc k) x L p (length L))) ≡ drop p L
pieces_case k x L p None some h more = ap (λ places. join x (pieces L (length x) p places)) (cuts_none (suc k) x L p (length L) h)
pieces_case k x L p (Some a) some h more =
    let on : a + max 1 (length x) ≡ a + length x = omega (arith, max_one (length x) some) in
    ap (λ places. join x (pieces L (length x) p places)) (cuts_some k x L p (length L) a h ∙ ap (λ q. a ∷ occurrences k x L q (length L)) on)
    ∙ joined_pieces x (slice_range L p a) L (length x) (a + length x) (occurrences k x L (a + length x) (length L))
    ∙ ap (λ r. slice_range L p a ++ (x ++ r)) (more (a + length x)) ∙ round_place x L p a (first_means x L p (length L) a h)

pieces_joined : (k : ℕ) (x L : List ℕ) (p : ℕ) → 0 < length x → join x (pieces L (length x) p (occurrences k x L p (length L))) ≡ drop p L
pieces_joined zero x L p some = refl
pieces_joined (suc k) x L p some = pieces_case k x L p (first_in x L p (length L)) some refl (λ q. pieces_joined k x L q some)

split_joined : (k : ℕ) (x L : List ℕ) → 0 < length x → join x (split k x L) ≡ L
split_joined k x L some = pieces_joined k x L 0 some

pub some_length : (x : List ℕ) → x ≢ [] → 0 < length x
some_length [] n = absurd (n refl)
some_length (c ∷ cs) n = omega arith

pub pieces_are : PiecesAreTheText
pieces_are = λ x L m n. split_joined (limit (length L) m) x L (some_length x n)

turned_some : (p : List ℕ) (ps : List (List ℕ)) → 0 < length (reverse (map reverse (p ∷ ps)))
turned_some p ps = omega (arith, length-reverse (map reverse (p ∷ ps)))

mirrored_joined : (x : List ℕ) (ps : List (List ℕ)) → join x (mirrored ps) ≡ reverse (join (reverse x) ps)
mirrored_joined x [] = refl
mirrored_joined x (p ∷ []) = refl
mirrored_joined x (p ∷ q ∷ qs) =
    ap (join x) (reverse-append (reverse p ∷ []) (map reverse (q ∷ qs))) ∙ joined_on x (mirrored (q ∷ qs)) (reverse p) (turned_some q qs)
    ∙ ap (λ r. r ++ (x ++ reverse p)) (mirrored_joined x (q ∷ qs))
    ∙ sym (reverse-append p (reverse x ++ join (reverse x) (q ∷ qs)) ∙ ap (λ r. r ++ reverse p) (reverse-append (reverse x) (join (reverse x) (q ∷ qs)) ∙ ap (λ y. reverse (join (reverse x) (q ∷ qs)) ++ y) (reverse-reverse x))
    ∙ append_assoc (reverse (join (reverse x) (q ∷ qs))) x (reverse p))

pub pieces_from_right_are : PiecesFromRightAreTheText
pieces_from_right_are = λ x L m n.
    let some : 0 < length (reverse x) = omega (arith, length-reverse x, some_length x n) in
    mirrored_joined x (split (limit (length L) m) (reverse x) (reverse L)) ∙ ap reverse (split_joined (limit (length L) m) (reverse x) (reverse L) some) ∙ reverse-reverse L

-- partitions
parted_joined : (x L : List ℕ) (a : ℕ) → OccursAt x L 0 (length L) a → take a L ++ x ++ drop (a + length x) L ≡ L
parted_joined x L a s =
    let e : a ≡ a - 0 = omega arith in
    append_assoc (take a L) x (drop (a + length x) L) ∙ ap (λ n. take n L ++ (x ++ drop (a + length x) L)) e ∙ round_place x L 0 a s

front_case : (x L : List ℕ) (o : Option ℕ) → first_in x L 0 (length L) ≡ o → let p = partition x L in p.0 ++ p.1 ++ p.2 ≡ L
front_case x L None h = ap (λ (o : Option ℕ). let p : List ℕ × List ℕ × List ℕ = elim o as (λ _. List ℕ × List ℕ × List ℕ) [ None ↦ (L, [], []) | Some a ↦ parted_at x L a ] in p.0 ++ p.1 ++ p.2) h ∙ append-nil (L ++ []) ∙ append-nil L
front_case x L (Some a) h = ap (λ (o : Option ℕ). let p : List ℕ × List ℕ × List ℕ = elim o as (λ _. List ℕ × List ℕ × List ℕ) [ None ↦ (L, [], []) | Some a ↦ parted_at x L a ] in p.0 ++ p.1 ++ p.2) h ∙ parted_joined x L a (first_means x L 0 (length L) a h)

back_case : (x L : List ℕ) (o : Option ℕ) → last_in x L 0 (length L) ≡ o → let p = rpartition x L in p.0 ++ p.1 ++ p.2 ≡ L
back_case x L None h = ap (λ (o : Option ℕ). let p : List ℕ × List ℕ × List ℕ = elim o as (λ _. List ℕ × List ℕ × List ℕ) [ None ↦ ([], [], L) | Some a ↦ parted_at x L a ] in p.0 ++ p.1 ++ p.2) h
back_case x L (Some a) h = ap (λ (o : Option ℕ). let p : List ℕ × List ℕ × List ℕ = elim o as (λ _. List ℕ × List ℕ × List ℕ) [ None ↦ ([], [], L) | Some a ↦ parted_at x L a ] in p.0 ++ p.1 ++ p.2) h ∙ parted_joined x L a (last_means x L 0 (length L) a h)

pub parts_are : PartsAreTheText
parts_are = λ x L. (front_case x L (first_in x L 0 (length L)) refl, back_case x L (last_in x L 0 (length L)) refl)

-- limits that take all
cuts_case : (k j : ℕ) (x L : List ℕ) (b e : ℕ) (o : Option ℕ) → first_in x L b e ≡ o → ((a : ℕ) → b ≤ a → occurrences (k + j) x L (a + max 1 (length x)) e ≡ occurrences k x L (a + max 1 (length x)) e) → occurrences (suc (k + j)) x L b e ≡ occurrences (suc k) x L b e
cuts_case k j x L b e None h more = cuts_none (suc (k + j)) x L b e h ∙ sym (cuts_none (suc k) x L b e h)
cuts_case k j x L b e (Some a) h more = cuts_some (k + j) x L b e a h ∙ ap (λ r. a ∷ r) (more a (first_means x L b e a h).from) ∙ sym (cuts_some k x L b e a h)

cuts_enough : (k j : ℕ) (x L : List ℕ) (b e : ℕ) → suc e ≤ b + k → occurrences (k + j) x L b e ≡ occurrences k x L b e
cuts_enough zero j x L b e h = cuts_none (0 + j) x L b e (first_outside x L b e (omega arith))
cuts_enough (suc k) j x L b e h =
    let one : suc k + j ≡ suc (k + j) = omega arith in
    ap (λ n. occurrences n x L b e) one ∙ cuts_case k j x L b e (first_in x L b e) refl (λ a g. cuts_enough k j x L (a + max 1 (length x)) e (omega arith))

pub no_more_occurrences : NoMoreOccurrences
no_more_occurrences = λ k more x L b e h. cuts_enough k more x L b e h

pub no_more_replaced : NoMoreReplaced
no_more_replaced = λ k more x y L h.
    let all : occurrences (k + more) x L 0 (length L) ≡ occurrences k x L 0 (length L) = cuts_enough k more x L 0 (length L) (omega arith) in
    (ap (pieces L (length x) 0) all, ap (λ l. join y (pieces L (length x) 0 l)) all)

skip_head_case : (q : ℕ → Bool) (d : ℕ) (ds : List ℕ) (c : ℕ) (cs : List ℕ) (t : Bool) → q d ≡ t → (skip_while q ds ≡ c ∷ cs → q c ≡ false) → skip_while q (d ∷ ds) ≡ c ∷ cs → q c ≡ false
skip_head_case q d ds c cs true h more e = more (sym (ap (λ t. if t then skip_while q ds else d ∷ ds) h) ∙ e)
skip_head_case q d ds c cs false h more e =
    let same : d ∷ ds ≡ c ∷ cs = sym (ap (λ t. if t then skip_while q ds else d ∷ ds) h) ∙ e in
    let head : d ≡ c = cc in
    subst (λ (x : ℕ). q x ≡ false) head h

skip_head : (q : ℕ → Bool) (L : List ℕ) (c : ℕ) (cs : List ℕ) → skip_while q L ≡ c ∷ cs → q c ≡ false
skip_head q [] c cs e = absurd (cc)
skip_head q (d ∷ ds) c cs e = skip_head_case q d ds c cs (q d) refl (skip_head q ds c cs) e

pub after_shorter : (c : ℕ) (cs : List ℕ) → is_ascii_whitespace c ≡ false → length (from_whitespace (c ∷ cs)) ≤ length cs
after_shorter c cs h =
    let on : from_whitespace (c ∷ cs) ≡ skip_while (λ d. not (is_ascii_whitespace d)) cs = ap (λ t. if not t then skip_while (λ d. not (is_ascii_whitespace d)) cs else c ∷ cs) h in
    omega (arith, ap length on, skip_le (λ d. not (is_ascii_whitespace d)) cs)

words_case : (k j : ℕ) (L M : List ℕ) → skip_while is_ascii_whitespace L ≡ M → length L ≤ suc k → ((R : List ℕ) → length R ≤ k → split_whitespace (k + j) R ≡ split_whitespace k R) → split_whitespace (suc (k + j)) L ≡ split_whitespace (suc k) L
words_case k j L [] e h more =
    ap (λ (M : List ℕ). elim M as (λ _. List (List ℕ)) [ [] ↦ [] | c ∷ cs ↦ until_whitespace (c ∷ cs) ∷ split_whitespace (k + j) (from_whitespace (c ∷ cs)) ]) e
    ∙ sym (ap (λ (M : List ℕ). elim M as (λ _. List (List ℕ)) [ [] ↦ [] | c ∷ cs ↦ until_whitespace (c ∷ cs) ∷ split_whitespace k (from_whitespace (c ∷ cs)) ]) e)
words_case k j L (c ∷ cs) e h more =
    let short : length (from_whitespace (c ∷ cs)) ≤ k = omega (arith, after_shorter c cs (skip_head is_ascii_whitespace L c cs e), ap length e, skip_le is_ascii_whitespace L) in
    ap (λ (M : List ℕ). elim M as (λ _. List (List ℕ)) [ [] ↦ [] | c ∷ cs ↦ until_whitespace (c ∷ cs) ∷ split_whitespace (k + j) (from_whitespace (c ∷ cs)) ]) e
    ∙ ap (λ r. until_whitespace (c ∷ cs) ∷ r) (more (from_whitespace (c ∷ cs)) short)
    ∙ sym (ap (λ (M : List ℕ). elim M as (λ _. List (List ℕ)) [ [] ↦ [] | c ∷ cs ↦ until_whitespace (c ∷ cs) ∷ split_whitespace k (from_whitespace (c ∷ cs)) ]) e)

words_of_none : (j : ℕ) → split_whitespace j [] ≡ []
words_of_none zero = refl
words_of_none (suc j) = refl

words_enough : (k j : ℕ) (L : List ℕ) → length L ≤ k → split_whitespace (k + j) L ≡ split_whitespace k L
words_enough zero j L h =
    let none : L ≡ [] = nil_from_length L (omega arith) in
    ap (split_whitespace (0 + j)) none ∙ words_of_none (0 + j) ∙ sym (ap (split_whitespace 0) none)
words_enough (suc k) j L h =
    let one : suc k + j ≡ suc (k + j) = omega arith in
    ap (λ n. split_whitespace n L) one ∙ words_case k j L (skip_while is_ascii_whitespace L) refl h (λ R g. words_enough k j R g)

pub no_more_pieces : NoMoreWhitespacePieces
no_more_pieces = λ k more L h. words_enough k more L h
