-- What is needed of parts, and what one part more adds to it.
use Rattle.std.proofs.Common.{◌≡◌, refl, sym, ◌∙◌, ap, ℕ, ◌==◌, Bool, true, false, List, ◌++◌, append_assoc, append-nil, arith}
use Rattle.std.specs.Prelude.{Option, Some, None, cond}
use Rattle.std.proofs.lemmas.Bool.Decides.{nat_tests}
use Rattle.re_tree.specs.declared.fault.Fault.{Fault}
use Rattle.re_parse.specs.declared.shape.Ended.{Ended}
use Rattle.re_parse.specs.declared.shape.Ended.TheVariants.{Zero, One, More}
use Rattle.re_parse.specs.declared.shape.Shape.{Shape}
use Rattle.re_parse.specs.declared.shape.Body.{Body}
use Rattle.re_tree.specs.PlainText.{PlainText, PlainTexts, sequence, done, ◌also◌, names_of, all_names}
use Rattle.re_tree.specs.Grammar.{is_countable}
use Rattle.re_tree.specs.Widths.{plus, common, width, sum_of_widths, common_width}
use Rattle.re_tree.specs.Machine.{snoc, regex_of}
use Rattle.re_tree.specs.Faults.{Where, numbers_of, all_numbers, after, after_all, conditionals, all_conditionals, faults, faults_in_turn}
use Rattle.re_parse.specs.FirstPass.{with_last, add_shape, next, joined_with, body_width, end_branch}

-- widths
pub plus_zero : (w : Option ℕ) → plus (Some 0) w ≡ plus w (Some 0)
plus_zero None = refl
plus_zero (Some a) = ap Some (omega arith)

pub plus_plus : (x y z : Option ℕ) → plus (plus x y) z ≡ plus x (plus y z)
plus_plus None y z = refl
plus_plus (Some a) None z = refl
plus_plus (Some a) (Some b) None = refl
plus_plus (Some a) (Some b) (Some c) = ap Some (omega arith)

pub common_of_three : (x y : Bool) (a b c : ℕ) → (a == b) ≡ x → (b == c) ≡ y → common (cond x (Some a) None) (Some c) ≡ common (Some a) (cond y (Some b) None)
common_of_three true true a b c e f = ap (λ t. cond t (Some a) None) (grind (arith, nat_tests, e, f))
common_of_three true false a b c e f = let g : (a == c) ≡ false = grind (arith, nat_tests, e, f) in ap (λ t. cond t (Some a) None) g
common_of_three false true a b c e f = sym (ap (λ t. cond t (Some a) None) e)
common_of_three false false a b c e f = refl

pub common_common : (x y z : Option ℕ) → common (common x y) z ≡ common x (common y z)
common_common None y z = refl
common_common (Some a) None z = refl
common_common (Some a) (Some b) None = at (a == b)
  where
    at : (t : Bool) → common (cond t (Some a) None) None ≡ None
    at true = refl
    at false = refl
common_common (Some a) (Some b) (Some c) = common_of_three (a == b) (b == c) a b c refl refl

-- what is needed of parts
abbrev pub shape_of : PlainText → Shape
shape_of r = record { countable = is_countable r; width = width r }

abbrev pub count_of : PlainTexts → Ended
count_of done = Zero
count_of (r also done) = One
count_of (r also q also rs) = More

abbrev pub before_of : PlainTexts → Option ℕ
before_of done = Some 0
before_of (r also done) = Some 0
before_of (r also q also rs) = plus (width r) (before_of (q also rs))

abbrev pub last_of : PlainTexts → Option Shape
last_of done = None
last_of (r also done) = Some (shape_of r)
last_of (r also q also rs) = last_of (q also rs)

abbrev pub body_of : PlainTexts → PlainTexts → Body
body_of bs ps = record { ended = count_of bs; joined = common_width bs; before = before_of ps; last = last_of ps }

pub last_snoc : (ps : PlainTexts) (r : PlainText) → last_of (snoc ps r) ≡ Some (shape_of r)
last_snoc done r = refl
last_snoc (p also done) r = refl
last_snoc (p also q also ps) r = last_snoc (q also ps) r

pub before_snoc : (ps : PlainTexts) (r : PlainText) → before_of (snoc ps r) ≡ sum_of_widths ps
before_snoc done r = refl
before_snoc (p also done) r = refl
before_snoc (p also q also ps) r = ap (plus (width p)) (before_snoc (q also ps) r)

pub with_last_plus : (w b : Option ℕ) (l : Option Shape) → with_last (plus w b) l ≡ plus w (with_last b l)
with_last_plus w b None = refl
with_last_plus w b (Some s) = plus_plus w b s.width

pub pieces_is : (ps : PlainTexts) → with_last (before_of ps) (last_of ps) ≡ sum_of_widths ps
pieces_is done = refl
pieces_is (r also done) = plus_zero (width r)
pieces_is (r also q also rs) = with_last_plus (width r) (before_of (q also rs)) (last_of (q also rs)) ∙ ap (plus (width r)) (pieces_is (q also rs))

pub count_snoc : (bs : PlainTexts) (q : PlainText) → count_of (snoc bs q) ≡ next (count_of bs)
count_snoc done q = refl
count_snoc (b also done) q = refl
count_snoc (b also c also bs) q = refl

pub joined_more : (c : PlainText) (bs : PlainTexts) (j w : Option ℕ) → joined_with (count_of (c also bs)) j w ≡ common j w
joined_more c done j w = refl
joined_more c (d also bs) j w = refl

pub joined_snoc : (bs : PlainTexts) (q : PlainText) → common_width (snoc bs q) ≡ joined_with (count_of bs) (common_width bs) (width q)
joined_snoc done q = refl
joined_snoc (b also done) q = refl
joined_snoc (b also c also bs) q =
    ap (common (width b)) (joined_snoc (c also bs) q ∙ joined_more c bs (common_width (c also bs)) (width q)) ∙ sym (common_common (width b) (common_width (c also bs)) (width q))

pub body_width_is : (bs ps : PlainTexts) → body_width (body_of bs ps) ≡ width (regex_of bs ps)
body_width_is done ps = pieces_is ps
body_width_is (b also bs) ps = ap (joined_with (count_of (b also bs)) (common_width (b also bs))) (pieces_is ps) ∙ sym (joined_snoc (b also bs) (sequence ps))

pub add_is : (bs ps : PlainTexts) (r : PlainText) → body_of bs (snoc ps r) ≡ add_shape (body_of bs ps) (shape_of r)
add_is bs ps r = λ i. record { ended = count_of bs; joined = common_width bs; before = (before_snoc ps r ∙ sym (pieces_is ps)) i; last = last_snoc ps r i }

pub end_is : (bs ps : PlainTexts) → body_of (snoc bs (sequence ps)) done ≡ end_branch (body_of bs ps)
end_is bs ps = λ i. record { ended = count_snoc bs (sequence ps) i; joined = (joined_snoc bs (sequence ps) ∙ ap (joined_with (count_of bs) (common_width bs)) (sym (pieces_is ps))) i; before = Some 0; last = None }

-- one part more
pub names_snoc : (ps : PlainTexts) (r : PlainText) → all_names (snoc ps r) ≡ all_names ps ++ names_of r
names_snoc done r = append-nil (names_of r)
names_snoc (p also ps) r = ap (λ l. names_of p ++ l) (names_snoc ps r) ∙ sym (append_assoc (names_of p) (all_names ps) (names_of r))

pub numbers_snoc : (ps : PlainTexts) (r : PlainText) → all_numbers (snoc ps r) ≡ all_numbers ps ++ numbers_of r
numbers_snoc done r = append-nil (numbers_of r)
numbers_snoc (p also ps) r = ap (λ l. numbers_of p ++ l) (numbers_snoc ps r) ∙ sym (append_assoc (numbers_of p) (all_numbers ps) (numbers_of r))

pub choices_snoc : (ps : PlainTexts) (r : PlainText) → all_conditionals (snoc ps r) ≡ all_conditionals ps ++ conditionals r
choices_snoc done r = append-nil (conditionals r)
choices_snoc (p also ps) r = ap (λ l. conditionals p ++ l) (choices_snoc ps r) ∙ sym (append_assoc (conditionals p) (all_conditionals ps) (conditionals r))

pub after_none : (w : Where) → after_all w done ≡ w
after_none w = λ i. record { depth = w.depth; names = append-nil w.names i; closed = append-nil w.closed i }

pub after_one : (w : Where) (p : PlainText) (ps : PlainTexts) → after_all (after w p) ps ≡ after_all w (p also ps)
after_one w p ps = λ i. record { depth = w.depth; names = append_assoc w.names (names_of p) (all_names ps) i; closed = append_assoc w.closed (numbers_of p) (all_numbers ps) i }

pub after_snoc : (w : Where) (ps : PlainTexts) (r : PlainText) → after_all w (snoc ps r) ≡ after (after_all w ps) r
after_snoc w ps r = λ i. record {
  depth = w.depth;
  names = (ap (λ l. w.names ++ l) (names_snoc ps r) ∙ sym (append_assoc w.names (all_names ps) (names_of r))) i;
  closed = (ap (λ l. w.closed ++ l) (numbers_snoc ps r) ∙ sym (append_assoc w.closed (all_numbers ps) (numbers_of r))) i;
}

pub turn_snoc : (ps : PlainTexts) (w : Where) (r : PlainText) → faults_in_turn w (snoc ps r) ≡ faults_in_turn w ps ++ faults (after_all w ps) r
turn_snoc done w r = append-nil (faults w r) ∙ ap (λ v. faults v r) (sym (after_none w))
turn_snoc (p also ps) w r =
    ap (λ l. faults w p ++ l) (turn_snoc ps (after w p) r ∙ ap (λ v. faults_in_turn (after w p) ps ++ faults v r) (after_one w p ps))
    ∙ sym (append_assoc (faults w p) (faults_in_turn (after w p) ps) (faults (after_all w (p also ps)) r))

-- the faults of branches and of the pieces of the last
abbrev pub found_in : Where → PlainTexts → PlainTexts → List Fault
found_in w bs ps = faults_in_turn w bs ++ faults_in_turn (after_all w bs) ps

pub regex_found : (w : Where) (bs ps : PlainTexts) → faults w (regex_of bs ps) ≡ found_in w bs ps
regex_found w done ps = ap (λ v. faults_in_turn v ps) (sym (after_none w))
regex_found w (b also bs) ps = turn_snoc (b also bs) w (sequence ps)

pub regex_names : (bs ps : PlainTexts) → names_of (regex_of bs ps) ≡ all_names bs ++ all_names ps
regex_names done ps = refl
regex_names (b also bs) ps = names_snoc (b also bs) (sequence ps)

pub regex_numbers : (bs ps : PlainTexts) → numbers_of (regex_of bs ps) ≡ all_numbers bs ++ all_numbers ps
regex_numbers done ps = refl
regex_numbers (b also bs) ps = numbers_snoc (b also bs) (sequence ps)

pub regex_choices : (bs ps : PlainTexts) → conditionals (regex_of bs ps) ≡ all_conditionals bs ++ all_conditionals ps
regex_choices done ps = refl
regex_choices (b also bs) ps = choices_snoc (b also bs) (sequence ps)
