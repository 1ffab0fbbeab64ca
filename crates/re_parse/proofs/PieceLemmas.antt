-- What the first pass keeps of a state of trees, and of one piece, count, opening or bar more.
use Rattle.std.proofs.Common.{◌≡◌, refl, sym, ◌∙◌, ap, subst, ℕ, ◌+◌, Bool, true, false, List, [], ◌∷◌, ◌++◌, append_assoc, append-nil, length, arith}
use Rattle.std.specs.Prelude.{Option, Some, None}
use Rattle.re_tree.specs.declared.fault.Fault.{Fault}
use Rattle.re_parse.specs.declared.shape.Shape.{Shape}
use Rattle.re_tree.specs.declared.tree.CountMode.{CountMode}
use Rattle.re_tree.specs.PlainText.{PlainText, PlainTexts, sequence, counted, done, ◌also◌, names_of, all_names}
use Rattle.re_tree.specs.Tokens.{Opening, count_token}
use Rattle.re_tree.specs.Grammar.{is_countable}
use Rattle.re_tree.specs.Widths.{times, width}
use Rattle.re_tree.specs.Machine.{snoc, Frame, frame, State, state, groups_begun, count_last, counted_state}
use Rattle.re_tree.specs.Faults.{Where, outermost, numbers_of, all_numbers, names_at, inside, after_all, at_opening, at_count, conditionals, all_conditionals, faults, faults_in_turn, first_of}
use Rattle.re_parse.specs.FirstPass.{Opened, no_body, add_shape, end_branch, counted_if, counted_shape, construct_of, Pass, where_of, note, conditionals_at, add_piece, count_last_piece, open_pass, pass_step}
use Rattle.re_parse.proofs.FirstFaultLemmas.{first_append}
use Rattle.re_parse.proofs.PartLemmas.{count_at_last, no_count_at_last}
use Rattle.re_parse.proofs.ShapeLemmas.{shape_of, body_of, last_snoc, add_is, end_is, names_snoc, numbers_snoc, choices_snoc, turn_snoc, found_in}

-- where the inside of the innermost opening begins, and what was found before it
abbrev pub where_in : List Frame → Where
where_in [] = outermost
where_in (frame at opening number bs ps ∷ outer) = inside (after_all (after_all (where_in outer) bs) ps) number opening

abbrev pub found_before : List Frame → List Fault
found_before [] = []
found_before (frame at opening number bs ps ∷ outer) =
    (found_before outer ++ found_in (where_in outer) bs ps) ++ at_opening (after_all (after_all (where_in outer) bs) ps) at number opening

abbrev pub choices_before : List Frame → List (ℕ × ℕ)
choices_before [] = []
choices_before (frame at opening number bs ps ∷ outer) = (choices_before outer ++ (all_conditionals bs ++ all_conditionals ps)) ++ conditionals_at opening at

abbrev pub open_by : Frame → Opened
open_by (frame at opening number bs ps) = record { at = at; opening = construct_of opening; number = number; around = body_of bs ps }

abbrev pub opens_of : List Frame → List Opened
opens_of [] = []
opens_of (f ∷ outer) = open_by f ∷ opens_of outer

-- what the pass keeps of a state
abbrev pub pass_of : State → Pass
pass_of (state g outer bs ps) = record {
  groups = g;
  outer = opens_of outer;
  body = body_of bs ps;
  names = ((where_in outer).names ++ all_names bs) ++ all_names ps;
  closed = ((where_in outer).closed ++ all_numbers bs) ++ all_numbers ps;
  conditionals = choices_before outer ++ (all_conditionals bs ++ all_conditionals ps);
  first = first_of (found_before outer ++ found_in (where_in outer) bs ps);
}

pub depth_is : (outer : List Frame) → length (opens_of outer) ≡ (where_in outer).depth
depth_is [] = refl
depth_is (frame at opening number bs ps ∷ outer) = let h : length (opens_of outer) ≡ (where_in outer).depth = depth_is outer in omega (arith, h)

pub where_is : (g : ℕ) (outer : List Frame) (bs ps : PlainTexts) → where_of (pass_of (state g outer bs ps)) ≡ after_all (after_all (where_in outer) bs) ps
where_is g outer bs ps = λ i. record {
  depth = depth_is outer i;
  names = ((where_in outer).names ++ all_names bs) ++ all_names ps;
  closed = ((where_in outer).closed ++ all_numbers bs) ++ all_numbers ps;
}

-- one piece more
pub found_snoc : (w : Where) (x : List Fault) (bs ps : PlainTexts) (r : PlainText) → x ++ found_in w bs (snoc ps r) ≡ (x ++ found_in w bs ps) ++ faults (after_all (after_all w bs) ps) r
found_snoc w x bs ps r =
    ap (λ l. x ++ l) (ap (λ l. faults_in_turn w bs ++ l) (turn_snoc ps (after_all w bs) r)
    ∙ sym (append_assoc (faults_in_turn w bs) (faults_in_turn (after_all w bs) ps) (faults (after_all (after_all w bs) ps) r)))
    ∙ sym (append_assoc x (found_in w bs ps) (faults (after_all (after_all w bs) ps) r))

pub pushed : (g : ℕ) (outer : List Frame) (bs ps : PlainTexts) (r : PlainText) → pass_of (state g outer bs (snoc ps r)) ≡ (record {
  groups = g;
  outer = opens_of outer;
  body = add_shape (body_of bs ps) (shape_of r);
  names = (((where_in outer).names ++ all_names bs) ++ all_names ps) ++ names_of r;
  closed = (((where_in outer).closed ++ all_numbers bs) ++ all_numbers ps) ++ numbers_of r;
  conditionals = (choices_before outer ++ (all_conditionals bs ++ all_conditionals ps)) ++ conditionals r;
  first = first_of ((found_before outer ++ found_in (where_in outer) bs ps) ++ faults (after_all (after_all (where_in outer) bs) ps) r);
})
pushed g outer bs ps r = λ i. record {
  groups = g;
  outer = opens_of outer;
  body = add_is bs ps r i;
  names = (ap (λ l. ((where_in outer).names ++ all_names bs) ++ l) (names_snoc ps r) ∙ sym (append_assoc ((where_in outer).names ++ all_names bs) (all_names ps) (names_of r))) i;
  closed = (ap (λ l. ((where_in outer).closed ++ all_numbers bs) ++ l) (numbers_snoc ps r) ∙ sym (append_assoc ((where_in outer).closed ++ all_numbers bs) (all_numbers ps) (numbers_of r))) i;
  conditionals = (ap (λ l. choices_before outer ++ (all_conditionals bs ++ l)) (choices_snoc ps r) ∙ ap (λ l. choices_before outer ++ l) (sym (append_assoc (all_conditionals bs) (all_conditionals ps) (conditionals r))) ∙ sym (append_assoc (choices_before outer) (all_conditionals bs ++ all_conditionals ps) (conditionals r))) i;
  first = ap first_of (found_snoc (where_in outer) (found_before outer) bs ps r) i;
}

-- a piece that begins nothing
pub small : (g : ℕ) (outer : List Frame) (bs ps : PlainTexts) (r : PlainText) (s : Shape) (x : List Fault) → s ≡ shape_of r → names_of r ≡ [] → numbers_of r ≡ [] → conditionals r ≡ []
    → x ≡ faults (after_all (after_all (where_in outer) bs) ps) r
    → record (add_piece (pass_of (state g outer bs ps)) s) { first = note (first_of (found_before outer ++ found_in (where_in outer) bs ps)) x } ≡ pass_of (state g outer bs (snoc ps r))
small g outer bs ps r s x e n m k f = (λ i. record {
  groups = g;
  outer = opens_of outer;
  body = add_shape (body_of bs ps) (e i);
  names = (sym (append-nil (((where_in outer).names ++ all_names bs) ++ all_names ps)) ∙ ap (λ l. (((where_in outer).names ++ all_names bs) ++ all_names ps) ++ l) (sym n)) i;
  closed = (sym (append-nil (((where_in outer).closed ++ all_numbers bs) ++ all_numbers ps)) ∙ ap (λ l. (((where_in outer).closed ++ all_numbers bs) ++ all_numbers ps) ++ l) (sym m)) i;
  conditionals = (sym (append-nil (choices_before outer ++ (all_conditionals bs ++ all_conditionals ps))) ∙ ap (λ l. (choices_before outer ++ (all_conditionals bs ++ all_conditionals ps)) ++ l) (sym k)) i;
  first = (sym (first_append (found_before outer ++ found_in (where_in outer) bs ps) x) ∙ ap (λ l. first_of ((found_before outer ++ found_in (where_in outer) bs ps) ++ l)) f) i;
}) ∙ sym (pushed g outer bs ps r)

pub nothing_noted : (o : Option Fault) → note o [] ≡ o
nothing_noted None = refl
nothing_noted (Some a) = refl

-- a piece without faults
pub quiet : (g : ℕ) (outer : List Frame) (bs ps : PlainTexts) (r : PlainText) (s : Shape) → s ≡ shape_of r → names_of r ≡ [] → numbers_of r ≡ [] → conditionals r ≡ []
    → [] ≡ faults (after_all (after_all (where_in outer) bs) ps) r → add_piece (pass_of (state g outer bs ps)) s ≡ pass_of (state g outer bs (snoc ps r))
quiet g outer bs ps r s e n m k f =
    ap (λ z. record (add_piece (pass_of (state g outer bs ps)) s) { first = z }) (sym (nothing_noted (first_of (found_before outer ++ found_in (where_in outer) bs ps))))
    ∙ small g outer bs ps r s [] e n m k f

abbrev pub in_some : {A B : Type 0} → (A → B) → Option A → Option B
in_some h None = None
in_some h (Some x) = Some (h x)

-- a last piece, or none
pub data Ends (ps : PlainTexts) : Type 0 where
  nothing : ps ≡ done → Ends ps
  last_is : (front : PlainTexts) (r : PlainText) → ps ≡ snoc front r → Ends ps

pub one_before : (p : PlainText) (ps : PlainTexts) → Ends ps → Ends (p also ps)
one_before p ps (nothing e) = last_is done p (ap (λ l. p also l) e)
one_before p ps (last_is front r e) = last_is (p also front) r (ap (λ l. p also l) e)

pub ends_of : (ps : PlainTexts) → Ends ps
ends_of done = nothing refl
ends_of (p also ps) = one_before p ps (ends_of ps)

-- a count
abbrev pub Counts : ℕ → List Frame → PlainTexts → ℕ → ℕ → Option ℕ → CountMode → PlainTexts → Type 0
Counts g outer bs at least most mode ps =
    pass_step (pass_of (state g outer bs ps)) (count_token at least most mode) ≡ in_some pass_of (counted_state g outer bs (count_last (counted at least most mode) ps))

pub counted_pass : (g : ℕ) (outer : List Frame) (bs front : PlainTexts) (r : PlainText) (at least : ℕ) (most : Option ℕ) (mode : CountMode)
    → count_last_piece (pass_of (state g outer bs (snoc front r))) (at_count at least most) (Some (record { countable = false; width = times least most (width r) }))
    ≡ Some (pass_of (state g outer bs (snoc front (counted at least most mode r))))
counted_pass g outer bs front r at least most mode =
    ap (λ p. count_last_piece p (at_count at least most) (Some (record { countable = false; width = times least most (width r) }))) (pushed g outer bs front r)
    ∙ (λ i. Some (record {
      groups = g;
      outer = opens_of outer;
      body = add_shape (body_of bs front) (shape_of (counted at least most mode r));
      names = (((where_in outer).names ++ all_names bs) ++ all_names front) ++ names_of r;
      closed = (((where_in outer).closed ++ all_numbers bs) ++ all_numbers front) ++ numbers_of r;
      conditionals = (choices_before outer ++ (all_conditionals bs ++ all_conditionals front)) ++ conditionals r;
      first = (sym (first_append ((found_before outer ++ found_in (where_in outer) bs front) ++ faults (after_all (after_all (where_in outer) bs) front) r) (at_count at least most))
          ∙ ap first_of (append_assoc (found_before outer ++ found_in (where_in outer) bs front) (faults (after_all (after_all (where_in outer) bs) front) r) (at_count at least most))) i;
    }))
    ∙ ap Some (sym (pushed g outer bs front (counted at least most mode r)))

pub count_at : (g : ℕ) (outer : List Frame) (bs front : PlainTexts) (r : PlainText) (at least : ℕ) (most : Option ℕ) (mode : CountMode) (b : Bool) → is_countable r ≡ b
    → Counts g outer bs at least most mode (snoc front r)
count_at g outer bs front r at least most mode true e =
    ap (count_last_piece (pass_of (state g outer bs (snoc front r))) (at_count at least most))
    (ap (counted_shape least most) (last_snoc front r) ∙ ap (λ t. counted_if t least most (width r)) e)
    ∙ counted_pass g outer bs front r at least most mode
    ∙ ap (λ o. in_some pass_of (counted_state g outer bs o)) (sym (count_at_last (counted at least most mode) front r e))
count_at g outer bs front r at least most mode false e =
    ap (count_last_piece (pass_of (state g outer bs (snoc front r))) (at_count at least most))
    (ap (counted_shape least most) (last_snoc front r) ∙ ap (λ t. counted_if t least most (width r)) e)
    ∙ ap (λ o. in_some pass_of (counted_state g outer bs o)) (sym (no_count_at_last (counted at least most mode) front r e))

pub count_step : (g : ℕ) (outer : List Frame) (bs ps : PlainTexts) (at least : ℕ) (most : Option ℕ) (mode : CountMode) → Ends ps → Counts g outer bs at least most mode ps
count_step g outer bs ps at least most mode (nothing e) = subst (λ q. Counts g outer bs at least most mode q) (sym e) refl
count_step g outer bs ps at least most mode (last_is front r e) =
    subst (λ q. Counts g outer bs at least most mode q) (sym e) (count_at g outer bs front r at least most mode (is_countable r) refl)

-- an opening
pub open_step : (g : ℕ) (outer : List Frame) (bs ps : PlainTexts) (at : ℕ) (opening : Opening)
    → open_pass (pass_of (state g outer bs ps)) at opening ≡ pass_of (state (g + groups_begun opening) (frame at opening (g + 1) bs ps ∷ outer) done done)
open_step g outer bs ps at opening = λ i. record {
  groups = g + groups_begun opening;
  outer = open_by (frame at opening (g + 1) bs ps) ∷ opens_of outer;
  body = no_body;
  names = (sym (append-nil (((((where_in outer).names ++ all_names bs) ++ all_names ps) ++ names_at (g + 1) opening) ++ []) ∙ append-nil ((((where_in outer).names ++ all_names bs) ++ all_names ps) ++ names_at (g + 1) opening))) i;
  closed = (sym (append-nil ((((where_in outer).closed ++ all_numbers bs) ++ all_numbers ps) ++ []) ∙ append-nil (((where_in outer).closed ++ all_numbers bs) ++ all_numbers ps))) i;
  conditionals = sym (append-nil ((choices_before outer ++ (all_conditionals bs ++ all_conditionals ps)) ++ conditionals_at opening at)) i;
  first = (ap (λ w. note (first_of (found_before outer ++ found_in (where_in outer) bs ps)) (at_opening w at (g + 1) opening)) (where_is g outer bs ps)
      ∙ sym (first_append (found_before outer ++ found_in (where_in outer) bs ps) (at_opening (after_all (after_all (where_in outer) bs) ps) at (g + 1) opening))
      ∙ ap first_of (sym (append-nil ((found_before outer ++ found_in (where_in outer) bs ps) ++ at_opening (after_all (after_all (where_in outer) bs) ps) at (g + 1) opening)))) i;
}

-- a bar
pub bar_step : (g : ℕ) (outer : List Frame) (bs ps : PlainTexts) → record (pass_of (state g outer bs ps)) { body = end_branch (body_of bs ps) } ≡ pass_of (state g outer (snoc bs (sequence ps)) done)
bar_step g outer bs ps = λ i. record {
  groups = g;
  outer = opens_of outer;
  body = sym (end_is bs ps) i;
  names = (append_assoc (where_in outer).names (all_names bs) (all_names ps) ∙ ap (λ l. (where_in outer).names ++ l) (sym (names_snoc bs (sequence ps))) ∙ sym (append-nil ((where_in outer).names ++ all_names (snoc bs (sequence ps))))) i;
  closed = (append_assoc (where_in outer).closed (all_numbers bs) (all_numbers ps) ∙ ap (λ l. (where_in outer).closed ++ l) (sym (numbers_snoc bs (sequence ps))) ∙ sym (append-nil ((where_in outer).closed ++ all_numbers (snoc bs (sequence ps))))) i;
  conditionals = ap (λ l. choices_before outer ++ l) (sym (choices_snoc bs (sequence ps)) ∙ sym (append-nil (all_conditionals (snoc bs (sequence ps))))) i;
  first = ap (λ l. first_of (found_before outer ++ l)) (sym (turn_snoc bs (where_in outer) (sequence ps)) ∙ sym (append-nil (faults_in_turn (where_in outer) (snoc bs (sequence ps))))) i;
}
