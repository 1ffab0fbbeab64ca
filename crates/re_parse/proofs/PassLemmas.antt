-- The first pass keeps what the trees of the machine's state say.
use Rattle.std.proofs.Common.{◌≡◌, refl, sym, ◌∙◌, ap, ℕ, Bool, true, false, List, [], ◌∷◌, ◌++◌, append_assoc, append-nil, length, arith}
use Rattle.std.specs.Prelude.{Option, Some, None}
use Rattle.re_tree.specs.declared.fault.Fault.{Fault}
use Rattle.re_parse.specs.declared.shape.Shape.{Shape}
use Rattle.re_tree.specs.PlainText.{GroupName, numbered, named, PlainText, PlainTexts, unit, anchor, reference, done, ◌also◌, names_of, all_names, captures}
use Rattle.re_tree.specs.Tokens.{Opening, capturing, non_capturing, atomic_opening, look_opening, conditional_opening, Token, unit_token, anchor_token, reference_token, count_token, open_token, bar, close}
use Rattle.re_tree.specs.Grammar.{Flags}
use Rattle.re_tree.specs.Reading.{all_tokens}
use Rattle.re_tree.specs.Widths.{common, width}
use Rattle.re_tree.specs.Machine.{Frame, frame, State, state, regex_of, part_of, closed_state, step, step_on, run, run_on, finish, tree_of_all, read_tree}
use Rattle.re_tree.specs.Faults.{Where, outermost, numbers_of, all_numbers, names_at, inside, after, after_all, at_reference, at_opening, conditional_of, conditionals, all_conditionals, conditional_faults, faults, faults_in_turn, first_of}
use Rattle.re_parse.specs.FirstPass.{add_shape, body_width, construct_of, closed_shape, close_faults, where_of, numbers_at, conditionals_at, close_with, pass_step, pass_end, pass_over, first_pass}
use Rattle.re_parse.specs.Walk.{next_state, last_state}
use Rattle.re_tree.specs.Faults.{diagnosis_of}
use Rattle.re_parse.proofs.FirstFaultLemmas.{first_append}
use Rattle.re_tree.proofs.SpelledLemmas.{regex_captures, runs_on}
use Rattle.re_parse.proofs.ShapeLemmas.{shape_of, body_of, pieces_is, body_width_is, after_none, found_in, regex_found, regex_names, regex_numbers, regex_choices}
use Rattle.re_parse.proofs.PieceLemmas.{where_in, found_before, choices_before, open_by, opens_of, pass_of, where_is, pushed, small, quiet, in_some, ends_of, count_step, open_step, bar_step}

-- what a part has of its opening and of its body
record Part (w : Where) (at number : ℕ) (opening : Opening) (bs ps : PlainTexts) (r : PlainText) : Type 0 where
  names : names_of r ≡ names_at number opening ++ (all_names bs ++ all_names ps)
  numbers : numbers_of r ≡ (all_numbers bs ++ all_numbers ps) ++ numbers_at (construct_of opening) number
  chosen : conditionals r ≡ conditionals_at opening at ++ (all_conditionals bs ++ all_conditionals ps)
  found : faults w r ≡ at_opening w at number opening ++ (found_in (inside w number opening) bs ps ++ close_faults at (construct_of opening) (body_width (body_of bs ps)))
  shape : closed_shape (construct_of opening) (body_of bs ps) ≡ Some (shape_of r)

abbrev PartIs : Where → ℕ → ℕ → Opening → PlainTexts → PlainTexts → Option PlainText → Type 0
PartIs w at number opening bs ps None = closed_shape (construct_of opening) (body_of bs ps) ≡ None
PartIs w at number opening bs ps (Some r) = Part w at number opening bs ps r

-- a body without a test at its end
quiet_end : (w v : Where) (at : ℕ) (opening : Opening) (bs ps : PlainTexts) (x : List Fault) → x ++ faults v (regex_of bs ps) ≡ x ++ (found_in v bs ps ++ [])
quiet_end w v at opening bs ps x = ap (λ l. x ++ l) (regex_found v bs ps ∙ sym (append-nil (found_in v bs ps)))

shape_is : (b : Bool) (bs ps : PlainTexts) → ◌≡◌ {A = Option Shape} (Some (record { countable = b; width = body_width (body_of bs ps) })) (Some (record { countable = b; width = width (regex_of bs ps) }))
shape_is b bs ps = ap (λ w. Some (record { countable = b; width = w })) (body_width_is bs ps)

same_choice : (w : Where) (at number : ℕ) (id : GroupName) → at_opening w at 0 (conditional_opening id) ≡ at_opening w at number (conditional_opening id)
same_choice w at number (numbered n) = refl
same_choice w at number (named name) = refl

after_single : (w : Where) (b : PlainText) → after w b ≡ after_all w (b also done)
after_single w b = λ i. record { depth = w.depth; names = w.names ++ sym (append-nil (names_of b)) i; closed = w.closed ++ sym (append-nil (numbers_of b)) i }

part_is : (w : Where) (at number : ℕ) (opening : Opening) (bs ps : PlainTexts) → PartIs w at number opening bs ps (part_of opening at number bs ps)
part_is w at number (capturing name) bs ps = record {
  names = ap (λ l. names_at number (capturing name) ++ l) (regex_names bs ps);
  numbers = ap (λ l. l ++ number ∷ []) (regex_numbers bs ps);
  chosen = regex_choices bs ps;
  found = quiet_end w (inside w number (capturing name)) at (capturing name) bs ps (at_opening w at number (capturing name));
  shape = shape_is true bs ps;
}
part_is w at number non_capturing bs ps = record {
  names = regex_names bs ps;
  numbers = regex_numbers bs ps ∙ sym (append-nil (all_numbers bs ++ all_numbers ps));
  chosen = regex_choices bs ps;
  found = quiet_end w (inside w number non_capturing) at non_capturing bs ps (at_opening w at number non_capturing);
  shape = shape_is true bs ps;
}
part_is w at number atomic_opening bs ps = record {
  names = regex_names bs ps;
  numbers = regex_numbers bs ps ∙ sym (append-nil (all_numbers bs ++ all_numbers ps));
  chosen = regex_choices bs ps;
  found = quiet_end w (inside w number atomic_opening) at atomic_opening bs ps (at_opening w at number atomic_opening);
  shape = shape_is true bs ps;
}
part_is w at number (look_opening positive true) bs ps = record {
  names = regex_names bs ps;
  numbers = regex_numbers bs ps ∙ sym (append-nil (all_numbers bs ++ all_numbers ps));
  chosen = regex_choices bs ps;
  found = ap (λ l. at_opening w at number (look_opening positive true) ++ l)
      (λ i. regex_found (inside w number (look_opening positive true)) bs ps i ++ close_faults at (construct_of (look_opening positive true)) (sym (body_width_is bs ps) i));
  shape = refl;
}
part_is w at number (look_opening positive false) bs ps = record {
  names = regex_names bs ps;
  numbers = regex_numbers bs ps ∙ sym (append-nil (all_numbers bs ++ all_numbers ps));
  chosen = regex_choices bs ps;
  found = ap (λ l. at_opening w at number (look_opening positive false) ++ l)
      (λ i. regex_found (inside w number (look_opening positive false)) bs ps i ++ close_faults at (construct_of (look_opening positive false)) (sym (body_width_is bs ps) i));
  shape = refl;
}
part_is w at number (conditional_opening id) done ps = record {
  names = refl;
  numbers = sym (append-nil (all_numbers ps));
  chosen = refl;
  found = (λ i. same_choice w at number id i ++ sym (append-nil (faults_in_turn (sym (after_none (inside w number (conditional_opening id))) i) ps)) i);
  shape = ap (λ w. Some (record { countable = true; width = common w (Some 0) })) (pieces_is ps);
}
part_is w at number (conditional_opening id) (b also done) ps = record {
  names = ap (λ l. l ++ all_names ps) (sym (append-nil (names_of b)));
  numbers = ap (λ l. l ++ all_numbers ps) (sym (append-nil (numbers_of b))) ∙ sym (append-nil ((numbers_of b ++ []) ++ all_numbers ps));
  chosen = ap (λ l. conditional_of at id ++ (l ++ all_conditionals ps)) (sym (append-nil (conditionals b)));
  found = (λ i. same_choice w at number id i
      ++ (ap (λ l. l ++ faults_in_turn (after (inside w number (conditional_opening id)) b) ps) (sym (append-nil (faults (inside w number (conditional_opening id)) b)))
      ∙ ap (λ v. (faults (inside w number (conditional_opening id)) b ++ []) ++ faults_in_turn v ps) (after_single (inside w number (conditional_opening id)) b)
      ∙ sym (append-nil (found_in (inside w number (conditional_opening id)) (b also done) ps))) i);
  shape = ap (λ w. Some (record { countable = true; width = common (width b) w })) (pieces_is ps);
}
part_is w at number (conditional_opening id) (b also c also bs) ps = refl

-- a closing parenthesis
closes_as : (g : ℕ) (outer : List Frame) (at number : ℕ) (opening : Opening) (around before bs ps : PlainTexts) (o : Option PlainText)
    → PartIs (after_all (after_all (where_in outer) around) before) at number opening bs ps o
    → pass_step (pass_of (state g (frame at opening number around before ∷ outer) bs ps)) close ≡ in_some pass_of (closed_state g outer around before o)
closes_as g outer at number opening around before bs ps None h =
    ap (close_with (pass_of (state g (frame at opening number around before ∷ outer) bs ps)) (open_by (frame at opening number around before)) (opens_of outer)) h
closes_as g outer at number opening around before bs ps (Some r) h =
    ap (close_with (pass_of (state g (frame at opening number around before ∷ outer) bs ps)) (open_by (frame at opening number around before)) (opens_of outer)) h.shape
    ∙ (λ i. Some (record {
      groups = g;
      outer = opens_of outer;
      body = add_shape (body_of around before) (shape_of r);
      names = (append_assoc (w.names ++ names_at number opening) (all_names bs) (all_names ps) ∙ append_assoc w.names (names_at number opening) (all_names bs ++ all_names ps) ∙ ap (λ l. w.names ++ l) (sym h.names)) i;
      closed = (ap (λ l. l ++ numbers_at (construct_of opening) number) (append_assoc w.closed (all_numbers bs) (all_numbers ps))
          ∙ append_assoc w.closed (all_numbers bs ++ all_numbers ps) (numbers_at (construct_of opening) number) ∙ ap (λ l. w.closed ++ l) (sym h.numbers)) i;
      conditionals = (append_assoc (choices_before outer ++ (all_conditionals around ++ all_conditionals before)) (conditionals_at opening at) (all_conditionals bs ++ all_conditionals ps)
          ∙ ap (λ l. (choices_before outer ++ (all_conditionals around ++ all_conditionals before)) ++ l) (sym h.chosen)) i;
      first = (sym (first_append ((x ++ at_opening w at number opening) ++ found_in (inside w number opening) bs ps) (close_faults at (construct_of opening) (body_width (body_of bs ps))))
          ∙ ap first_of (append_assoc (x ++ at_opening w at number opening) (found_in (inside w number opening) bs ps) (close_faults at (construct_of opening) (body_width (body_of bs ps)))
          ∙ append_assoc x (at_opening w at number opening) (found_in (inside w number opening) bs ps ++ close_faults at (construct_of opening) (body_width (body_of bs ps)))
          ∙ ap (λ l. x ++ l) (sym h.found))) i;
    }))
    ∙ ap Some (sym (pushed g outer around before r))
  where
    w : Where
    w = after_all (after_all (where_in outer) around) before

    x : List Fault
    x = found_before outer ++ found_in (where_in outer) around before

-- a step of the pass is a step of the machine
pub step_by : (s : State) (t : Token) → pass_step (pass_of s) t ≡ in_some pass_of (step s t)
step_by (state g outer bs ps) (unit_token test) = ap Some (quiet g outer bs ps (unit test) (record { countable = true; width = Some 1 }) refl refl refl refl refl)
step_by (state g outer bs ps) (anchor_token k) = ap Some (quiet g outer bs ps (anchor k) (record { countable = false; width = Some 0 }) refl refl refl refl refl)
step_by (state g outer bs ps) (reference_token at id) =
    ap Some (small g outer bs ps (reference at id) (record { countable = true; width = None }) (at_reference (where_of (pass_of (state g outer bs ps))) at id) refl refl refl refl
    (ap (λ w. at_reference w at id) (where_is g outer bs ps)))
step_by (state g outer bs ps) (count_token at least most mode) = count_step g outer bs ps at least most mode (ends_of ps)
step_by (state g outer bs ps) (open_token at opening) = ap Some (open_step g outer bs ps at opening)
step_by (state g outer bs ps) bar = ap Some (bar_step g outer bs ps)
step_by (state g [] bs ps) close = refl
step_by (state g (frame at opening number around before ∷ outer) bs ps) close =
    closes_as g outer at number opening around before bs ps (part_of opening at number bs ps)
    (part_is (after_all (after_all (where_in outer) around) before) at number opening bs ps)

step_on_by : (o : Option State) (t : Token) → next_state pass_step (in_some pass_of o) t ≡ in_some pass_of (step_on o t)
step_on_by None t = refl
step_on_by (Some s) t = step_by s t

pub runs_by : (ts : List Token) (o : Option State) → last_state pass_step (in_some pass_of o) ts ≡ in_some pass_of (run_on o ts)
runs_by [] o = refl
runs_by (t ∷ ts) o = ap (λ p. last_state pass_step p ts) (step_on_by o t) ∙ runs_by ts (step_on o t)

-- at the end
ends_as : (ts : List Token) (o : Option State) → run (state 0 [] done done) ts ≡ o → pass_end (in_some pass_of o) ≡ diagnosis_of (finish o)
ends_as ts None e = refl
ends_as ts (Some (state g (f ∷ outer) bs ps)) e = refl
ends_as ts (Some (state g [] bs ps)) e =
    let h = runs_on ts (state 0 [] done done) (state g [] bs ps) (tt, tt, tt, refl) e in
    let n : g ≡ captures (regex_of bs ps) = omega (arith, h.0.3, regex_captures bs ps) in
    ap Some (sym (first_append (found_in outermost bs ps) (conditional_faults g (all_conditionals bs ++ all_conditionals ps)))
    ∙ (λ i. first_of (sym (regex_found outermost bs ps) i ++ conditional_faults (n i) (sym (regex_choices bs ps) i))))

over_all : (o : Option (List Token)) → pass_over o ≡ diagnosis_of (tree_of_all o)
over_all None = refl
over_all (Some ts) = ap pass_end (runs_by ts (Some (state 0 [] done done))) ∙ ends_as ts (run (state 0 [] done done) ts) refl

pub agrees : (text : List ℕ) (flags : Flags) → first_pass flags text ≡ diagnosis_of (read_tree flags text)
agrees text flags = over_all (all_tokens flags (length text) (length text) text)
