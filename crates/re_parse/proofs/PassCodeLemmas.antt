-- The first pass in memory, a token at a time.
use Rattle.std.proofs.Common.{◌≡◌, refl, sym, ◌∙◌, ap, ℕ, suc, ◌+◌, ◌≤◌, ◌<◌, ◌==◌, Bool, true, List, [], ◌∷◌, ◌++◌, append-nil, length, drop, drop-cons, get_or, add-one, arith}
use Rattle.std.proofs.lemmas.Bool.Decides.{nat_tests}
use Rattle.std.specs.Prelude.{Option, Some, None, nat_lt, ◌||◌}
use Rattle.re_tree.specs.declared.fault.Fault.{Fault}
use Rattle.re_tree.specs.declared.fault.FaultKind.TheVariants.{BadReference}
use Rattle.py_str.specs.TestsOf.{isidentifier}
use Rattle.re_tree.specs.PlainText.{Names}
use Rattle.re_tree.specs.Tokens.{Opening}
use Rattle.re_tree.specs.Machine.{groups_begun}
use Rattle.re_tree.specs.Faults.{is_identifier, is_past, names_at, at_opening, only_if, conditional_faults}
use Rattle.re_parse.specs.declared.shape.Shape.{Shape}
use Rattle.re_parse.specs.declared.shape.Body.{Body}
use Rattle.re_parse.specs.declared.construct.Construct.{Construct}
use Rattle.re_parse.specs.declared.groups.Conditional.{Conditional}
use Rattle.re_parse.specs.FirstPass.{note, no_body, construct_of, conditionals_at, numbers_at, where_of, add_shape, body_width, closed_shape, close_faults, close_with, close_pass, open_pass, diagnosis_at, Opened, Pass}
use Rattle.re_parse.specs.Groups.{conditionals_in}
use Rattle.re_parse.specs.PassView.{onto}
use Rattle.re_parse.proofs.FirstFaultLemmas.{note_more}

pub same_identifiers : (name : List ℕ) → isidentifier name ≡ is_identifier name
same_identifiers [] = refl
same_identifiers (c ∷ cs) = refl

-- a number that no `usize` holds is past all groups
pub past_all : (count number : ℕ) → count ≤ 18446744073709551615 → 18446744073709551615 < number → true ≡ (number == 0 || nat_lt count number)
past_all count number h k = grind (arith, nat_tests)

pub no_name : (names : Names) → names ≡ names ++ []
no_name names = sym (append-nil names)

pub no_conditional : (xs : List (ℕ × ℕ)) → xs ≡ xs ++ []
no_conditional xs = sym (append-nil xs)

pub no_number : (ns : List ℕ) → ns ≡ ns ++ []
no_number ns = sym (append-nil ns)

pub nothing_more : (o : Option Fault) (xs : List Fault) → note o xs ≡ note o (xs ++ [])
nothing_more o xs = ap (note o) (sym (append-nil xs))

pub conditionals_push : (xs : List Conditional) (x : Conditional) → conditionals_in (xs ++ x ∷ []) ≡ conditionals_in xs ++ (x.at, x.number) ∷ []
conditionals_push [] x = refl
conditionals_push (y ∷ xs) x = ap (λ l. (y.at, y.number) ∷ l) (conditionals_push xs x)

-- what is open in memory
pub onto_push : (fs : List Opened) (f : Opened) (outer : List Opened) → onto (fs ++ f ∷ []) outer ≡ f ∷ onto fs outer
onto_push [] f outer = refl
onto_push (g ∷ fs) f outer = onto_push fs f (g ∷ outer)

onto_length : (fs outer : List Opened) → length (onto fs outer) ≡ length fs + length outer
onto_length [] outer = omega arith
onto_length (f ∷ fs) outer = let h : length (onto fs (f ∷ outer)) ≡ length fs + length (f ∷ outer) = onto_length fs (f ∷ outer) in omega (arith, h)

pub onto_long : (fs : List Opened) → length (onto fs []) ≡ length fs
onto_long fs = let h : length (onto fs []) ≡ length fs + length {A = Opened} [] = onto_length fs [] in omega (arith, h)

-- nothing is said where something is open
none_said : (p : Pass) (fs : List Opened) (f : Opened) (outer : List Opened) → diagnosis_at p (onto fs (f ∷ outer)) ≡ None
none_said p [] f outer = refl
none_said p (g ∷ fs) f outer = none_said p fs g (f ∷ outer)

pub still_open : (p : Pass) (fs : List Opened) → (fs ≡ [] → ⊥) → None ≡ diagnosis_at p (onto fs [])
still_open p [] h = absurd (h refl)
still_open p (f ∷ fs) h = sym (none_said p fs f [])

-- an opening
pub opens_as : (old : Pass) (at number groups : ℕ) (o : Opening) (names : Names) (conditionals : List (ℕ × ℕ)) (outer front : List Opened) (construct : Construct) (body : Body) (first : Option Fault)
    → number ≡ old.groups + 1 → groups ≡ old.groups + groups_begun o → names ≡ old.names ++ names_at number o → conditionals ≡ old.conditionals ++ conditionals_at o at
    → outer ≡ front ++ (record { at = at; opening = construct; number = number; around = old.body }) ∷ [] → onto front [] ≡ old.outer
    → construct ≡ construct_of o → body ≡ no_body → first ≡ note old.first (at_opening (where_of old) at number o)
    → ◌≡◌ {A = Pass} (record { groups = groups; outer = onto outer []; body = body; names = names; closed = old.closed; conditionals = conditionals; first = first }) (open_pass old at o)
opens_as old at number groups o names conditionals outer front construct body first m g n c e h k b f = λ i. record {
  groups = g i;
  outer = (ap (λ l. onto l []) e ∙ onto_push front (record { at = at; opening = construct; number = number; around = old.body }) []
      ∙ (λ j. (record { at = at; opening = k j; number = m j; around = old.body }) ∷ h j)) i;
  body = b i;
  names = (n ∙ ap (λ l. old.names ++ names_at l o) m) i;
  closed = old.closed;
  conditionals = c i;
  first = (f ∙ ap (λ l. note old.first (at_opening (where_of old) at l o)) m) i;
}

-- a closing parenthesis, where the innermost opening is the last in memory
closes_as : (p : Pass) (old front : List Opened) (f : Opened) → old ≡ front ++ f ∷ [] → close_pass p (onto old []) ≡ close_with p f (onto front []) (closed_shape f.opening p.body)
closes_as p old front f e = ap (close_pass p) (ap (λ l. onto l []) e ∙ onto_push front f [])

pub closes : (p : Pass) (old front : List Opened) (f : Opened) (shape : Shape) (body : Body) (closed : List ℕ) (first : Option Fault)
    → old ≡ front ++ f ∷ [] → Some shape ≡ closed_shape f.opening p.body → body ≡ add_shape f.around shape
    → closed ≡ p.closed ++ numbers_at f.opening f.number → first ≡ note p.first (close_faults f.at f.opening (body_width p.body))
    → ◌≡◌ {A = Option Pass} (Some (record { groups = p.groups; outer = onto front []; body = body; names = p.names; closed = closed; conditionals = p.conditionals; first = first })) (close_pass p (onto old []))
closes p old front f shape body closed first e s b c k =
    (λ i. Some (record { groups = p.groups; outer = onto front []; body = b i; names = p.names; closed = c i; conditionals = p.conditionals; first = k i }))
    ∙ ap (close_with p f (onto front [])) s ∙ sym (closes_as p old front f e)

pub closes_not : (p : Pass) (old front : List Opened) (f : Opened) → old ≡ front ++ f ∷ [] → None ≡ closed_shape f.opening p.body → None ≡ close_pass p (onto old [])
closes_not p old front f e s = ap (close_with p f (onto front [])) s ∙ sym (closes_as p old front f e)

-- the conditionals before a place are noted
abbrev pub Noted : ℕ → Option Fault → List Conditional → ℕ → Option Fault → Type 0
Noted count first cs i found = note first (conditional_faults count (conditionals_in cs)) ≡ note found (conditional_faults count (conditionals_in (drop i cs)))

drop_at : (cs : List Conditional) (i : ℕ) (x : Conditional) → i < length cs → x ≡ get_or cs i x → drop i cs ≡ x ∷ drop (i + 1) cs
drop_at cs i x h e = rw add-one (drop-cons cs i x h ∙ ap (λ z. z ∷ drop (suc i) cs) (sym e))

pub noted_more : (count : ℕ) (first found next : Option Fault) (cs : List Conditional) (i : ℕ) (x : Conditional) (wrong : Bool) → i < length cs → x ≡ get_or cs i x
    → Noted count first cs i found → wrong ≡ is_past count x.number → next ≡ note found (only_if wrong x.at BadReference) → Noted count first cs (i + 1) next
noted_more count first found next cs i x wrong k e h w n =
    h ∙ ap (λ l. note found (conditional_faults count (conditionals_in l))) (drop_at cs i x k e)
    ∙ sym (note_more found (only_if (is_past count x.number) x.at BadReference) (conditional_faults count (conditionals_in (drop (i + 1) cs))))
    ∙ ap (λ o. note o (conditional_faults count (conditionals_in (drop (i + 1) cs)))) (sym (n ∙ ap (λ b. note found (only_if b x.at BadReference)) w))
