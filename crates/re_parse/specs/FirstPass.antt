-- The first pass over a pattern: a stack of what is open, with what is needed of the parts, and the first fault so far.
use Rattle.std.specs.Prelude.{ℕ, ◌+◌, Bool, true, false, List, [], ◌∷◌, ◌++◌, length, Option, Some, None}
use Rattle.re_tree.specs.declared.fault.Fault.{Fault}
use Rattle.re_tree.specs.declared.fault.FaultKind.TheVariants.{NotFixedWidth}
use Rattle.re_parse.specs.declared.shape.Ended.{Ended}
use Rattle.re_parse.specs.declared.shape.Ended.TheVariants.{Zero, One, More}
use Rattle.re_parse.specs.declared.shape.Shape.{Shape}
use Rattle.re_parse.specs.declared.shape.Body.{Body}
use Rattle.re_parse.specs.declared.construct.Construct.{Construct}
use Rattle.re_parse.specs.declared.construct.Construct.TheVariants.{Capture, Group, Lookahead, Lookbehind, Conditional}
use Rattle.re_parse.specs.declared.frame.Frame.{Frame}
use Rattle.re_tree.specs.PlainText.{Names}
use Rattle.re_tree.specs.Tokens.{Opening, capturing, non_capturing, atomic_opening, look_opening, conditional_opening, Token, unit_token, anchor_token, reference_token, count_token, open_token, bar, close}
use Rattle.re_tree.specs.Grammar.{Flags}
use Rattle.re_tree.specs.Reading.{all_tokens}
use Rattle.re_tree.specs.Widths.{plus, common, times}
use Rattle.re_tree.specs.Machine.{groups_begun}
use Rattle.re_tree.specs.Faults.{Diagnosis, Where, names_at, the_first, first_of, at_reference, at_opening, at_count, only_if, is_wide, conditional_of, conditional_faults}
use Rattle.re_parse.specs.Walk.{after_tokens}

-- the earlier of two faults
abbrev pub earlier : Option Fault → Option Fault → Option Fault
earlier None y = y
earlier (Some a) y = the_first a y

abbrev pub no_body : Body
no_body = record { ended = Zero; joined = None; before = Some 0; last = None }

abbrev pub with_last : Option ℕ → Option Shape → Option ℕ
with_last before None = before
with_last before (Some s) = plus before s.width

abbrev pub pieces_width : Body → Option ℕ
pieces_width b = with_last b.before b.last

abbrev pub add_shape : Body → Shape → Body
add_shape b s = record { ended = b.ended; joined = b.joined; before = pieces_width b; last = Some s }

-- one branch more
abbrev pub next : Ended → Ended
next Zero = One
next One = More
next More = More

abbrev pub joined_with : Ended → Option ℕ → Option ℕ → Option ℕ
joined_with Zero j w = w
joined_with One j w = common j w
joined_with More j w = common j w

abbrev pub body_width : Body → Option ℕ
body_width b = joined_with b.ended b.joined (pieces_width b)

abbrev pub end_branch : Body → Body
end_branch b = record { ended = next b.ended; joined = body_width b; before = Some 0; last = None }

abbrev pub counted_if : Bool → ℕ → Option ℕ → Option ℕ → Option Shape
counted_if true least most w = Some (record { countable = false; width = times least most w })
counted_if false least most w = None

abbrev pub counted_shape : ℕ → Option ℕ → Option Shape → Option Shape
counted_shape least most None = None
counted_shape least most (Some s) = counted_if s.countable least most s.width

abbrev pub conditional_shape : Ended → Body → Option Shape
conditional_shape Zero b = Some (record { countable = true; width = common (pieces_width b) (Some 0) })
conditional_shape One b = Some (record { countable = true; width = common b.joined (pieces_width b) })
conditional_shape More b = None

abbrev pub construct_of : Opening → Construct
construct_of (capturing name) = Capture
construct_of non_capturing = Group
construct_of atomic_opening = Group
construct_of (look_opening positive true) = Lookbehind
construct_of (look_opening positive false) = Lookahead
construct_of (conditional_opening id) = Conditional

-- what an opening with this body is; a conditional has at most two branches
abbrev pub closed_shape : Construct → Body → Option Shape
closed_shape Capture b = Some (record { countable = true; width = body_width b })
closed_shape Group b = Some (record { countable = true; width = body_width b })
closed_shape Lookahead b = Some (record { countable = false; width = Some 0 })
closed_shape Lookbehind b = Some (record { countable = false; width = Some 0 })
closed_shape Conditional b = conditional_shape b.ended b

abbrev pub close_faults : ℕ → Construct → Option ℕ → List Fault
close_faults at Lookbehind w = only_if (is_wide w) at NotFixedWidth
close_faults at _ w = []

-- what was open around an opening, and the number of a group that it begins
abbrev pub Opened : Type 0
Opened = Frame Construct Body

pub record Pass : Type 0 where
  pub groups : ℕ
  pub outer : List Opened
  pub body : Body
  pub names : Names
  pub closed : List ℕ
  pub conditionals : List (ℕ × ℕ)
  pub first : Option Fault

abbrev pub pass_start : Pass
pass_start = record { groups = 0; outer = []; body = no_body; names = []; closed = []; conditionals = []; first = None }

abbrev pub where_of : Pass → Where
where_of p = record { depth = length p.outer; names = p.names; closed = p.closed }

abbrev pub note : Option Fault → List Fault → Option Fault
note first found = earlier first (first_of found)

abbrev pub numbers_at : Construct → ℕ → List ℕ
numbers_at Capture number = number ∷ []
numbers_at _ number = []

abbrev pub conditionals_at : Opening → ℕ → List (ℕ × ℕ)
conditionals_at (conditional_opening id) at = conditional_of at id
conditionals_at _ at = []

abbrev pub add_piece : Pass → Shape → Pass
add_piece p s = record p { body = add_shape p.body s }

abbrev pub count_last_piece : Pass → List Fault → Option Shape → Option Pass
count_last_piece p found None = None
count_last_piece p found (Some s) =
    Some (record p { body = record { ended = p.body.ended; joined = p.body.joined; before = p.body.before; last = Some s }; first = note p.first found })

abbrev pub open_pass : Pass → ℕ → Opening → Pass
open_pass p at opening = record {
  groups = p.groups + groups_begun opening;
  outer = record { at = at; opening = construct_of opening; number = p.groups + 1; around = p.body } ∷ p.outer;
  body = no_body;
  names = p.names ++ names_at (p.groups + 1) opening;
  closed = p.closed;
  conditionals = p.conditionals ++ conditionals_at opening at;
  first = note p.first (at_opening (where_of p) at (p.groups + 1) opening);
}

abbrev pub close_with : Pass → Opened → List Opened → Option Shape → Option Pass
close_with p f outer None = None
close_with p f outer (Some s) = Some (record {
  groups = p.groups;
  outer = outer;
  body = add_shape f.around s;
  names = p.names;
  closed = p.closed ++ numbers_at f.opening f.number;
  conditionals = p.conditionals;
  first = note p.first (close_faults f.at f.opening (body_width p.body));
})

abbrev pub close_pass : Pass → List Opened → Option Pass
close_pass p [] = None
close_pass p (f ∷ outer) = close_with p f outer (closed_shape f.opening p.body)

abbrev pub pass_step : Pass → Token → Option Pass
pass_step p (unit_token test) = Some (add_piece p (record { countable = true; width = Some 1 }))
pass_step p (anchor_token k) = Some (add_piece p (record { countable = false; width = Some 0 }))
pass_step p (reference_token at id) =
    Some (record (add_piece p (record { countable = true; width = None })) { first = note p.first (at_reference (where_of p) at id) })
pass_step p (count_token at least most mode) = count_last_piece p (at_count at least most) (counted_shape least most p.body.last)
pass_step p (open_token at opening) = Some (open_pass p at opening)
pass_step p bar = Some (record p { body = end_branch p.body })
pass_step p close = close_pass p p.outer

-- what the pass says of a pattern: nothing where it is in no tree, and else its first fault
abbrev pub diagnosis_at : Pass → List Opened → Diagnosis
diagnosis_at p [] = Some (note p.first (conditional_faults p.groups p.conditionals))
diagnosis_at p (f ∷ outer) = None

abbrev pub pass_end : Option Pass → Diagnosis
pass_end None = None
pass_end (Some p) = diagnosis_at p p.outer

abbrev pub pass_over : Option (List Token) → Diagnosis
pass_over o = pass_end (after_tokens pass_step pass_start o)

abbrev pub first_pass : Flags → List ℕ → Diagnosis
first_pass flags text = pass_over (all_tokens flags (length text) (length text) text)
