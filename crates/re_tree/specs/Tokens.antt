-- The tokens of a tree, in the order in which its pattern is made of them.
use Rattle.std.specs.Prelude.{ℕ, ◌+◌, Bool, List, [], ◌∷◌, ◌++◌, Option, Some, None}
use Rattle.re_tree.specs.declared.tree.CountMode.{CountMode}
use Rattle.re_tree.specs.PlainText.{PlainTest, GroupName, PlainText, PlainTexts, unit, anchor, reference, conditional, conditional_else, sequence, alternation, counted, capture, plain, atomic_text, look_text, done, ◌also◌}

-- what an opening parenthesis begins
pub data Opening : Type 0 where
  capturing : (name : Option (List ℕ)) → Opening
  non_capturing : Opening
  atomic_opening : Opening
  look_opening : (positive behind : Bool) → Opening
  conditional_opening : (id : GroupName) → Opening

pub data Token : Type 0 where
  unit_token : (test : PlainTest) → Token
  anchor_token : (k : ℕ) → Token
  reference_token : (at : ℕ) (id : GroupName) → Token
  count_token : (at least : ℕ) (most : Option ℕ) (mode : CountMode) → Token
  open_token : (at : ℕ) (opening : Opening) → Token
  bar : Token
  close : Token

abbrev mutual
  pub tokens_of : PlainText → List Token
  tokens_of (unit test) = unit_token test ∷ []
  tokens_of (anchor k) = anchor_token k ∷ []
  tokens_of (reference at id) = reference_token at id ∷ []
  tokens_of (conditional at id met) = open_token at (conditional_opening id) ∷ (tokens_of met ++ close ∷ [])
  tokens_of (conditional_else at id met other) = open_token at (conditional_opening id) ∷ (tokens_of met ++ bar ∷ (tokens_of other ++ close ∷ []))
  tokens_of (sequence parts) = tokens_in_turn parts
  tokens_of (alternation branches) = tokens_between branches
  tokens_of (counted at least most mode body) = tokens_of body ++ count_token at least most mode ∷ []
  tokens_of (capture at number name body) = open_token at (capturing name) ∷ (tokens_of body ++ close ∷ [])
  tokens_of (plain at body) = open_token at non_capturing ∷ (tokens_of body ++ close ∷ [])
  tokens_of (atomic_text at body) = open_token at atomic_opening ∷ (tokens_of body ++ close ∷ [])
  tokens_of (look_text at positive back body) = open_token at (look_opening positive back) ∷ (tokens_of body ++ close ∷ [])

  pub tokens_in_turn : PlainTexts → List Token
  tokens_in_turn done = []
  tokens_in_turn (r also rs) = tokens_of r ++ tokens_in_turn rs

  -- with a bar between
  pub tokens_between : PlainTexts → List Token
  tokens_between done = []
  tokens_between (r also done) = tokens_of r
  tokens_between (r also q also rs) = tokens_of r ++ bar ∷ tokens_between (q also rs)
