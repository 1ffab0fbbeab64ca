-- What the loop over the items of a set has left to read.
use Rattle.std.proofs.Common.{◌≡◌, refl, sym, ◌∙◌, ap, ℕ, zero, suc, ◌==◌, ◌<◌, ◌≤◌, Bool, true, false, not, List, [], ◌∷◌, ◌++◌, drop, length, append-nil, append_assoc, arith}
use Rattle.std.specs.Prelude.{Some, None, cond, ◌&&◌, ◌||◌}
use Rattle.std.specs.Option.{option_map}
use Rattle.re_tree.specs.declared.unit.UnitItem.{UnitItem}
use Rattle.re_tree.specs.Characters.{first_is}
use Rattle.re_tree.specs.Sets.{Items, item_at, put_item, item_then, items_at}

abbrev pub with_items : List UnitItem → Items → Items
with_items before o = option_map (λ x. (before ++ x.0, x.1)) o

nothing_before : (o : Items) → o ≡ with_items [] o
nothing_before None = refl
nothing_before (Some x) = refl

one_before : (before : List UnitItem) (item : UnitItem) (o : Items) → with_items before (put_item item o) ≡ with_items (before ++ item ∷ []) o
one_before before item None = refl
one_before before item (Some x) = ap (λ l. Some (l, x.1)) (sym (append_assoc before (item ∷ []) x.0))

abbrev pub ends : List ℕ → Bool
ends text = first_is (λ c. c == 93) text

-- these items are read, and the others are those of the rest
pub record ItemsLeft (text : List ℕ) (ascii : Bool) (items : List UnitItem) (first : Bool) (rest : List ℕ) : Type 0 where
  pub most : ℕ
  pub enough : length rest ≤ most
  pub is : items_at (length text) ascii true text ≡ with_items items (items_at most ascii first rest)

pub none_read : (text : List ℕ) (ascii : Bool) → ItemsLeft text ascii [] true text
none_read text ascii = record { most = length text; enough = omega arith; is = nothing_before (items_at (length text) ascii true text) }

goes : (b first : Bool) → (first || not b) ≡ true → (b && not first) ≡ false
goes true true e = refl
goes true false e = let f : ⊥ = cc e in absurd f
goes false first e = refl

no_items : (most : ℕ) (ascii first : Bool) → items_at most ascii first [] ≡ None
no_items zero ascii first = refl
no_items (suc most) ascii first = refl

step : (most : ℕ) (ascii first : Bool) (rest : List ℕ) → length rest ≤ most → (first || not (ends rest)) ≡ true → item_at ascii first rest ≡ None → items_at most ascii first rest ≡ None
step most ascii first [] enough e f = no_items most ascii first
step zero ascii first (c ∷ cs) enough e f = refl
step (suc most) ascii first (c ∷ cs) enough e f =
    ap (λ b. cond b (Some ([], cs)) (item_then (item_at ascii first (c ∷ cs)) (items_at most ascii false))) (goes (c == 93) first e)
    ∙ ap (λ o. item_then o (items_at most ascii false)) f

pub no_item : (text : List ℕ) (ascii : Bool) (items : List UnitItem) (first : Bool) (rest : List ℕ) → (first || not (ends rest)) ≡ true → item_at ascii first rest ≡ None
    → ItemsLeft text ascii items first rest → None ≡ items_at (length text) ascii true text
no_item text ascii items first rest e f h = sym (h.is ∙ ap (with_items items) (step h.most ascii first rest h.enough e f))

some_text : (first : Bool) (rest after : List ℕ) → length after < length rest → (n : ℕ) → length rest ≤ n → (m : ℕ) × (n ≡ suc m)
some_text first rest after less zero enough = let f : ⊥ = omega (arith, less, enough) in absurd f
some_text first rest after less (suc m) enough = (m, refl)

more : (most : ℕ) (ascii first : Bool) (rest after : List ℕ) (item : UnitItem) → length after < length rest → (first || not (ends rest)) ≡ true → item_at ascii first rest ≡ Some (item, after)
    → items_at (suc most) ascii first rest ≡ put_item item (items_at most ascii false after)
more most ascii first [] after item less e f = let g : ⊥ = omega (arith, less) in absurd g
more most ascii first (c ∷ cs) after item less e f =
    ap (λ b. cond b (Some ([], cs)) (item_then (item_at ascii first (c ∷ cs)) (items_at most ascii false))) (goes (c == 93) first e)
    ∙ ap (λ o. item_then o (items_at most ascii false)) f

pub one_more : (text : List ℕ) (ascii : Bool) (items : List UnitItem) (first : Bool) (rest after : List ℕ) (item : UnitItem) → length after < length rest
    → (first || not (ends rest)) ≡ true → item_at ascii first rest ≡ Some (item, after)
    → ItemsLeft text ascii items first rest → ItemsLeft text ascii (items ++ item ∷ []) false after
one_more text ascii items first rest after item less e f h =
    let k = some_text first rest after less h.most h.enough in
    record {
      most = k.0;
      enough = omega (arith, less, h.enough, k.1);
      is =
          h.is ∙ ap (with_items items) (ap (λ n. items_at n ascii first rest) k.1 ∙ more k.0 ascii first rest after item less e f)
          ∙ one_before items item (items_at k.0 ascii false after);
    }

or_false : (first b : Bool) → (first || not b) ≡ false → (first ≡ false) × (b ≡ true)
or_false true b e = let f : ⊥ = cc e in absurd f
or_false false true e = (refl, refl)
or_false false false e = let f : ⊥ = cc e in absurd f

at_end : (most : ℕ) (ascii first : Bool) (rest : List ℕ) → length rest ≤ most → (first ≡ false) × (ends rest ≡ true) → items_at most ascii first rest ≡ Some ([], drop 1 rest)
at_end most ascii first [] enough e = let f : ⊥ = cc (e.1) in absurd f
at_end zero ascii first (c ∷ cs) enough e = let f : ⊥ = omega (arith, enough) in absurd f
at_end (suc most) ascii first (c ∷ cs) enough e =
    ap (λ b. cond b (Some ([], cs)) (item_then (item_at ascii first (c ∷ cs)) (items_at most ascii false))) ((λ i. e.1 i && not (e.0 i)))

pub ended : (text : List ℕ) (ascii : Bool) (items : List UnitItem) (first : Bool) (rest : List ℕ) → (first || not (ends rest)) ≡ false
    → ItemsLeft text ascii items first rest → Some (items, drop 1 rest) ≡ items_at (length text) ascii true text
ended text ascii items first rest e h =
    sym (h.is ∙ ap (with_items items) (at_end h.most ascii first rest h.enough (or_false first (ends rest) e)) ∙ ap (λ l. Some (l, drop 1 rest)) (append-nil items))
