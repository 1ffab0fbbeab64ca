-- How many values there are in lists and dictionaries, after one was exchanged or taken away.
use Rattle.std.proofs.Common.{◌≡◌, ℕ, ◌+◌, ◌*◌, ◌≤◌, ◌<◌, List, [], ◌∷◌, ◌++◌, length, get_or, zero, suc, refl, arith, option_to_list, Option, Some, None, MatchOption}
use Rattle.std.proofs.Math.ListN.{set}
use Rattle.std.proofs.Math.Nat.{mul-suc}
use Rattle.std.proofs.lemmas.Nat.{mul-le}
use Rattle.py_value.specs.declared.value.Value.{Value}
use Rattle.py_value.specs.declared.value.DictItem.{DictItem}
use Rattle.py_value.specs.Plain.{Plain, none, bool, int, str, bytes, tuple, list, dict, handle, values_depth, entries_depth}
use Rattle.py_value.specs.ValueView.{plain_of, values_of, entries_of}
use Rattle.py_value.specs.Weight.{weight, values_weight, entries_weight}

pub weighs : (v : Plain) → 1 ≤ weight v
weighs none = omega arith
weighs (bool b) = omega arith
weighs (int z) = omega arith
weighs (str cs) = omega arith
weighs (bytes bs) = omega arith
weighs (tuple vs) = omega arith
weighs (list vs) = omega arith
weighs (dict es) = omega arith
weighs (handle h) = omega arith

-- one value is exchanged with another
pub exchanged : (vs : List Value) (i : ℕ) (d w : Value) → i < length vs → d ≡ get_or vs i d → values_weight (values_of (set vs i w)) + weight (plain_of d) ≡ values_weight (values_of vs) + weight (plain_of w)
exchanged [] i d w lt is = absurd (omega arith)
exchanged (v ∷ vs) zero d w lt is = rw (← is) (omega arith)
exchanged (v ∷ vs) (suc i) d w lt is = omega (arith, exchanged vs i d w (omega arith) is)

pub held : (vs : List Value) (i : ℕ) (d : Value) → i < length vs → d ≡ get_or vs i d → weight (plain_of d) ≤ values_weight (values_of vs)
held [] i d lt is = absurd (omega arith)
held (v ∷ vs) zero d lt is = rw (← is) (omega arith)
held (v ∷ vs) (suc i) d lt is = omega (arith, held vs i d (omega arith) is)

pub items_exchanged : (es : List DictItem) (i : ℕ) (d : DictItem) (w : Value) → i < length es → d ≡ get_or es i d → entries_weight (entries_of (set es i (record { key = d.key; value = w }))) + weight (plain_of d.value) ≡ entries_weight (entries_of es) + weight (plain_of w)
items_exchanged [] i d w lt is = absurd (omega arith)
items_exchanged (e ∷ es) zero d w lt is = rw (← is) (omega arith)
items_exchanged (e ∷ es) (suc i) d w lt is = omega (arith, items_exchanged es i d w (omega arith) is)

pub item_held : (es : List DictItem) (i : ℕ) (d : DictItem) → i < length es → d ≡ get_or es i d → weight (plain_of d.value) ≤ entries_weight (entries_of es)
item_held [] i d lt is = absurd (omega arith)
item_held (e ∷ es) zero d lt is = rw (← is) (omega arith)
item_held (e ∷ es) (suc i) d lt is = omega (arith, item_held es i d (omega arith) is)

joined : (vs ws : List Value) → values_weight (values_of (vs ++ ws)) ≡ values_weight (values_of vs) + values_weight (values_of ws)
joined [] ws = omega arith
joined (v ∷ vs) ws = omega (arith, joined vs ws)

items_joined : (es ds : List DictItem) → entries_weight (entries_of (es ++ ds)) ≡ entries_weight (entries_of es) + entries_weight (entries_of ds)
items_joined [] ds = omega arith
items_joined (e ∷ es) ds = omega (arith, items_joined es ds)

no_values : (vs : List Value) → length vs ≡ 0 → values_depth (values_of vs) ≡ 0
no_values [] e = refl
no_values (v ∷ vs) e = absurd (omega (arith, e))

no_items : (es : List DictItem) → length es ≡ 0 → entries_depth (entries_of es) ≡ 0
no_items [] e = refl
no_items (v ∷ vs) e = absurd (omega (arith, e))

-- the last value is taken
pub popped : (o : Option Value) (old new : List Value) (m n : ℕ) → old ≡ new ++ option_to_list o → n ≡ length new → MatchOption o ((m ≡ 0) × (n ≡ 0)) (λ _. n + 1 ≡ m) → MatchOption o (values_depth (values_of new) ≡ 0) (λ v. values_weight (values_of new) + weight (plain_of v) ≡ values_weight (values_of old))
popped None old new m n is len h = no_values new (omega (arith, len, h.1))
popped (Some v) old new m n is len h = rw is (omega (arith, joined new (v ∷ [])))

pub item_popped : (o : Option DictItem) (old new : List DictItem) (m n : ℕ) → old ≡ new ++ option_to_list o → n ≡ length new → MatchOption o ((m ≡ 0) × (n ≡ 0)) (λ _. n + 1 ≡ m) → MatchOption o (entries_depth (entries_of new) ≡ 0) (λ e. entries_weight (entries_of new) + weight (plain_of e.value) ≡ entries_weight (entries_of old))
item_popped None old new m n is len h = no_items new (omega (arith, len, h.1))
item_popped (Some e) old new m n is len h = rw is (omega (arith, items_joined new (e ∷ [])))

-- the measure of the walk: where one value less is left it falls, whatever is walked next
pub climbs : (h u h' u' : ℕ) → 1 ≤ h → h' + u' ≡ u → (h' + u') * (h' + u') + h' < (h + u) * (h + u) + h
climbs h u h' u' one is =
    let more : u * suc u ≤ (h + u) * (h + u) = mul-le u (suc u) (h + u) (h + u) (omega arith) (omega (arith, one)) in
    let square : u * suc u ≡ u * u + u = mul-suc u u in
    rw is (omega (arith, one, is, more, square))
