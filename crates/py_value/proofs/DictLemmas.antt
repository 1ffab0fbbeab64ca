-- What keeps keys distinct.
use Rattle.std.proofs.Common.{◌≡◌, Bool, true, false, not, ◌&&◌, cond, refl, ap, ℕ, zero, suc, List, [], ◌∷◌, ◌++◌, get_or, Option, option_to_list}
use Rattle.std.proofs.Math.ListN.{set}
use Rattle.py_value.specs.declared.value.DictItem.{DictItem}
use Rattle.py_value.specs.declared.value.Value.{Value}
use Rattle.py_value.specs.ValueView.{entries_of}
use Rattle.py_value.specs.declared.value.DictKey.{DictKey}
use Rattle.py_value.specs.Dict.{same_key, put, apart, distinct}
use Rattle.py_value.specs.Plain.{Plain, Entries, no_entries, entry}

both : (a b : Bool) → (a && b) ≡ true → (a ≡ true) × (b ≡ true)
both true true h = (refl, refl)
both true false h = absurd (cc)
both false b h = absurd (cc)

-- one entry before others, by the test whether it has the key
apart_case : (b : Bool) (j i k : DictKey) (v w : Plain) (es : Entries) → apart j es ≡ true → apart j (put k v es) ≡ true → not (same_key j i) ≡ true → apart j (cond b (entry i v es) (entry i w (put k v es))) ≡ true
apart_case true j i k v w es old new here = rw here old
apart_case false j i k v w es old new here = rw here new

pub apart_put : (j k : DictKey) (v : Plain) (es : Entries) → same_key j k ≡ false → apart j es ≡ true → apart j (put k v es) ≡ true
apart_put j k v no_entries no_same h = rw no_same refl
apart_put j k v (entry i w es) no_same h =
    let p = both (not (same_key j i)) (apart j es) h in
    apart_case (same_key i k) j i k v w es p.1 (apart_put j k v es no_same p.1) p.0

distinct_case : (b : Bool) (i k : DictKey) (v w : Plain) (es : Entries) → apart i es ≡ true → distinct es ≡ true → (b ≡ false → apart i (put k v es) ≡ true) → distinct (put k v es) ≡ true → distinct (cond b (entry i v es) (entry i w (put k v es))) ≡ true
distinct_case true i k v w es far old new more = rw far old
distinct_case false i k v w es far old new more = rw (new refl) more

pub distinct_put : (k : DictKey) (v : Plain) (es : Entries) → distinct es ≡ true → distinct (put k v es) ≡ true
distinct_put k v no_entries h = refl
distinct_put k v (entry i w es) h =
    let p = both (apart i es) (distinct es) h in
    distinct_case (same_key i k) i k v w es p.0 p.1 (λ no_same. apart_put i k v es no_same p.0) (distinct_put k v es p.1)

-- another value under a key leaves the keys as they are
apart_exchanged : (j : DictKey) (es : List DictItem) (i : ℕ) (d : DictItem) (w : Value) → d ≡ get_or es i d → apart j (entries_of (set es i (record { key = d.key; value = w }))) ≡ apart j (entries_of es)
apart_exchanged j [] i d w is = refl
apart_exchanged j (e ∷ es) zero d w is = rw is refl
apart_exchanged j (e ∷ es) (suc i) d w is = ap (λ b. not (same_key j e.key) && b) (apart_exchanged j es i d w is)

pub distinct_exchanged : (es : List DictItem) (i : ℕ) (d : DictItem) (w : Value) → d ≡ get_or es i d → distinct (entries_of (set es i (record { key = d.key; value = w }))) ≡ distinct (entries_of es)
distinct_exchanged [] i d w is = refl
distinct_exchanged (e ∷ es) zero d w is = rw is refl
distinct_exchanged (e ∷ es) (suc i) d w is = λ k. apart_exchanged e.key es i d w is k && distinct_exchanged es i d w is k

-- and so does taking the last key away
apart_front : (j : DictKey) (es ds : List DictItem) → apart j (entries_of (es ++ ds)) ≡ true → apart j (entries_of es) ≡ true
apart_front j [] ds h = refl
apart_front j (e ∷ es) ds h =
    let p = both (not (same_key j e.key)) (apart j (entries_of (es ++ ds))) h in
    rw p.0 (apart_front j es ds p.1)

distinct_front : (es ds : List DictItem) → distinct (entries_of (es ++ ds)) ≡ true → distinct (entries_of es) ≡ true
distinct_front [] ds h = refl
distinct_front (e ∷ es) ds h =
    let p = both (apart e.key (entries_of (es ++ ds))) (distinct (entries_of (es ++ ds))) h in
    rw (apart_front e.key es ds p.0) (distinct_front es ds p.1)

pub distinct_popped : (o : Option DictItem) (old new : List DictItem) → old ≡ new ++ option_to_list o → distinct (entries_of old) ≡ true → distinct (entries_of new) ≡ true
distinct_popped o old new is h = distinct_front new (option_to_list o) (rw is at h)
