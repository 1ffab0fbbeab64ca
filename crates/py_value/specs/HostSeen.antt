-- What a host in memory tells: the table that its rows make.
use Rattle.std.specs.Prelude.{◌≡◌, ◌↔◌, ℕ, ◌==◌, ◌&&◌, ◌||◌, not, Bool, true, false, IsTrue, cond, List, [], ◌∷◌, Option, Some, None, IsSome, refl}
use Rattle.std.proofs.Common.{◌∙◌, sym, ap, subst, ◌⊎◌, inl, inr}
use Rattle.std.specs.Cmp.{bool_eq_equiv}
use Rattle.std.proofs.lemmas.Cmp.{int_eq_equiv, nat_list_eq_equiv}
use Rattle.py_value.specs.declared.host.HostMethod.{HostMethod}
use Rattle.py_value.specs.declared.host.HostMethod.TheVariants.{GetItem}
use Rattle.py_value.specs.declared.host.table.HostRow.{HostRow}
use Rattle.py_value.specs.Asking.{Seen, Table}
use Rattle.py_value.specs.HostTable.{InMemory, method_number, same_value, fits, first_answer, has_items}
use Rattle.py_value.specs.NoHost.{false_is_not_true}
use Rattle.py_value.specs.Plain.{Plain, none, bool, int, str, bytes, tuple, list, dict, handle}
use Rattle.py_value.specs.ValueView.{plain_of}

either_true : (a b : Bool) → (a || b) ≡ true → (a ≡ true) ⊎ (b ≡ true)
either_true true b h = inl refl
either_true false b h = inr h

right_true : (a b : Bool) → b ≡ true → (a || b) ≡ true
right_true true b h = refl
right_true false b h = h

both_true : (a b : Bool) → (a && b) ≡ true → (a ≡ true) × (b ≡ true)
both_true true b h = (refl, h)
both_true false b h = absurd (false_is_not_true h)

some_here : (b : Bool) (v : Plain) (o : Option Plain) → b ≡ true → IsSome (cond b (Some v) o)
some_here true v o h = refl
some_here false v o h = absurd (false_is_not_true h)

some_later : (b : Bool) (v : Plain) (o : Option Plain) → IsSome o → IsSome (cond b (Some v) o)
some_later true v o h = refl
some_later false v o h = h

-- a row of items is found by its own key
pub items_found : (h : ℕ) (rows : List HostRow) → has_items h rows ≡ true
    → (k : Plain) × IsSome (first_answer h GetItem k rows)
items_found h [] e = absurd (false_is_not_true e)
items_found h (row ∷ rows) e =
    elim (either_true (fits h GetItem (plain_of row.key) row) (has_items h rows) e) [
      | inl here ↦ (
        plain_of row.key,
        some_here (fits h GetItem (plain_of row.key) row) (plain_of row.answer)
            (first_answer h GetItem (plain_of row.key) rows) here,
      )
      | inr more ↦ (let p = items_found h rows more in (
        p.0,
        some_later (fits h GetItem p.0 row) (plain_of row.answer)
            (first_answer h GetItem p.0 rows) p.1,
      ))
    ]

same_self : (v k : Plain) → same_value v k ≡ true → same_value v v ≡ true
same_self none k h = refl
same_self (bool b) k h = bool_eq_equiv.refl b
same_self (int z) k h = int_eq_equiv.refl z
same_self (str cs) k h = nat_list_eq_equiv.refl cs
same_self (bytes bs) k h = nat_list_eq_equiv.refl bs
same_self (tuple vs) k h = absurd (false_is_not_true h)
same_self (list vs) k h = absurd (false_is_not_true h)
same_self (dict es) k h = absurd (false_is_not_true h)
same_self (handle x) k h = absurd (false_is_not_true h)

self_fits : (h : ℕ) (m : HostMethod) (k : Plain) (row : HostRow) → fits h m k row ≡ true
    → fits h m (plain_of row.key) row ≡ true
self_fits h m k row e =
    let p = both_true (row.handle == h && method_number row.method == method_number m)
    (same_value (plain_of row.key) k) e in
    ap (λ b. b && same_value (plain_of row.key) (plain_of row.key)) p.0
    ∙ same_self (plain_of row.key) k p.1

here_or : (b : Bool) (v : Plain) (o : Option Plain) → IsSome (cond b (Some v) o)
    → (b ≡ true) ⊎ IsSome o
here_or true v o h = inl refl
here_or false v o h = inr h

-- and what is found under a key is in a row of items
pub found_items : (h : ℕ) (rows : List HostRow) (k : Plain) → IsSome (first_answer h GetItem k rows)
    → has_items h rows ≡ true
found_items h [] k e = absurd (false_is_not_true e)
found_items h (row ∷ rows) k e =
    elim (here_or (fits h GetItem k row) (plain_of row.answer) (first_answer h GetItem k rows) e) [
      | inl here ↦ ap (λ b. b || has_items h rows) (self_fits h GetItem k row here)
      | inr more ↦ right_true (fits h GetItem (plain_of row.key) row) (has_items h rows)
          (found_items h rows k more)
    ]

-- the table of rows
abbrev pub table_of : List HostRow → Table
table_of rows = record {
  answer = λ h m k. first_answer h m k rows;
  has_items = λ h. has_items h rows;
  lawful = λ h. ((λ e. items_found h rows e), (λ p. found_items h rows p.0 p.1));
}

abbrev pub seen_of : InMemory → Seen
seen_of host = record {
  table = Some (table_of host.rows);
  faults = host.faults;
  asked = None;
  runs_out = true;
}
