-- What a table of the host makes of a text, where some look-ups failed.
use Rattle.std.proofs.Common.{◌≡◌, ◌∙◌, ◌≤◌, ◌+◌, ◌-◌, ◌^◌, min, ◌⊎◌, inl, inr, ℕ, pos, Bool, true, false, cond, Option, Some, List, [], ◌∷◌, ◌++◌, Result, Ok, Err, refl, sym, ap, subst, arith}
use Rattle.std.specs.Prelude.{MatchResult}
use Rattle.py_base.specs.Stream.Faults.{Rose}
use Rattle.py_base.specs.declared.error.PyError.{PyError}
use Rattle.py_base.specs.declared.error.PyError.TheVariants.{NoMemory, HostFault, NotSubscriptable}
use Rattle.py_base.specs.declared.error.type_names.ClassName.TheVariants.{Object}
use Rattle.py_value.specs.Asking.{Seen, Table, Answers, Comes, by_table, silent}
use Rattle.py_value.specs.Lookup.{item}
use Rattle.py_value.specs.Plain.{Plain, none, bool, int, str, bytes, tuple, list, dict, handle, bare}
use Rattle.py_value.specs.Translate.{Goes, Translates, has_items, put_looked_up, put_by, translated_by, tested_by, set_marks, RoseBy}
use Rattle.py_value.proofs.AskingLemmas.{unless_or, by_the_table, by_no_table}
use Rattle.py_value.proofs.SilenceLemmas.{item_silent}

-- the text is the table's, with some characters kept, at most one for each time that the count rose
abbrev pub IsMarked : Table → Plain → List ℕ → List ℕ → Seen → Seen → Result (List ℕ) PyError → Type 0
IsMarked t v cs out old new r =
    (r ≡ Err NoMemory) ⊎ ((ms : List Bool) × (r ≡ put_by t v ms cs out) × RoseBy (set_marks ms) old.faults new.faults)

no_rise : (s0 s1 : Seen) → s0.faults ≤ s1.faults → RoseBy 0 s0.faults s1.faults
no_rise s0 s1 le = omega arith

later_rise : (n a b d : ℕ) → a ≤ b → RoseBy n b d → RoseBy n a d
later_rise n a b d le h = omega arith

one_rise : (n a b d : ℕ) → Rose a b → RoseBy n b d → RoseBy (n + 1) a d
one_rise n a b d rose h = omega arith

put_case : (t : Table) (v : Plain) (c : ℕ) (cs out : List ℕ) (old mid new : Seen) (r : Result (List ℕ) PyError) (one : Result (List ℕ) PyError) → one ≡ put_looked_up c out (by_table t (item v (int (pos c)))) → old.faults ≤ mid.faults
    → ((more : List ℕ) → Goes v cs more mid new r → IsMarked t v cs more mid new r)
    → MatchResult one (λ more. Goes v cs more mid new r) (λ e. (r ≡ Err e) × (new ≡ mid)) → IsMarked t v (c ∷ cs) out old new r
put_case t v c cs out old mid new r (Ok more) is le on h = elim (on more h) [
  | inl short ↦ inl short
  | inr m ↦ inr (false ∷ m.0, rw (← is) m.1, later_rise (set_marks m.0) old.faults mid.faults new.faults le m.2)
]
put_case t v c cs out old mid new r (Err e) is le on h = inr ([], rw (← is) h.0, rw h.1 (no_rise old mid le))

kept_case : (t : Table) (v : Plain) (c : ℕ) (cs out : List ℕ) (old mid new : Seen) (r : Result (List ℕ) PyError) → Rose old.faults mid.faults → IsMarked t v cs (out ++ c ∷ []) mid new r → IsMarked t v (c ∷ cs) out old new r
kept_case t v c cs out old mid new r rose (inl short) = inl short
kept_case t v c cs out old mid new r rose (inr m) = inr (true ∷ m.0, m.1, one_rise (set_marks m.0) old.faults mid.faults new.faults rose m.2)

pub marked : (t : Table) (v : Plain) (cs out : List ℕ) (old new : Seen) (r : Result (List ℕ) PyError) → old.table ≡ Some t → Goes v cs out old new r → IsMarked t v cs out old new r
marked t v [] out old new r told h = inr ([], h.0, rw h.1 (no_rise old old (omega arith)))
marked t v (c ∷ cs) out old new r told h =
    let Then : Result (List ℕ) PyError → Type 0 = λ x. MatchResult x (λ more. Goes v cs more h.1 new r) (λ e. (r ≡ Err e) × (new ≡ h.1)) in
    elim (unless_or h.0 (Comes old h.1 (item v (int (pos c))) h.0) h.2.comes) [
      | inr short ↦ inl (subst (λ x. Then (put_looked_up c out x)) short h.3).0
      | inl comes ↦ elim (by_the_table (item v (int (pos c))) h.0 old h.1 t told comes) [
        | inl is ↦ put_case t v c cs out old h.1 new r (put_looked_up c out (by_table t (item v (int (pos c))))) refl h.2.later (λ more g. marked t v cs more h.1 new r (h.2.kept ∙ told) g) (subst (λ x. Then (put_looked_up c out x)) is h.3)
        | inr fault ↦ kept_case t v c cs out old h.1 new r fault.1 (marked t v cs (out ++ c ∷ []) h.1 new r (h.2.kept ∙ told) (subst (λ x. Then (put_looked_up c out x)) fault.0 h.3))
      ]
    ]

tested_case : (t : Table) (v : Plain) (cs : List ℕ) (old new : Seen) (r : Result (List ℕ) PyError) (has : Result (Unit {0}) PyError) → has ≡ by_table t (has_items v) → old.table ≡ Some t → MatchResult has (λ u. Goes v cs [] old new r) (λ e. (r ≡ Err e) × (new ≡ old))
    → (r ≡ Err NoMemory) ⊎ ((ms : List Bool) × (r ≡ translated_by t v ms cs) × RoseBy (set_marks ms) old.faults new.faults)
tested_case t v cs old new r (Ok u) is told h = elim (marked t v cs [] old new r told h) [
  | inl short ↦ inl short
  | inr m ↦ inr (m.0, m.1 ∙ ap (λ x. tested_by x (put_by t v m.0 cs [])) is, m.2)
]
tested_case t v cs old new r (Err e) is told h = inr ([], h.0 ∙ ap (λ x. tested_by x (put_by t v [] cs [])) is, rw h.1 (no_rise old old (omega arith)))

has_told : (t : Table) (v : Plain) (has : Result (Unit {0}) PyError) (s : Seen) → s.table ≡ Some t → Comes s s (has_items v) has → has ≡ by_table t (has_items v)
has_told t none has s told h = h.0
has_told t (bool b) has s told h = h.0
has_told t (int z) has s told h = h.0
has_told t (str cs) has s told h = h.0
has_told t (bytes bs) has s told h = h.0
has_told t (tuple vs) has s told h = h.0
has_told t (list vs) has s told h = h.0
has_told t (dict es) has s told h = h.0
has_told t (handle x) has s told h =
    let e : t.has_items x ≡ h.0 = rw told at h.1 in
    h.2.0 ∙ ap (λ (b : Bool). cond b (Ok tt) (Err (NotSubscriptable Object))) (sym e)

pub translated_is : (t : Table) (v : Plain) (cs : List ℕ) (old new : Seen) (r : Result (List ℕ) PyError) → Translates v cs old new r → old.table ≡ Some t
    → (r ≡ Err NoMemory) ⊎ ((ms : List Bool) × (r ≡ translated_by t v ms cs) × RoseBy (set_marks ms) old.faults new.faults)
translated_is t v cs old new r h told = elim (unless_or r ((has : Result (Unit {0}) PyError) × Comes old old (has_items v) has × MatchResult has (λ u. Goes v cs [] old new r) (λ e. (r ≡ Err e) × (new ≡ old))) h.comes) [
  | inr short ↦ inl short
  | inl p ↦ tested_case t v cs old new r p.0 (has_told t v p.0 old told p.1) told p.2
]

alone_case : (t : Table) (v : Plain) (c : ℕ) (cs out : List ℕ) (mid new : Seen) (r one : Result (List ℕ) PyError) → one ≡ put_looked_up c out (by_table t (item v (int (pos c))))
    → ((more : List ℕ) → Goes v cs more mid new r → (r ≡ Err NoMemory) ⊎ (r ≡ put_by t v [] cs more))
    → MatchResult one (λ more. Goes v cs more mid new r) (λ e. (r ≡ Err e) × (new ≡ mid)) → (r ≡ Err NoMemory) ⊎ (r ≡ put_by t v [] (c ∷ cs) out)
alone_case t v c cs out mid new r (Ok more) is on h = elim (on more h) [ inl short ↦ inl short | inr e ↦ inr (rw (← is) e) ]
alone_case t v c cs out mid new r (Err e) is on h = inr (rw (← is) h.0)

pub alone : (t : Table) (v : Plain) (cs out : List ℕ) (old new : Seen) (r : Result (List ℕ) PyError) → bare v ≡ true → Goes v cs out old new r → (r ≡ Err NoMemory) ⊎ (r ≡ put_by t v [] cs out)
alone t v [] out old new r b h = inr h.0
alone t v (c ∷ cs) out old new r b h =
    let Then : Result (List ℕ) PyError → Type 0 = λ x. MatchResult x (λ more. Goes v cs more h.1 new r) (λ e. (r ≡ Err e) × (new ≡ h.1)) in
    elim (unless_or h.0 (Comes old h.1 (item v (int (pos c))) h.0) h.2.comes) [
      | inr short ↦ inl (subst (λ x. Then (put_looked_up c out x)) short h.3).0
      | inl comes ↦ alone_case t v c cs out h.1 new r (put_looked_up c out (by_table t (item v (int (pos c))))) refl (λ more g. alone t v cs more h.1 new r b g)
          (subst (λ x. Then (put_looked_up c out x)) (by_no_table (item v (int (pos c))) h.0 old h.1 t (item_silent v (int (pos c)) b) comes) h.3)
    ]

alone_tested : (t : Table) (v : Plain) (cs : List ℕ) (old new : Seen) (r : Result (List ℕ) PyError) (has : Result (Unit {0}) PyError) → has ≡ by_table t (has_items v) → bare v ≡ true → MatchResult has (λ u. Goes v cs [] old new r) (λ e. (r ≡ Err e) × (new ≡ old)) → (r ≡ Err NoMemory) ⊎ (r ≡ translated_by t v [] cs)
alone_tested t v cs old new r (Ok u) is b h = elim (alone t v cs [] old new r b h) [ inl short ↦ inl short | inr e ↦ inr (e ∙ ap (λ x. tested_by x (put_by t v [] cs [])) is) ]
alone_tested t v cs old new r (Err e) is b h = inr (h.0 ∙ ap (λ x. tested_by x (put_by t v [] cs [])) is)

bare_has : (t : Table) (v : Plain) (has : Result (Unit {0}) PyError) (s : Seen) → bare v ≡ true → Comes s s (has_items v) has → has ≡ by_table t (has_items v)
bare_has t none has s b h = h.0
bare_has t (bool x) has s b h = h.0
bare_has t (int z) has s b h = h.0
bare_has t (str cs) has s b h = h.0
bare_has t (bytes bs) has s b h = h.0
bare_has t (tuple vs) has s b h = h.0
bare_has t (list vs) has s b h = h.0
bare_has t (dict es) has s b h = h.0
bare_has t (handle x) has s b h = absurd (cc)

pub translated_alone : (t : Table) (v : Plain) (cs : List ℕ) (old new : Seen) (r : Result (List ℕ) PyError) → Translates v cs old new r → bare v ≡ true → (r ≡ Err NoMemory) ⊎ (r ≡ translated_by t v [] cs)
translated_alone t v cs old new r h b = elim (unless_or r ((has : Result (Unit {0}) PyError) × Comes old old (has_items v) has × MatchResult has (λ u. Goes v cs [] old new r) (λ e. (r ≡ Err e) × (new ≡ old))) h.comes) [
  | inr short ↦ inl short
  | inl p ↦ alone_tested t v cs old new r p.0 (bare_has t v p.0 old b p.1) b p.2
]
