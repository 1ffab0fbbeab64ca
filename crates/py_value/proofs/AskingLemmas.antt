-- How what one call answers goes into what a longer call answers.
use Rattle.std.proofs.lemmas.List.{append-nil}
use Rattle.std.proofs.Common.{◌≡◌, ◌≤◌, ℕ, Bool, true, false, List, [], ◌∷◌, ◌++◌, append_assoc, Option, Some, None, IfSome, Result, Ok, Err, refl, sym, ◌∙◌, ap, arith, inl, inr, subst, ◌⊎◌}
use Rattle.std.specs.Option.{option_map}
use Rattle.py_base.specs.Reading.{unless}
use Rattle.py_base.specs.Stream.Faults.{Rose}
use Rattle.py_base.specs.declared.error.PyError.{PyError}
use Rattle.py_base.specs.declared.error.PyError.TheVariants.{NoMemory, HostFault}
use Rattle.py_value.specs.declared.value.Value.{Value}
use Rattle.py_value.specs.declared.host.HostMethod.{HostMethod}
use Rattle.py_value.specs.declared.host.HostAnswer.TheVariants.{Failed}
use Rattle.py_value.specs.Asking.{Asking, gives, asks, tests, ◌and_then◌, Seen, Table, Question, question, questions, Comes, no_memory, UnlessOutOfMemory, Meets, Answers, Tells, by_table, silent}
use Rattle.py_value.specs.Plain.{Plain}
use Rattle.py_value.specs.ValueView.{plain_of}

unless_case : (b : Bool) (P Q : Type 0) → (P → Q) → unless b P → unless b Q
unless_case true P Q f p = tt
unless_case false P Q f p = f p

pub unless_map : {A : Type 0} (r : Result A PyError) (P Q : Type 0) → (P → Q) → UnlessOutOfMemory r P → UnlessOutOfMemory r Q
unless_map (Ok a) P Q f p = f p
unless_map (Err e) P Q f p = unless_case (no_memory e) P Q f p

comes_on : {A B : Type 0} (call : Asking A) (f : A → Asking B) (a : A) (r : Result B PyError) (s0 s1 s2 : Seen) → Comes s0 s1 call (Ok a) → Comes s1 s2 (f a) r → Comes s0 s2 (call and_then f) r
comes_on (gives (Ok b)) f a r s0 s1 s2 h more = subst (λ x. Comes s0 s2 (f x) r) (let is : a ≡ b = cc h.0 in is) (subst (λ (s : Seen). Comes s s2 (f a) r) h.1 more)
comes_on (gives (Err e)) f a r s0 s1 s2 h more = absurd (cc h.0)
comes_on (asks q m k next) f a r s0 s1 s2 (inl (tells, is)) more = absurd (cc is)
comes_on (asks q m k next) f a r s0 s1 s2 (inr (mid, b, tells, h)) more = inr (mid, b, tells, comes_on (next (option_map plain_of b)) f a r mid s1 s2 h more)
comes_on (tests q next) f a r s0 s1 s2 (b, told, h) more = (b, told, comes_on (next b) f a r s0 s1 s2 h more)

comes_stop : {A B : Type 0} (call : Asking A) (f : A → Asking B) (e : PyError) (s0 s1 : Seen) → Comes s0 s1 call (Err e) → Comes s0 s1 (call and_then f) (Err e)
comes_stop (gives (Ok b)) f e s0 s1 h = absurd (cc h.0)
comes_stop (gives (Err d)) f e s0 s1 h = (let is : e ≡ d = cc h.0 in ap Err is, h.1)
comes_stop (asks q m k next) f e s0 s1 (inl (tells, is)) = inl (tells, let same : e ≡ HostFault = cc is in ap Err same)
comes_stop (asks q m k next) f e s0 s1 (inr (mid, b, tells, h)) = inr (mid, b, tells, comes_stop (next (option_map plain_of b)) f e mid s1 h)
comes_stop (tests q next) f e s0 s1 (b, told, h) = (b, told, comes_stop (next b) f e s0 s1 h)

-- a call that gave a value, and then one that goes on with it
pub go_on : {A B : Type 0} {call : Asking A} {a : A} {r : Result B PyError} {s0 s1 s2 : Seen} (f : A → Asking B) → Answers call s0 s1 (Ok a) → Answers (f a) s1 s2 r → Answers (call and_then f) s0 s2 r
go_on {call = call} {a = a} {r = r} {s0 = s0} {s1 = s1} {s2 = s2} f one two = record {
  kept = two.kept ∙ one.kept;
  later = omega (arith, one.later, two.later);
  comes = unless_map r (Comes s1 s2 (f a) r) (Comes s0 s2 (call and_then f) r) (λ h. comes_on call f a r s0 s1 s2 one.comes h) two.comes;
}

unless_stop : {A B : Type 0} (call : Asking A) (f : A → Asking B) (e : PyError) (s0 s1 : Seen) → UnlessOutOfMemory {A = A} (Err e) (Comes s0 s1 call (Err e)) → UnlessOutOfMemory {A = B} (Err e) (Comes s0 s1 (call and_then f) (Err e))
unless_stop call f e s0 s1 h = unless_case (no_memory e) (Comes s0 s1 call (Err e)) (Comes s0 s1 (call and_then f) (Err e)) (comes_stop call f e s0 s1) h

-- a call that fails ends what would have gone on
pub stop : {A B : Type 0} {call : Asking A} {e : PyError} {s0 s1 : Seen} (f : A → Asking B) → Answers call s0 s1 (Err e) → Answers (call and_then f) s0 s1 (Err e)
stop {call = call} {e = e} {s0 = s0} {s1 = s1} f one = record {
  kept = one.kept;
  later = one.later;
  comes = unless_stop call f e s0 s1 one.comes;
}

-- a call that asks nothing
pub asks_nothing : {A : Type 0} {want r : Result A PyError} {s : Seen} → Meets want r → Answers (gives want) s s r
asks_nothing {want = want} {r = r} {s = s} h = record { kept = refl; later = omega arith; comes = unless_map r (r ≡ want) ((r ≡ want) × (s ≡ s)) (λ is. (is, refl)) h }

-- a host that answered, and the call that goes on with its answer
pub asked : {A : Type 0} {h : ℕ} {m : HostMethod} {k : Plain} {next : Option Plain → Asking A} {a : Option Value} {r : Result A PyError} {s0 s1 s2 : Seen} → Tells h m k s0 s1 (Ok a) → Answers (next (option_map plain_of a)) s1 s2 r → Answers (asks h m k next) s0 s2 r
asked {h = h} {m = m} {k = k} {next = next} {a = a} {r = r} {s0 = s0} {s1 = s1} {s2 = s2} tells two = record {
  kept = two.kept ∙ tells.kept;
  later = omega (arith, tells.later, two.later);
  comes = unless_map r (Comes s1 s2 (next (option_map plain_of a)) r) (Comes s0 s2 (asks h m k next) r) (λ c. inr (s1, a, tells, c)) two.comes;
}

-- a host that failed
pub asked_in_vain : {A : Type 0} {h : ℕ} {m : HostMethod} {k : Plain} {next : Option Plain → Asking A} {s0 s1 : Seen} → Tells h m k s0 s1 (Err Failed) → Answers (asks h m k next) s0 s1 (Err HostFault)
asked_in_vain tells = record { kept = tells.kept; later = tells.later; comes = inl (tells, refl) }

-- a handle was tested, and the call goes on by that
pub tested : {A : Type 0} {h : ℕ} {next : Bool → Asking A} (b : Bool) {r : Result A PyError} {s0 s1 : Seen} → IfSome s0.table (λ t. t.has_items h ≡ b) → Answers (next b) s0 s1 r → Answers (tests h next) s0 s1 r
tested {h = h} {next = next} b {r = r} {s0 = s0} {s1 = s1} told more = record {
  kept = more.kept;
  later = more.later;
  comes = unless_map r (Comes s0 s1 (next b) r) (Comes s0 s1 (tests h next) r) (λ c. (b, told, c)) more.comes;
}

pub rose_from : (a b c : ℕ) → a ≤ b → Rose b c → Rose a c
rose_from a b c le rose = omega arith

-- under a told table the result is the table's, or a fault by which the count rose
pub by_the_table : {A : Type 0} (call : Asking A) (r : Result A PyError) (s0 s1 : Seen) (t : Table) → s0.table ≡ Some t → Comes s0 s1 call r → (r ≡ by_table t call) ⊎ ((r ≡ Err HostFault) × Rose s0.faults s1.faults)
by_the_table (gives x) r s0 s1 t is h = inl h.0
by_the_table (asks q m k next) r s0 s1 t is (inl (tells, fault)) = inr (fault, tells.failed refl)
by_the_table (asks q m k next) r s0 s1 t is (inr (mid, a, tells, h)) =
    let e : t.answer q m k ≡ option_map plain_of a = rw is at tells.told in
    elim (by_the_table (next (option_map plain_of a)) r mid s1 t (tells.kept ∙ is) h) [
      | inl same ↦ inl (same ∙ ap (λ (x : Option Plain). by_table t (next x)) (sym e))
      | inr fault ↦ inr (fault.0, rose_from s0.faults mid.faults s1.faults tells.later fault.1)
    ]
by_the_table (tests q next) r s0 s1 t is (b, told, h) =
    let e : t.has_items q ≡ b = rw is at told in
    subst (λ x. (r ≡ by_table t (next x)) ⊎ ((r ≡ Err HostFault) × Rose s0.faults s1.faults)) (sym e) (by_the_table (next b) r s0 s1 t is h)

-- and a host that keeps its questions was asked those of the definition, in their order
in_order : {A : Type 0} (call : Asking A) (r : Result A PyError) (s0 s1 : Seen) (t : Table) (qs : List Question) → s0.table ≡ Some t → s0.asked ≡ Some qs → Comes s0 s1 call r → (s1.asked ≡ Some (qs ++ questions t call)) ⊎ (r ≡ Err HostFault)
in_order (gives x) r s0 s1 t qs is log h = inl (ap (λ (s : Seen). s.asked) h.1 ∙ log ∙ ap Some (sym (append-nil qs)))
in_order (asks q m k next) r s0 s1 t qs is log (inl (tells, fault)) = inr fault
in_order (asks q m k next) r s0 s1 t qs is log (inr (mid, a, tells, h)) =
    let e : t.answer q m k ≡ option_map plain_of a = rw is at tells.told in
    let n : mid.asked ≡ Some (qs ++ (question q m k ∷ [])) = rw log at tells.noted in
    elim (in_order (next (option_map plain_of a)) r mid s1 t (qs ++ (question q m k ∷ [])) (tells.kept ∙ is) n h) [
      | inl same ↦ inl (same ∙ ap Some (append_assoc qs (question q m k ∷ []) (questions t (next (option_map plain_of a)))) ∙ ap (λ (x : Option Plain). Some (qs ++ (question q m k ∷ questions t (next x)))) (sym e))
      | inr fault ↦ inr fault
    ]
in_order (tests q next) r s0 s1 t qs is log (b, told, h) =
    let e : t.has_items q ≡ b = rw is at told in
    subst (λ x. (s1.asked ≡ Some (qs ++ questions t (next x))) ⊎ (r ≡ Err HostFault)) (sym e) (in_order (next b) r s0 s1 t qs is log h)

-- a call that asks nothing answers the same for every host
pub by_no_table : {A : Type 0} (call : Asking A) (r : Result A PyError) (s0 s1 : Seen) (t : Table) → silent call ≡ true → Comes s0 s1 call r → r ≡ by_table t call
by_no_table (gives x) r s0 s1 t is h = h.0
by_no_table (asks q m k next) r s0 s1 t is h = absurd (cc)
by_no_table (tests q next) r s0 s1 t is h = absurd (cc)

-- and leaves the host as it was
left_alone : {A : Type 0} (call : Asking A) (r : Result A PyError) (s0 s1 : Seen) → silent call ≡ true → Comes s0 s1 call r → s1 ≡ s0
left_alone (gives x) r s0 s1 is h = h.1
left_alone (asks q m k next) r s0 s1 is h = absurd (cc)
left_alone (tests q next) r s0 s1 is h = absurd (cc)

-- want of memory is free, whatever was to be done
pub out_of_memory : {A : Type 0} {call : Asking A} {s : Seen} → Answers call s s (Err NoMemory)
out_of_memory = record { kept = refl; later = omega arith; comes = tt }

pub unless_or : {A : Type 0} (r : Result A PyError) (P : Type 0) → UnlessOutOfMemory r P → P ⊎ (r ≡ Err NoMemory)
unless_or (Ok a) P h = inl h
unless_or (Err NoMemory) P h = inr refl
unless_or (Err e) P h = inl h

pub answers_the_table : {A : Type 0} (call : Asking A) (old new : Seen) (t : Table) (r : Result A PyError) → Answers call old new r → old.table ≡ Some t → (r ≡ by_table t call) ⊎ (r ≡ Err NoMemory) ⊎ ((r ≡ Err HostFault) × Rose old.faults new.faults)
answers_the_table call old new t r h told = elim (unless_or r (Comes old new call r) h.comes) [
  | inr none ↦ inr (inl none)
  | inl comes ↦ elim (by_the_table call r old new t told comes) [ inl is ↦ inl is | inr fault ↦ inr (inr fault) ]
]

pub asked_in_order : {A : Type 0} (call : Asking A) (old new : Seen) (t : Table) (qs : List Question) (r : Result A PyError) → Answers call old new r → old.table ≡ Some t → old.asked ≡ Some qs → (new.asked ≡ Some (qs ++ questions t call)) ⊎ (r ≡ Err NoMemory) ⊎ (r ≡ Err HostFault)
asked_in_order call old new t qs r h told log = elim (unless_or r (Comes old new call r) h.comes) [
  | inr none ↦ inr (inl none)
  | inl comes ↦ elim (in_order call r old new t qs told log comes) [ inl is ↦ inl is | inr fault ↦ inr (inr fault) ]
]

pub leaves_alone : {A : Type 0} (call : Asking A) (old new : Seen) (r : Result A PyError) → Answers call old new r → silent call ≡ true → (new ≡ old) ⊎ (r ≡ Err NoMemory)
leaves_alone call old new r h quiet = elim (unless_or r (Comes old new call r) h.comes) [
  | inr none ↦ inr none
  | inl comes ↦ inl (left_alone call r old new quiet comes)
]

pub answers_alone : {A : Type 0} (call : Asking A) (old new : Seen) (t : Table) (r : Result A PyError) → Answers call old new r → silent call ≡ true → (r ≡ by_table t call) ⊎ (r ≡ Err NoMemory)
answers_alone call old new t r h quiet = elim (unless_or r (Comes old new call r) h.comes) [
  | inr none ↦ inr none
  | inl comes ↦ inl (by_no_table call r old new t quiet comes)
]

pub unless_free : {A : Type 0} (r : Result A PyError) (P : Type 0) → P → UnlessOutOfMemory r P
unless_free (Ok a) P p = p
unless_free (Err NoMemory) P p = tt
unless_free (Err e) P p = p

-- a result that is the one that is wanted
pub met : {A : Type 0} {want r : Result A PyError} → r ≡ want → Meets want r
met {want = want} {r = r} is = unless_free r (r ≡ want) is
