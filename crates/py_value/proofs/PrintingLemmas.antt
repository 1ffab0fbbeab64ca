-- One turn of the loops that print.
use Rattle.std.proofs.Common.{◌≡◌, ℕ, ◌+◌, ◌<◌, suc, add-one, List, ◌++◌, length, get_or, drop, Result, Ok, Err, codes, refl, sym, zero, ◌≢◌, arith}
use Rattle.py_value.specs.Plain.{Plains, empty, ◌then◌, size_of_values}
use Rattle.py_base.specs.declared.error.PyError.{PyError}
use Rattle.py_value.specs.declared.value.Value.{Value}
use Rattle.py_value.specs.declared.value.DictItem.{DictItem}
use Rattle.py_value.specs.Asking.{Seen, Answers}
use Rattle.py_value.specs.Printing.{put_repr, put_values, put_entries, comma, key_repr, tuple_end}
use Rattle.py_value.specs.ValueView.{plain_of, values_of, entries_of}
use Rattle.py_value.proofs.AskingLemmas.{go_on, stop}
use Rattle.py_value.proofs.ListLemmas.{values_from, entries_from}

pub values_step : (vs : List Value) (i : ℕ) (d : Value) (out mid new : List ℕ) (s1 s2 s3 : Seen) (r : Result (List ℕ) PyError) → i < length vs → d ≡ get_or vs i d → mid ≡ out ++ comma i → Answers (put_repr (plain_of d) mid) s1 s2 (Ok new) → Answers (put_values (i + 1) (values_of (drop (i + 1) vs)) new) s2 s3 r → Answers (put_values i (values_of (drop i vs)) out) s1 s3 r
values_step vs i d out mid new s1 s2 s3 r lt is m one two =
    rw (values_from vs i d lt is, add-one) (go_on (λ u. put_values (suc i) (values_of (drop (suc i) vs)) u) (rw m at one) (rw add-one at two))

pub values_stop : (vs : List Value) (i : ℕ) (d : Value) (out mid : List ℕ) (e : PyError) (s1 s2 : Seen) → i < length vs → d ≡ get_or vs i d → mid ≡ out ++ comma i → Answers (put_repr (plain_of d) mid) s1 s2 (Err e) → Answers (put_values i (values_of (drop i vs)) out) s1 s2 (Err e)
values_stop vs i d out mid e s1 s2 lt is m one =
    rw (values_from vs i d lt is, add-one) (stop (λ u. put_values (suc i) (values_of (drop (suc i) vs)) u) (rw m at one))

pub entries_step : (es : List DictItem) (i : ℕ) (d : DictItem) (out mid new : List ℕ) (s1 s2 s3 : Seen) (r : Result (List ℕ) PyError) → i < length es → d ≡ get_or es i d → mid ≡ out ++ comma i ++ key_repr d.key ++ codes ": " → Answers (put_repr (plain_of d.value) mid) s1 s2 (Ok new) → Answers (put_entries (i + 1) (entries_of (drop (i + 1) es)) new) s2 s3 r → Answers (put_entries i (entries_of (drop i es)) out) s1 s3 r
entries_step es i d out mid new s1 s2 s3 r lt is m one two =
    rw (entries_from es i d lt is, add-one) (go_on (λ u. put_entries (suc i) (entries_of (drop (suc i) es)) u) (rw m at one) (rw add-one at two))

pub entries_stop : (es : List DictItem) (i : ℕ) (d : DictItem) (out mid : List ℕ) (e : PyError) (s1 s2 : Seen) → i < length es → d ≡ get_or es i d → mid ≡ out ++ comma i ++ key_repr d.key ++ codes ": " → Answers (put_repr (plain_of d.value) mid) s1 s2 (Err e) → Answers (put_entries i (entries_of (drop i es)) out) s1 s2 (Err e)
entries_stop es i d out mid e s1 s2 lt is m one =
    rw (entries_from es i d lt is, add-one) (stop (λ u. put_entries (suc i) (entries_of (drop (suc i) es)) u) (rw m at one))

pub comma_later : (i : ℕ) → i ≢ 0 → comma i ≡ codes ", "
comma_later zero some = absurd (some refl)
comma_later (suc i) some = refl

pub one_ends : (vs : Plains) → 1 ≡ size_of_values vs → tuple_end vs ≡ codes ",)"
one_ends empty e = absurd (omega (arith, e))
one_ends (v then empty) e = refl
one_ends (v then w then vs) e = absurd (omega (arith, e))

pub others_end : (vs : Plains) → size_of_values vs ≢ 1 → tuple_end vs ≡ codes ")"
others_end empty e = refl
others_end (v then empty) e = absurd (e refl)
others_end (v then w then vs) e = refl
