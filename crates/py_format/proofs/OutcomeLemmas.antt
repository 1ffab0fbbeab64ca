-- What a call comes to whose only error is out of memory.
use Rattle.std.proofs.Common.{◌≡◌, ℕ, List, ◌++◌, Result, Ok, Err, OnOk, IfOk, IsOkUnless, sym, ap, subst}
use Rattle.py_base.specs.declared.error.PyError.{PyError}
use Rattle.py_base.specs.declared.error.PyError.TheVariants.{NoMemory}
use Rattle.py_value.specs.Asking.{Answers, Seen, gives}
use Rattle.py_value.specs.Plain.{Plains}
use Rattle.py_value.specs.Printing.{written}
use Rattle.py_value.proofs.AskingLemmas.{asks_nothing, out_of_memory}
use Rattle.py_spec.specs.declared.percent.parts.CFormatPart.{CFormatPart}
use Rattle.py_spec.specs.declared.percent.parts.CFormatPart.TheVariants.{Literal}
use Rattle.py_value.specs.Plain.{Plain}
use Rattle.py_format.specs.declared.percent.kind.Kind.{Kind}
use Rattle.py_format.specs.Percent.Fold.{both, literal, put_part, put_keyed_part}

ran_out : {A : Type 0} (want : A) (s : Seen) (e : PyError) → e ≡ NoMemory → Answers (gives (Ok want)) s s (Err e)
ran_out want s e is = rw is out_of_memory

-- a value is the one that is wanted
pub done : {A : Type 0} (r : Result A PyError) (want : A) (s : Seen) → IfOk r (λ a. a ≡ want) → IsOkUnless r NoMemory → Answers (gives (Ok want)) s s r
done (Ok a) want s ok err = asks_nothing (ap Ok ok)
done (Err e) want s ok err = ran_out want s e err

-- what was written is what is wanted
pub put_done : (r : Result (Unit {0}) PyError) (want new : List ℕ) (s : Seen) → OnOk r (new ≡ want) → IsOkUnless r NoMemory → Answers (gives (Ok want)) s s (written r new)
put_done (Ok u) want new s ok err = asks_nothing (ap Ok ok)
put_done (Err e) want new s ok err = ran_out want s e err

-- and so with the values that are left
pub both_done : (r : Result (Unit {0}) PyError) (want new : List ℕ) (vs : Plains) (s : Seen) → OnOk r (new ≡ want) → IsOkUnless r NoMemory → Answers (gives (Ok (want, vs))) s s (both r new vs)
both_done (Ok u) want new vs s ok err = asks_nothing (ap (λ (t : List ℕ). Ok (t, vs)) ok)
both_done (Err e) want new vs s ok err = ran_out (want, vs) s e err

-- a literal among parts without keys, and with keys
pub literal_put : (kind : Kind) (place : ℕ) (part : CFormatPart) (text : List ℕ) (vs : Plains) (out new : List ℕ) (r : Result (Unit {0}) PyError) (s : Seen) → part ≡ Literal text → OnOk r (new ≡ out ++ literal kind part) → IsOkUnless r NoMemory → Answers (put_part kind place part vs out) s s (both r new vs)
literal_put kind place part text vs out new r s is ok err =
    subst (λ (p : CFormatPart). Answers (put_part kind place p vs out) s s (both r new vs)) (sym is) (both_done r (out ++ literal kind (Literal text)) new vs s (subst (λ (p : CFormatPart). OnOk r (new ≡ out ++ literal kind p)) is ok) err)

pub literal_keyed : (kind : Kind) (place : ℕ) (part : CFormatPart) (text : List ℕ) (values : Plain) (out new : List ℕ) (r : Result (Unit {0}) PyError) (s : Seen) → part ≡ Literal text → OnOk r (new ≡ out ++ literal kind part) → IsOkUnless r NoMemory → Answers (put_keyed_part kind place part values out) s s (written r new)
literal_keyed kind place part text values out new r s is ok err =
    subst (λ (p : CFormatPart). Answers (put_keyed_part kind place p values out) s s (written r new)) (sym is) (put_done r (out ++ literal kind (Literal text)) new s (subst (λ (p : CFormatPart). OnOk r (new ≡ out ++ literal kind p)) is ok) err)
