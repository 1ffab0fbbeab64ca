use Rattle.std.specs.Prelude.{Result, Ok, Err, IfOk}
use Rattle.std.proofs.Common.{◌∙◌, sym, ap, subst, encode_utf8_all, IsUtf8}
use Rattle.std.proofs.lemmas.Str.{encodes-chars}
use Rattle.py_str.proofs.codec.decode.Goals as goal

-- a result keeps what follows from what is known of it
if_ok : {T E : Type 0} {P Q : T → Type 0} (r : Result T E) → ((v : T) → P v → Q v) → IfOk r P → IfOk r Q
if_ok (Ok v) f h = f v h
if_ok (Err e) f h = tt

pub returns-in-Ok-clause-ok : goal.returns-in-Ok-clause-ok
returns-in-Ok-clause-ok c =
    let u : IsUtf8 c.in-Ok.text.now = subst IsUtf8 (sym c.in-Ok.ensures.cases.0) c.in-Ok.ensures.cases.1 in
    if_ok c.copy_of.result (λ v h. ap encode_utf8_all h ∙ encodes-chars c.in-Ok.text.now u ∙ c.in-Ok.ensures.cases.0 ∙ c.as_bytes.ensures) c.copy_of.ensures.ok
