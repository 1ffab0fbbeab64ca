use Rattle.std.proofs.Common.{◌≡◌, ◌∙◌, Some, None, Ok, Err, true, false, refl, sym}
use Rattle.py_value.specs.Asking.{gives}
use Rattle.py_value.specs.Lookup.{found_under, handle_item}
use Rattle.py_value.specs.ValueView.{plain_of}
use Rattle.py_value.proofs.AskingLemmas.{tested, asked, asked_in_vain, asks_nothing}
use Rattle.py_value.proofs.KeyLemmas.{key_there}
use Rattle.py_value.proofs.lookup.handle_item.Goals as goal

pub returns-in-Ok-Some-clause-answers : goal.returns-in-Ok-Some-clause-answers
returns-in-Ok-Some-clause-answers g c =
    let has = rw c.if-not-has_getitem.false at c.has_getitem.ensures in
    let key = key_there (plain_of c.args.key.now) (sym c.is_key.ensures ∙ c.if-not-is_key.false) in
    tested {next = handle_item c.args.handle (plain_of c.args.key.now)} true has (rw key.1
    (asked {next = λ found. gives (found_under key.0 found)} {a = Some c.in-Ok-Some.value} (rw c.in-Ok-Some.field-0-is at c.in-Ok-Some.ensures) (asks_nothing refl)))

pub returns-in-Ok-None-clause-answers : goal.returns-in-Ok-None-clause-answers
returns-in-Ok-None-clause-answers g c =
    let has = rw c.if-not-has_getitem.false at c.has_getitem.ensures in
    let key = key_there (plain_of c.args.key.now) (sym c.is_key.ensures ∙ c.if-not-is_key.false) in
    tested {next = handle_item c.args.handle (plain_of c.args.key.now)} true has (rw key.1
    (asked {next = λ found. gives (found_under key.0 found)} {a = None} (rw c.in-Ok-None.field-0-is at c.in-Ok-None.ensures) (asks_nothing (rw key.1 at c.missing.ensures))))

pub returns-in-Err-Failed-clause-answers : goal.returns-in-Err-Failed-clause-answers
returns-in-Err-Failed-clause-answers g c =
    let has = rw c.if-not-has_getitem.false at c.has_getitem.ensures in
    let key = key_there (plain_of c.args.key.now) (sym c.is_key.ensures ∙ c.if-not-is_key.false) in
    tested {next = handle_item c.args.handle (plain_of c.args.key.now)} true has (rw key.1
    (asked_in_vain (rw c.in-Err-Failed.field-0-is at c.in-Err-Failed.ensures)))
