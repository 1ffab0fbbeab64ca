-- What is answered of a pattern, by what the first pass finds in it.
use Rattle.std.proofs.Common.{◌≡◌, sym, ◌∙◌, ap, ℕ, ◌≤◌, Bool, true, false, List, length}
use Rattle.std.proofs.lemmas.Bool.{le-ltb}
use Rattle.std.specs.Prelude.{Option, None, Result, Ok, Err, cond, nat_lt}
use Rattle.re_tree.specs.PlainText.{PlainText}
use Rattle.py_base.specs.Reading.{UnlessNoMemory}
use Rattle.re_tree.specs.Grammar.{Flags}
use Rattle.re_tree.specs.Machine.{read_tree}
use Rattle.re_tree.specs.Faults.{Diagnosis, diagnosis_of}
use Rattle.re_parse.specs.declared.error.TextError.{TextError}
use Rattle.re_parse.specs.declared.error.TextError.TheVariants.{NoMemory, TooLong, NotInGrammar, TooDeep, TooManyGroups, BadName, BadCount, BadReference, NotFixedWidth}
use Rattle.re_parse.specs.Answers.{no_memory, told, answer_of}
use Rattle.re_parse.specs.FirstPass.{first_pass}
use Rattle.re_parse.proofs.PassLemmas.{agrees}

pub meets : {P : Type 0} → P → (r : Result (Unit {0}) TextError) → UnlessNoMemory no_memory r P
meets h (Ok x) = h
meets h (Err NoMemory) = tt
meets h (Err TooLong) = h
meets h (Err NotInGrammar) = h
meets h (Err (TooDeep at)) = h
meets h (Err (TooManyGroups at)) = h
meets h (Err (BadName at)) = h
meets h (Err (BadCount at)) = h
meets h (Err (BadReference at)) = h
meets h (Err (NotFixedWidth at)) = h

pub answers_as : (flags : Flags) (text : List ℕ) (v : Diagnosis) → length text ≤ 16777216 → v ≡ first_pass flags text → told v ≡ answer_of flags text
answers_as flags text v e h =
    ap told (h ∙ agrees text flags)
    ∙ sym (ap (λ b. cond b (Err TooLong) (told (diagnosis_of (read_tree flags text)))) (le-ltb 16777216 (length text) e))

-- where a pattern is answered it has a tree
no_tree_by : (b : Bool) (o : Option PlainText) → ◌≡◌ {A = Result (Unit {0}) TextError} (Ok tt) (cond b (Err TooLong) (told (diagnosis_of o))) → o ≡ None → ⊥
no_tree_by true o e n = cc e
no_tree_by false o e n = let f : ◌≡◌ {A = Result (Unit {0}) TextError} (Ok tt) (Err NotInGrammar) = e ∙ ap (λ z. told (diagnosis_of z)) n in cc f

pub answered_has_a_tree : (flags : Flags) (text : List ℕ) → Ok tt ≡ answer_of flags text → read_tree flags text ≡ None → ⊥
answered_has_a_tree flags text e n = no_tree_by (nat_lt 16777216 (length text)) (read_tree flags text) e n
