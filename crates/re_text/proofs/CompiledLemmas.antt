-- A pattern that is read without a fault is compiled to its code.
use Rattle.std.proofs.Common.{◌≡◌, ◌∙◌, refl, ap, sym, subst, ℕ, Bool, true, false, nat_lt, if◌then◌else◌, List, [], ◌∷◌, ◌++◌, length, Option, Some, None, Result, Ok, Err}
use Rattle.re_tree.specs.declared.fault.Fault.{Fault}
use Rattle.re_tree.specs.Faults.{fault_of, diagnosis_of}
use Rattle.re_tree.specs.Grammar.{Flags, ReadsAs}
use Rattle.re_tree.specs.Machine.{read_tree}
use Rattle.re_tree.specs.PlainText.{PlainText, names_of, captures}
use Rattle.re_parse.specs.Answers.{answer_of, told}
use Rattle.re_parse.specs.declared.error.TheConstants.{MAX_CHARACTERS}
use Rattle.re_parse.specs.declared.error.TextError.{TextError}
use Rattle.re_parse.specs.declared.error.TextError.TheVariants.{TooLong}
use Rattle.re_text.specs.Compiled.{PlainCode, IsCompiled}
use Rattle.re_text.specs.Laws.{IsCodeOf}
use Rattle.re_text.specs.Words.{words_of}
use Rattle.re_text.proofs.ListLemmas.{has_code}
use Rattle.re_tree.proofs.TextLemmas.{reads as tree_read}

told_none : (o : Option Fault) → told (Some o) ≡ Ok tt → o ≡ None
told_none None e = refl
told_none (Some f) e = absurd (cc)

by_length : (t : Bool) (told : Result (Unit {0}) TextError) → (if t then Err TooLong else told) ≡ Ok tt → told ≡ Ok tt
by_length true told e = absurd (cc)
by_length false told e = e

no_fault : (flags : Flags) (text : List ℕ) (r : PlainText) → read_tree flags text ≡ Some r → Ok tt ≡ answer_of flags text → fault_of r ≡ None
no_fault flags text r reads e =
    let found : told (diagnosis_of (read_tree flags text)) ≡ Ok tt = by_length (nat_lt MAX_CHARACTERS (length text)) (told (diagnosis_of (read_tree flags text))) (sym e) in
    told_none (fault_of r) (sym (ap (λ (o : Option PlainText). told (diagnosis_of o)) reads) ∙ found)

pub compiled : (text : List ℕ) (flags : Flags) (r : PlainText) (code : PlainCode) → ReadsAs text flags r → Ok tt ≡ answer_of flags text → code.words ≡ words_of (names_of r) r ++ 1 ∷ [] → code.groups ≡ captures r → code.names ≡ names_of r → IsCompiled text flags code
compiled text flags r code reads e words groups names =
    let none = no_fault flags text r (tree_read text flags r reads) e in
    let is : IsCodeOf (words_of (names_of r) r ++ 1 ∷ []) (captures r) r = has_code text flags r reads none in
    record {
      tree = r;
      reads = reads;
      is_code = subst (λ (w : List ℕ). IsCodeOf w code.groups r) (sym words) (subst (λ (g : ℕ). IsCodeOf (words_of (names_of r) r ++ 1 ∷ []) g r) (sym groups) is);
      names = names;
    }
