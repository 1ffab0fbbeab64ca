use Rattle.std.proofs.Common.{rules, ◌≡◌, sym, subst, Err, Result}
use Rattle.sre_code.specs.declared.error.CodeError.{CodeError}
use Rattle.sre_code.specs.declared.error.CodeError.TheVariants.{InvalidCode}
use Rattle.sre_code.specs.PlainTree.{PlainTree}
use Rattle.sre_code.specs.Spelling.{Spells}
use Rattle.sre_code.specs.Decoding.Decoder.{Meets}
use Rattle.sre_code.specs.Decoding.{read_code}
use Rattle.sre_code.proofs.SoundLemmas.{what_is_read_is_spelled}
use Rattle.sre_code.proofs.CompleteLemmas.{what_is_spelled_is_read}
use Rattle.sre_code.proofs.decoding.decode.Goals as goal

pub returns-in_err-tree-clause-invalid : goal.returns-in_err-tree-clause-invalid
returns-in_err-tree-clause-invalid c = λ h t s.
    let i : c.read_code.result ≡ Err InvalidCode = search rules in
    let M : Result PlainTree CodeError → Type 0 = λ r. Meets (read_code c.args.groups c.args.words.now) r in
    let m = subst M i c.read_code.ensures in
    let f : ⊥ = cc (m, what_is_spelled_is_read c.args.groups c.args.words.now t s) in f

pub new-requires : goal.new-requires
new-requires c =
    let s : Spells c.args.words.now c.args.groups c.in_ok-tree.tree = what_is_read_is_spelled c.args.groups c.args.words.now c.in_ok-tree.tree (sym c.in_ok-tree.ensures) in
    rw c.in_ok-words.ensures.items (∣ s ∣₁)

pub returns-clause-found : goal.returns-clause-found
returns-clause-found c = rw c.new.ensures (what_is_read_is_spelled c.args.groups c.args.words.now c.in_ok-tree.tree (sym c.in_ok-tree.ensures))
