use Rattle.std.proofs.Common.{◌≡◌, List, ℕ, subst, sym, true}
use Rattle.py_text.specs.Text.{all_ascii}
use Rattle.py_sre.proofs.AsciiLemmas.{ascii_between}
use Rattle.py_sre.proofs.built.PyStrBuiltByteView.append_part.Goals as goal

pub append_ascii-requires : goal.append_ascii-requires
append_ascii-requires c =
    subst (λ (l : List ℕ). all_ascii l ≡ true) (sym c.slice.ensures) (ascii_between c.args.view.now c.args.from.now.place c.args.to.now.place c.requires.taken)
