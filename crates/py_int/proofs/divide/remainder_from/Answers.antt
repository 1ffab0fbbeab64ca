use Rattle.std.proofs.Common.{sym, ap, ◌∙◌}
use Rattle.py_int.specs.Residue.{toward}
use Rattle.py_int.proofs.DivideLemmas.{floor_mod-is}
use Rattle.py_int.proofs.divide.remainder_from.Goals as goal

pub returns : goal.returns
returns c =
    c.signed_rest.ensures ∙ ap (λ n. toward n c.args.b) c.residue_from.ensures.value ∙ sym (floor_mod-is c.args.a c.args.b c.requires.some)
