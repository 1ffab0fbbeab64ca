use Rattle.std.proofs.Common.{◌≡◌, ◌%◌, ◌^◌, unsigned_abs, refl, ◌∙◌}
use Rattle.py_int.specs.Residue.{residue}
use Rattle.py_int.proofs.ResidueLemmas.{power_rest}
use Rattle.py_int.proofs.power.power_under.Goals as goal

pub returns : goal.returns
returns c =
    let e : c.pow_under-rest.result ≡ (residue c.args.base (unsigned_abs c.args.modulus)) ^ unsigned_abs c.args.exp % unsigned_abs c.args.modulus =
    c.pow_under-rest.ensures.value ∙ rw (c.rest_by.ensures.value, c.magnitude_of.ensures, c.magnitude_of-2.ensures) refl in
    c.signed_rest.ensures ∙ power_rest c.args.base c.args.modulus (unsigned_abs c.args.exp) c.pow_under-rest.result c.requires e
