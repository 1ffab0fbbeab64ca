use Rattle.std.proofs.Common.{◌≡◌, ◌≢◌, ◌<◌, ◌*◌, ◌%◌, ◌^◌, ℕ, unsigned_abs, refl, ◌∙◌}
use Rattle.py_int.specs.Power.{IsInversePower}
use Rattle.py_int.specs.Residue.{residue, toward}
use Rattle.py_int.proofs.ResidueLemmas.{inverse_power, no_inverse}
use Rattle.py_int.proofs.power.inverse_power_under.Goals as goal

pub returns-in-Some-clause-ok : goal.returns-in-Some-clause-ok
returns-in-Some-clause-ok c =
    let m = unsigned_abs c.args.modulus in
    let i = c.in-Some.inverse in
    let both : (i < c.magnitude_of.result) × (c.rest_by.result * i % c.magnitude_of.result ≡ 1 % c.magnitude_of.result) = c.in-Some.ensures in
    let e : residue c.args.base m * i % m ≡ 1 % m = rw (← c.rest_by.ensures.value, ← c.magnitude_of.ensures) both.1 in
    let f : c.pow_under-rest.result ≡ i ^ unsigned_abs c.args.exp % m = rw (← c.magnitude_of-in-Some.ensures, ← c.magnitude_of-in-Some-2.ensures) c.pow_under-rest.ensures.value in
    let p : IsInversePower c.args.modulus c.args.base (unsigned_abs c.args.exp) (toward c.pow_under-rest.result c.args.modulus) = inverse_power c.args.base c.args.modulus i (unsigned_abs c.args.exp) c.pow_under-rest.result c.requires e f in
    (p.0, p.1, c.signed_rest.ensures ∙ p.2)

pub returns-in-None-clause-err : goal.returns-in-None-clause-err
returns-in-None-clause-err c =
    let m = unsigned_abs c.args.modulus in
    let n : (i : ℕ) → c.rest_by.result * i % c.magnitude_of.result ≢ 1 % c.magnitude_of.result = c.in-None.ensures in
    let k : (i : ℕ) → residue c.args.base m * i % m ≢ 1 % m = rw (← c.rest_by.ensures.value, ← c.magnitude_of.ensures) n in
    (refl, no_inverse c.args.base c.args.modulus c.requires k)
