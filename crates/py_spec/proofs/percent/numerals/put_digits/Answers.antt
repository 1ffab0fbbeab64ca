use Rattle.std.proofs.Common.{◌-◌, arith, refl}
use Rattle.std.proofs.lemmas.List.{length-set}
use Rattle.py_spec.proofs.NumeralLemmas.{none_written, wide_room, fewer_digits, some_room, digit_put, digit_last}
use Rattle.py_spec.proofs.percent.numerals.put_digits.Goals as goal

pub digits-init : goal.digits-init
digits-init c = record {
  sofar = none_written c.args.base c.args.upper c.args.n c.args.room.now (omega arith);
  small = wide_room c.args.n (omega arith);
  some = omega arith;
  within = omega arith;
  size = omega arith;
}

pub digits-preserved : goal.digits-preserved
digits-preserved c =
    let l = c.digits in
    let more = some_room l.at c.args.base l.left (omega arith) (omega arith) l.invariant.small in
    record {
      sofar = digit_put l.at c.args.base l.left c.glyph.result c.args.upper _ l.room _ l.invariant.some (omega (arith, l.invariant.size, l.invariant.within)) (omega arith) (omega arith) c.glyph.ensures refl l.invariant.sofar;
      small = fewer_digits l.at c.args.base l.left (omega arith) (omega arith) l.invariant.small;
      some = omega (arith, more);
      within = omega (arith, l.invariant.within);
      size = omega (arith, l.invariant.size, length-set l.room (l.at - 1) c.glyph.result);
    }

pub returns-clause-digits : goal.returns-clause-digits
returns-clause-digits c =
    let l = c.digits in
    digit_last l.at c.args.base l.left c.glyph-2.result c.args.upper c.args.n l.room _ l.invariant.some (omega (arith, l.invariant.size, l.invariant.within)) (omega arith) c.glyph-2.ensures refl l.invariant.sofar
