use Rattle.std.proofs.Common.{◌≡◌, ◌∙◌, ◌*◌, ◌<◌, ◌∷◌, [], ap, length, arith, get_or, length-append}
use Rattle.std.specs.Int.{div_ceil}
use Rattle.std.proofs.lemmas.Option.{slice_get-get_or}
use Rattle.py_text.specs.Text.{all_ascii}
use Rattle.py_text.proofs.StrideLemmas.{place_inside, strides_begin, stride_taken, strides_end}
use Rattle.py_text.proofs.AsciiLemmas.{ascii_pushed}
use Rattle.py_text.proofs.strides.every_byte.Goals as goal

pub loop-i-init : goal.loop-i-init
loop-i-init c = record {
  kept_ascii = ap all_ascii c.in_ok-kept.ensures.items;
  size = ap length c.in_ok-kept.ensures.items;
  room = c.in_ok-kept.ensures.capacity;
  sofar = strides_begin c.args.step _ c.args.bytes.now c.in_ok-kept.ensures.items;
}

pub loop-i-preserved : goal.loop-i-preserved
loop-i-preserved c =
    let before : c.loop-i.i < div_ceil (length c.args.bytes.now) c.args.step = omega (arith, c.loop-i-test.true, c.div_ceil-count.ensures) in
    let inside : c.loop-i.i * c.args.step < length c.args.bytes.now = place_inside c.args.step c.loop-i.i (length c.args.bytes.now) c.requires.forward before in
    record {
      kept_ascii = ascii_pushed _ _ c.args.bytes.now (c.loop-i.i * c.args.step) _ (slice_get-get_or c.args.bytes.now (c.loop-i.i * c.args.step) 0 inside) c.push_reserved.ensures.items c.loop-i.invariant.kept_ascii c.requires.ascii;
      size = omega (arith, ap length c.push_reserved.ensures.items, length-append c.loop-i.kept.items (get_or c.args.bytes.now (c.loop-i.i * c.args.step) 0 ∷ []), c.loop-i.invariant.size);
      room = omega (arith, c.push_reserved.ensures.capacity, c.loop-i.invariant.room);
      sofar = stride_taken c.args.step c.loop-i.i _ _ c.args.bytes.now _ c.requires.forward inside c.push_reserved.ensures.items c.loop-i.invariant.sofar;
    }

pub returns-clause-ok : goal.returns-clause-ok
returns-clause-ok c =
    let all : c.loop-i.i ≡ div_ceil (length c.args.bytes.now) c.args.step = omega (arith, c.loop-i-test.false, c.loop-i.auto.i-end, c.div_ceil-count.ensures) in
    c.new_ascii_unchecked.ensures ∙ strides_end c.args.step c.loop-i.i _ c.args.bytes.now _ c.requires.forward all c.loop-i.invariant.sofar
