use Rattle.std.proofs.Common.{rules, ◌<◌, arith, get_or, string_bytes}
use Rattle.std.proofs.lemmas.Str.{chars-nil, IsUtf8-string_bytes}
use Rattle.py_spec.proofs.BytePartLemmas.{byte_taken, narrow_taken}
use Rattle.py_spec.proofs.percent.latin.text_of_bytes.Goals as goal

pub loop-byte-init : goal.loop-byte-init
loop-byte-init c = record {
  sofar = rw c.in_ok-text.ensures.bytes chars-nil;
  narrow = search rules;
}

pub loop-byte-preserved : goal.loop-byte-preserved
loop-byte-preserved c =
    let small : get_or c.args.bytes.now c.loop-byte.byte-index 0 < 256 = omega (arith, c.type_inv.bytes c.loop-byte.byte-index) in
    record {
      sofar = byte_taken (string_bytes c.loop-byte.text) (string_bytes c.push.new.self) c.args.bytes.now c.loop-byte.byte-index c.from.result c.loop-byte-test.true c.from.ensures small (IsUtf8-string_bytes c.loop-byte.text) c.in_ok-push.ensures.bytes c.loop-byte.invariant.sofar;
      narrow = narrow_taken c.args.bytes.now c.loop-byte.byte-index c.loop-byte-test.true small c.loop-byte.invariant.narrow;
    }
