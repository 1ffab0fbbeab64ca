use Rattle.std.proofs.Common.{◌≡◌, ◌++◌, ◌∷◌, [], ◌+◌, ◌-◌, ap, ◌∙◌, sym, append_assoc, arith}
use Rattle.py_int.specs.Bytes.{low_bytes, low_byte}
use Rattle.py_int.specs.Divide.{floor_of}
use Rattle.py_int.proofs.ByteDigitLemmas.{low_bytes_step}
use Rattle.py_int.proofs.bytes.low_bytes_of.Goals as goal

pub loop-place-preserved : goal.loop-place-preserved
loop-place-preserved c =
    let n = c.args.length - (c.loop-place.place + 1) in
    let z = c.loop-place.rest in
    let s = low_bytes_step c.args.length c.loop-place.place z (omega arith) in
    let r = c.without_low_byte-rest.ensures in
    let i : c.push.new.self.items ≡ c.loop-place.bytes.items ++ low_byte z ∷ [] = c.in_ok-push.ensures.items ∙ ap (λ b. c.loop-place.bytes.items ++ b ∷ []) c.low_byte_of.ensures in
    c.loop-place.invariant ∙ ap (λ t. c.loop-place.bytes.items ++ t) s ∙ rw (i, r) (sym (append_assoc c.loop-place.bytes.items (low_byte z ∷ []) (low_bytes n (floor_of z 256))))
