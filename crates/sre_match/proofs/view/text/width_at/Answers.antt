use Rattle.std.proofs.Common.{◌≡◌, ◌∙◌, sym, ap, ◌<◌, ◌≤◌, length, chars}
use Rattle.std.specs.Prelude.{slice_index}
use Rattle.sre_match.proofs.CursorLemmas.{parts, byte_there, width_there, one_byte, two_bytes, three_bytes, four_bytes}
use Rattle.sre_match.proofs.view.text.width_at.Goals as goal

pub bounds-as_bytes-offset : goal.bounds-as_bytes-offset
bounds-as_bytes-offset c =
    let bs = c.args.text.now in
    rw (c.as_bytes.ensures.value, c.offset.ensures) (byte_there (chars bs) bs _ _ (parts bs c.args.cursor.now c.requires.fits c.utf8.text) c.requires.there)

pub returns-then-first-lt128 : goal.returns-then-first-lt128
returns-then-first-lt128 c =
    let bs = c.args.text.now in
    sym (one_byte (slice_index bs c.args.cursor.now.offset) (rw (c.as_bytes.ensures.value, c.offset.ensures) at c.if-first-lt128.true))
    ∙ width_there (chars bs) bs _ _ (parts bs c.args.cursor.now c.requires.fits c.utf8.text) c.requires.there

pub returns-then-first-lt224 : goal.returns-then-first-lt224
returns-then-first-lt224 c =
    let bs = c.args.text.now in
    sym (two_bytes (slice_index bs c.args.cursor.now.offset) (rw (c.as_bytes.ensures.value, c.offset.ensures) at c.if-first-lt128.false) (rw (c.as_bytes.ensures.value, c.offset.ensures) at c.if-first-lt224.true))
    ∙ width_there (chars bs) bs _ _ (parts bs c.args.cursor.now c.requires.fits c.utf8.text) c.requires.there

pub returns-then-first-lt240 : goal.returns-then-first-lt240
returns-then-first-lt240 c =
    let bs = c.args.text.now in
    sym (three_bytes (slice_index bs c.args.cursor.now.offset) (rw (c.as_bytes.ensures.value, c.offset.ensures) at c.if-first-lt224.false) (rw (c.as_bytes.ensures.value, c.offset.ensures) at c.if-first-lt240.true))
    ∙ width_there (chars bs) bs _ _ (parts bs c.args.cursor.now c.requires.fits c.utf8.text) c.requires.there

pub returns-else-first-lt240 : goal.returns-else-first-lt240
returns-else-first-lt240 c =
    let bs = c.args.text.now in
    sym (four_bytes (slice_index bs c.args.cursor.now.offset) (rw (c.as_bytes.ensures.value, c.offset.ensures) at c.if-first-lt240.false))
    ∙ width_there (chars bs) bs _ _ (parts bs c.args.cursor.now c.requires.fits c.utf8.text) c.requires.there
