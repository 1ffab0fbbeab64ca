use Rattle.std.proofs.Common.{◌≡◌, ◌∙◌, ap, chars, refl, encode_utf8_all}
use Rattle.std.specs.Prelude.{slice_range}
use Rattle.sre_commands.proofs.PartLemmas.{text_part}
use Rattle.sre_commands.proofs.commands.sub.parts.TextViewTextParts.append.Goals as goal

pub returns : goal.returns
returns c =
    let part : c.as_bytes.result.now ≡ encode_utf8_all (slice_range c.args.self.now c.args.from.now.place c.args.to.now.place) =
    text_part c.as_bytes.result.now _ c.as_bytes.ensures.utf8 (ap chars c.as_bytes.ensures.value ∙ c.slice.ensures) in
    rw (c.in_ok-extend_from_slice.ensures.items, part) refl
