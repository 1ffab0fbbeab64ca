use Rattle.std.proofs.Common.{◌∙◌, ℕ, ap}
use Rattle.py_spec.specs.declared.percent.parts.CFormatPart.{CFormatPart}
use Rattle.py_spec.specs.Percent.ByteParts.{is_byte_part}
use Rattle.py_spec.proofs.BytePartLemmas.{part_narrow}
use Rattle.py_spec.proofs.percent.byte_parts.CFormatBytes.of_parts.Goals as goal

pub part_bytes-requires : goal.part_bytes-requires
part_bytes-requires c =
    ap (λ (p : ℕ × CFormatPart). is_byte_part p.1) c.entry-item.is
    ∙ part_narrow c.args.parts.now c.loop-entry.entry-index c.entry-item.result c.loop-entry-test.true c.requires
