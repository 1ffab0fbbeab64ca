-- Which numbers name an anchor.
use Rattle.std.specs.Prelude.{ℕ, Bool, ◌||◌, ◌&&◌, nat_le}
use Rattle.sre_code.specs.declared.opcodes.TheConstants.{AT_END_STRING, AT_UNI_BOUNDARY, AT_UNI_NON_BOUNDARY}

-- those up to AT_END_STRING, and the two for words of any script
abbrev pub is_anchor : ℕ → Bool
is_anchor k = nat_le k AT_END_STRING || (nat_le AT_UNI_BOUNDARY k && nat_le k AT_UNI_NON_BOUNDARY)
