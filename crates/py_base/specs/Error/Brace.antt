-- What the faults of a brace template, and of a format specification, print.
use Rattle.std.specs.Prelude.{ℕ, List, ◌++◌, codes, encode_utf8}
use Rattle.py_base.specs.Error.TypeNames.{class_text}
use Rattle.py_base.specs.declared.error.brace.FormatParseError.{FormatParseError}
use Rattle.py_base.specs.declared.error.brace.FormatParseError.TheVariants.{UnmatchedBracket}
use Rattle.py_base.specs.declared.error.brace.NotAllowedPart.{NotAllowedPart}
use Rattle.py_base.specs.declared.error.brace.NotAllowedPart.TheVariants.{Sign, Alternate}
use Rattle.py_base.specs.declared.error.brace.FormatSpecError.{FormatSpecError}
use Rattle.py_base.specs.declared.error.brace.FormatSpecError.TheVariants.{DecimalDigitsTooMany, PrecisionTooBig, InvalidFormatSpecifier, UnspecifiedFormat, UnknownFormatCode, PrecisionNotAllowed, NotAllowed, CodeNotInRange}

-- a field without an end has a text of its own
abbrev pub brace_fault_text : FormatParseError → List ℕ
brace_fault_text UnmatchedBracket = codes "expected '}' before end of string"
brace_fault_text _ = codes "Unexpected error parsing format string"

abbrev pub not_allowed_text : NotAllowedPart → List ℕ
not_allowed_text Sign = codes "Sign"
not_allowed_text Alternate = codes "Alternate form (#)"

-- what is wrong with a format specification or with its value
abbrev pub spec_fault_text : FormatSpecError → List ℕ
spec_fault_text DecimalDigitsTooMany = codes "Too many decimal digits in format string"
spec_fault_text PrecisionTooBig = codes "Precision too big"
spec_fault_text InvalidFormatSpecifier = codes "Invalid format specifier"
spec_fault_text (UnspecifiedFormat mark code) =
    codes "Cannot specify '" ++ (encode_utf8 mark ++ (codes "' with '" ++ (encode_utf8 code
    ++ codes "'.")))
spec_fault_text (UnknownFormatCode code class) =
    codes "Unknown format code '" ++ (encode_utf8 code ++ (codes "' for object of type '"
    ++ (class_text class ++ codes "'")))
spec_fault_text PrecisionNotAllowed = codes "Precision not allowed in integer format specifier"
spec_fault_text (NotAllowed part) =
    not_allowed_text part ++ codes " not allowed with integer format specifier 'c'"
spec_fault_text CodeNotInRange = codes "%c arg not in range(0x110000)"
