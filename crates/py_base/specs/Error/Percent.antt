-- What the faults of a percent template, and of its arguments, print.
use Rattle.std.specs.Prelude.{ℕ, List, ◌++◌, codes, true, false, encode_utf8}
use Rattle.std.specs.Fmt.{decimal, digits}
use Rattle.py_base.specs.Error.TypeNames.{class_text}
use Rattle.py_base.specs.declared.error.percent.PercentFault.{PercentFault}
use Rattle.py_base.specs.declared.error.percent.PercentFault.TheVariants.{IncompleteKey, IncompleteFormat, WidthTooBig, UnsupportedChar}
use Rattle.py_base.specs.declared.error.percent.PercentCause.{PercentCause}
use Rattle.py_base.specs.declared.error.percent.PercentCause.TheVariants.{NeedsMapping, NotEnough, LeftOver, StarNotInt, NumberRequired, IntegerRequired, CharRequired, BytesRequired}

-- only a character that is no type is shown, with its code point and its place
abbrev pub percent_fault_text : PercentFault → ℕ → List ℕ
percent_fault_text IncompleteKey _ = codes "incomplete format key"
percent_fault_text IncompleteFormat _ = codes "incomplete format"
percent_fault_text WidthTooBig _ = codes "width too big"
percent_fault_text (UnsupportedChar c) place =
    codes "unsupported format character '" ++ (encode_utf8 c ++ (codes "' (0x" ++ (digits 16 false c
    ++ (codes ") at index " ++ decimal place))))

-- why the arguments do not fit a percent template; true stands for a template of bytes
abbrev pub percent_cause_text : PercentCause → List ℕ
percent_cause_text NeedsMapping = codes "format requires a mapping"
percent_cause_text NotEnough = codes "not enough arguments for format string"
percent_cause_text (LeftOver true) = codes "not all arguments converted during bytes formatting"
percent_cause_text (LeftOver false) = codes "not all arguments converted during string formatting"
percent_cause_text StarNotInt = codes "* wants int"
percent_cause_text (NumberRequired c class) =
    codes "%" ++ (encode_utf8 c ++ (codes " format: a number is required, not "
    ++ class_text class))
percent_cause_text (IntegerRequired c class) =
    codes "%" ++ (encode_utf8 c ++ (codes " format: an integer is required, not "
    ++ class_text class))
percent_cause_text (CharRequired true) =
    codes "%c requires an integer in range(256) or a single byte"
percent_cause_text (CharRequired false) = codes "%c requires int or char"
percent_cause_text (BytesRequired class) =
    codes "%b requires a bytes-like object, or an object that implements __bytes__, not '"
    ++ (class_text class ++ codes "'")
