-- What each error prints.
use Rattle.std.specs.Prelude.{ℕ, List, ◌++◌, codes, ◌==◌, if◌then◌else◌}
use Rattle.std.specs.Fmt.{decimal}
use Rattle.py_base.specs.Error.Key.{key_text}
use Rattle.py_base.specs.Error.Causes.{zero_text, switch_text, maketrans_text, translate_text, carry_text, int_args_text}
use Rattle.py_base.specs.Error.TypeNames.{class_text, primitive_text}
use Rattle.py_base.specs.Error.Brace.{brace_fault_text, spec_fault_text}
use Rattle.py_base.specs.Error.Percent.{percent_fault_text, percent_cause_text}
use Rattle.py_base.specs.declared.error.type_names.ClassName.{ClassName}
use Rattle.py_base.specs.declared.error.type_names.ClassName.TheVariants.{Bool}
use Rattle.py_base.specs.declared.error.PyError.{PyError}
use Rattle.py_base.specs.declared.error.PyError.TheVariants.{NoMemory, InvalidCode, InvalidTemplate, ExpectedUsize, IntTooLargeFor, TemplateGroup, TemplatePiece, ExpectedString, ExpectedBytes, NoSuchGroup, IntTooWide, ZeroDivision, NegativeShift, ModulusZero, NotInvertible, NegativeToUnsigned, IntTooBig, BadBase, InvalidLiteral, EmptySeparator, SubstringNotFound, IndexOutOfRange, StepZero, FillChar, Downcast, PercentParse, PercentArgs, CharRange, FormatParse, FormatSpec, NumberingSwitch, TupleIndex, Key, PositionalInMap, Maketrans, Translate, NotSubscriptable, TooDeep, HostFault, NotCarried, UnknownEncoding, InvalidUtf8, NoAttribute, BoolType, NegativeLen, NotAnIndex, IntArgs, Unsupported, DurationRange}

-- a bool is asked for in other words than the other classes
abbrev pub downcast_text : ClassName → ClassName → List ℕ
downcast_text Bool found = codes "Expected type bool, not " ++ class_text found
downcast_text expected found =
    codes "Expected type '" ++ (class_text expected ++ (codes "' but '" ++ (class_text found
    ++ codes "' found.")))

-- the bytes that an error prints
abbrev pub error_text : PyError → List ℕ
error_text NoMemory = codes "out of memory"
error_text InvalidCode = codes "invalid SRE code"
error_text InvalidTemplate = codes "invalid template"
error_text ExpectedUsize = codes "expected usize"
error_text (IntTooLargeFor name) =
    codes "Python int too large to convert to Rust " ++ primitive_text name
error_text (TemplateGroup number count) =
    codes "template group " ++ (decimal number ++ (codes " is past " ++ decimal count))
error_text (TemplatePiece place class) =
    codes "template item " ++ (decimal place ++ (codes " has class " ++ class_text class))
error_text (ExpectedString class) = codes "expected string got '" ++ (class_text class ++ codes "'")
error_text (ExpectedBytes class) =
    codes "a bytes-like object is required, not '" ++ (class_text class ++ codes "'")
error_text NoSuchGroup = codes "no such group"
error_text IntTooWide = codes "integer leaves 128 bits"
error_text (ZeroDivision kind) = zero_text kind
error_text NegativeShift = codes "negative shift count"
error_text ModulusZero = codes "pow() 3rd argument cannot be 0"
error_text NotInvertible = codes "base is not invertible for the given modulus"
error_text NegativeToUnsigned = codes "can't convert negative int to unsigned"
error_text IntTooBig = codes "int too big to convert"
error_text BadBase = codes "int() base must be >= 2 and <= 36, or 0"
error_text (InvalidLiteral base) = codes "invalid literal for int() with base " ++ decimal base
error_text EmptySeparator = codes "empty separator"
error_text SubstringNotFound = codes "substring not found"
error_text IndexOutOfRange = codes "string index out of range"
error_text StepZero = codes "slice step cannot be zero"
error_text FillChar = codes "The fill character must be exactly one character long"
error_text (Downcast expected found) = downcast_text expected found
error_text (PercentParse fault place) = percent_fault_text fault place
error_text (PercentArgs cause) = percent_cause_text cause
error_text (CharRange bound) =
    if bound == 256 then codes "%c arg not in range(256)" else codes "%c arg not in range(0x110000)"
error_text (FormatParse fault) = brace_fault_text fault
error_text (FormatSpec fault) = spec_fault_text fault
error_text (NumberingSwitch kind) = switch_text kind
error_text TupleIndex = codes "tuple index out of range"
error_text (Key key) = key_text key
error_text PositionalInMap = codes "Format string contains positional fields"
error_text (Maketrans kind) = maketrans_text kind
error_text (Translate kind) = translate_text kind
error_text (NotSubscriptable class) =
    codes "'" ++ (class_text class ++ codes "' object is not subscriptable")
error_text TooDeep = codes "nesting past 200"
error_text HostFault = codes "host fault"
error_text (NotCarried kind) = carry_text kind
error_text UnknownEncoding = codes "unknown encoding"
error_text InvalidUtf8 = codes "invalid utf-8"
error_text (NoAttribute class) =
    codes "'" ++ (class_text class ++ codes "' object has no such attribute")
error_text (BoolType class) =
    codes "__bool__ should return bool, returned type " ++ class_text class
error_text NegativeLen = codes "__len__() should return >= 0"
error_text (NotAnIndex class) =
    codes "'" ++ (class_text class ++ codes "' object cannot be interpreted as an integer")
error_text (IntArgs kind) = int_args_text kind
error_text (Unsupported class) =
    codes "unsupported format string passed to " ++ (class_text class ++ codes ".__format__")
error_text DurationRange = codes "value out of range"
